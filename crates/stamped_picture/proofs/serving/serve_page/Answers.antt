use Rattle.std.proofs.Common.{ap}
use Rattle.stamp_cli.proofs.HandedOn.{same_fault}
use Rattle.stamped_picture.specs.declared.faults.PictureFault.TheVariants.{Serve}
use Rattle.stamped_picture.proofs.serving.serve_page.Goals as goal

pub returns-in_err-page-clause-refused : goal.returns-in_err-page-clause-refused
returns-in_err-page-clause-refused g c =
    same_fault c.from_residual.result c.in_err-page.field-0.0 _ c.from_residual.ensures.1
    (λ read write memory. c.in_err-page.ensures.err read memory)

pub returns-in_err-write_text-clause-refused : goal.returns-in_err-write_text-clause-refused
returns-in_err-write_text-clause-refused g c =
    same_fault c.from_residual-in_err-write_text.result (Serve c.in_err-write_text.field-0.0) _
    c.from_residual-in_err-write_text.ensures.1
    (λ read write memory. absurd (write (ap Serve c.in_err-write_text.ensures.err)))
