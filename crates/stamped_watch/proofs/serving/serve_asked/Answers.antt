use Rattle.std.proofs.Common.{rules}
use Rattle.stamped_watch.proofs.Watching.{of_ok}
use Rattle.stamped_watch.proofs.serving.serve_asked.Goals as goal

pub returns : goal.returns
returns g c = of_ok c.args.asked _ _ c.in_ok-verdict.field-0 _ c.in_ok-verdict.ensures.reads
    c.in_ok-verdict.ensures.ok c.in_ok-verdict.ensures.writes c.in_ok-verdict.ensures.told (search rules)
    (search rules) (search rules)
