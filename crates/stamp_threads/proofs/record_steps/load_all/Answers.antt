use Rattle.std.proofs.Common.{take, ap, arith, length-take-le}
use Rattle.stamp_threads.specs.RecordPass.{first_of}
use Rattle.stamp_threads.specs.inner.RecordPass.{Seated}
use Rattle.stamp_threads.proofs.record_steps.load_all.Goals as goal

pub load_word-requires-clause-loading : goal.load_word-requires-clause-loading
load_word-requires-clause-loading g c =
    let r = c.requires.loading in (
      r.0,
      take c.loop-i.i c.loop-i.into,
      ap (λ (m : Seated). (first_of m.0).phase) (c.loop-i.invariant.learned r.0 r.1),
      length-take-le c.loop-i.i c.loop-i.into (omega arith),
    )
