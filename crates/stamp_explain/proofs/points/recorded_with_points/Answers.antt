use Rattle.std.proofs.Common.{ℕ, [], sym, subst}
use Rattle.std.proofs.lemmas.Bool.{false≢true}
use Rattle.std.specs.Option.{IsSome}
use Rattle.stamp_core.specs.Limits.{Bounds}
use Rattle.stamp_core.specs.Record.{recorded, IsRecorded}
use Rattle.stamp_explain.proofs.points.recorded_with_points.Goals as goal

pub unreachable-requires : goal.unreachable-requires
unreachable-requires c = false≢true (subst IsSome c.in_default.is (c.of.ensures.some.1
    (subst (λ (limits : Bounds). IsRecorded (recorded limits c.width.result c.in_ok-entries.entries.items []))
    (sym c.limits.ensures)
    (subst (λ (width : ℕ). IsRecorded (recorded c.args.observed.now.limits width c.in_ok-entries.entries.items []))
    (sym c.width.ensures.width) c.in_ok-entries.ensures.recorded))))
