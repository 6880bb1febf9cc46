use Rattle.std.proofs.Common.{◌≡◌, ℕ, List, length, sym, ap, subst, arith}
use Rattle.std.proofs.lemmas.Bool.{false≢true}
use Rattle.stamp_core.specs.Limits.{Bounds}
use Rattle.stamp_explain.specs.declared.observed.Observation.{Observation}
use Rattle.stamp_explain.specs.Observed.{IsSmall, observed_as}
use Rattle.stamp_explain.specs.Cut.{begun_by, cut_entries, seen_at}
use Rattle.stamp_explain.proofs.Seeing.{seen_is_small, all_seen}
use Rattle.stamp_explain.proofs.cut.seen_at.Goals as goal

pub unreachable-requires : goal.unreachable-requires
unreachable-requires c =
    let h = c.args.observed.now in
    let seen : c.loop-i.seen.items ≡ begun_by c.args.last (cut_entries c.args.last c.args.bound 0 h.entries) =
    all_seen c.args.last c.args.bound c.loop-i.i h.entries c.loop-i.seen.items c.loop-i.invariant
    (omega (
      arith,
      c.loop-i-test.false,
      ap (λ (es : List Observation). length es) c.entries-entry-items.ensures.entries,
    )) in
    let small : IsSmall (seen_at c.args.last c.args.bound h) = seen_is_small h c.args.last c.args.bound
    c.entries-entry-items.ensures.small in
    false≢true (c.in-None.ensures.some.1
    (subst (λ (es : List Observation). IsSmall (observed_as c.limits.result c.width.result es)) (sym seen)
    (subst (λ (w : ℕ). IsSmall (observed_as c.limits.result w (seen_at c.args.last c.args.bound h).entries))
    (sym c.width.ensures.width)
    (subst (λ (l : Bounds). IsSmall (observed_as l h.width (seen_at c.args.last c.args.bound h).entries))
    (sym c.limits.ensures) small))))
