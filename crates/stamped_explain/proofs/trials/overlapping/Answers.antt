use Rattle.std.proofs.Common.{◌≡◌, ◌+◌, ◌-◌, ◌<◌, ℕ, length, drop, Option, refl, sym, subst, arith}
use Rattle.stamped_explain.specs.inner.Trials.{IsFirstOf}
use Rattle.stamped_explain.proofs.Overlaps.{more, last_more}
use Rattle.stamped_explain.proofs.trials.overlapping.Goals as goal
use Rattle.stamped_explain.proofs.trials.overlapping.Goals.{then-overlaps, else-overlaps}

pub loop-i-preserved : goal.loop-i-preserved
loop-i-preserved c =
    let xs = c.args.entries.now in
    let i = c.loop-i.i in
    let first = c.index-first.result.now in
    let e = c.index-entries-i.result in
    let below : i < length xs = c.loop-i-test.true in
    let k = length xs - 1 - i in
    let within : k < length c.in_ok-firsts.firsts.items = omega (arith, c.in_ok-firsts.ensures.all) in
    let behind : length xs - k ≡ i + 1 = omega arith in
    let is_first : IsFirstOf (drop (i + 1) xs) first = subst (λ (n : ℕ). IsFirstOf (drop n xs) first) behind
    (subst (λ (f : Option ℕ). IsFirstOf (drop (length xs - k) xs) f) (sym c.index-first.ensures)
    (c.in_ok-firsts.ensures.each k _ within)) in
    let adds = λ (added : ℕ). more xs i c.loop-i.count e c.loop-i.last first c.overlaps.result added below
    c.index-entries-i.is c.loop-i.invariant.last is_first c.loop-i.invariant.counted c.overlaps.ensures in
    record {
      few = elim c.if-overlaps.branch [ then-overlaps w ↦ omega arith | else-overlaps w ↦ omega arith ];
      last = last_more xs i e c.loop-i.last c.greater-last.result below c.index-entries-i.is c.loop-i.invariant.last
          c.greater-last.ensures;
      counted = elim c.if-overlaps.branch [
        | then-overlaps w ↦ omega (arith, adds 1 (rw w.if-overlaps.true refl), w.count-is)
        | else-overlaps w ↦ omega (arith, adds 0 (rw w.if-overlaps.false refl), w.count-is)
      ];
    }
