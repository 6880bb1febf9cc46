use Rattle.std.proofs.Common.{◌∙◌, ◌++◌, ◌∷◌, [], List, sym, ap, arith}
use Rattle.std.specs.Prelude.{if◌then◌else◌}
use Rattle.stamp_picture.specs.declared.bar.Bar.{Bar}
use Rattle.stamp_picture.specs.Window.{meets}
use Rattle.stamp_picture.specs.Bars.{bar_of}
use Rattle.stamp_picture.proofs.EachInTurn.{bars_more, kept, left_out}
use Rattle.stamp_picture.proofs.picture.bars_of.Goals as goal
use Rattle.stamp_picture.proofs.picture.bars_of.Goals.{then-meets+in_ok-push, else-meets}

pub loop-number-preserved : goal.loop-number-preserved
loop-number-preserved c =
    let e = c.index-entries-number.result in
    let i = c.loop-number.number in
    let bar = bar_of c.args.window i e in
    let old = c.loop-number.bars.items in
    let more = bars_more c.args.window c.args.entries.now i e c.loop-number-test.true c.index-entries-number.is ∙
    ap (λ (bars : List Bar). bars ++ (if meets c.args.window e then bar ∷ [] else [])) (sym c.loop-number.invariant) in
    elim c.if-meets.branch [
      | then-meets+in_ok-push w ↦ kept (meets c.args.window e) bar old _ _ more (sym c.meets.ensures ∙ w.if-meets.true)
          (grind (arith, w))
      | else-meets w ↦ left_out (meets c.args.window e) bar old _ _ more (sym c.meets.ensures ∙ w.if-meets.false)
          (grind (arith, w))
    ]
