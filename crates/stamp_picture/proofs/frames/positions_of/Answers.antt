use Rattle.std.proofs.Common.{◌≡◌, ◌∙◌, ◌++◌, ◌∷◌, [], List, ℕ, ◌≤◌, sym, ap, length, arith}
use Rattle.std.proofs.lemmas.List.{take_all}
use Rattle.std.proofs.lemmas.Grind.{common_steps}
use Rattle.stamp_picture.specs.declared.bar.Bar.{Bar}
use Rattle.stamp_picture.specs.Frames.{positions_in, positions_of}
use Rattle.stamp_picture.proofs.OneByOne.{positions_more, three_positions, shown_positions, unshown_positions}
use Rattle.stamp_picture.proofs.frames.positions_of.Goals as goal
use Rattle.stamp_picture.proofs.frames.positions_of.Goals.{then-bar+in_ok-push-2, else-bar}

pub loop-bar-preserved : goal.loop-bar-preserved
loop-bar-preserved c =
    let b = c.bar-item.result in
    let old = c.loop-bar.positions.items in
    let new = c.push-in-loop-bar.new.self.items in
    let more : new ≡ old ++ positions_in b = elim c.if-bar.branch [
      | then-bar+in_ok-push-2 w ↦ shown_positions b old new w.if-bar.true
          ((rw w.positions-is at c.in_ok-push-3.ensures.items) ∙ ap (λ (positions : List ℕ). positions ++ b.end ∷ [])
          (w.in_ok-push-2.ensures.items ∙ ap (λ (positions : List ℕ). positions ++ b.point ∷ [])
          c.in_ok-push.ensures.items))
      | else-bar w ↦ unshown_positions b old new w.if-bar.false
          ((rw w.positions-is at c.in_ok-push-3.ensures.items)
          ∙ ap (λ (positions : List ℕ). positions ++ b.end ∷ []) c.in_ok-push.ensures.items)
    ] in
    more ∙ ap (λ (positions : List ℕ). positions ++ positions_in b) c.loop-bar.invariant
    ∙ sym (positions_more c.args.bars.now c.loop-bar.bar-index b c.loop-bar-test.true c.bar-item.is)

pub returns-clause-three : goal.returns-clause-three
returns-clause-three c =
    let xs = c.args.bars.now in
    let end : length xs ≤ c.loop-bar.bar-index = grind (arith, common_steps) in
    let is = c.loop-bar.invariant ∙
    ap (λ (bars : List Bar). positions_of bars) (take_all c.loop-bar.bar-index xs end) in
    rw is (three_positions xs)
