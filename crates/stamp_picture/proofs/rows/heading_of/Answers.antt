use Rattle.std.proofs.Common.{◌≡◌, ◌∙◌, ◌++◌, [], List, ℕ, ap, map, arith}
use Rattle.std.specs.List.{concat, range_with_len}
use Rattle.stamp_picture.specs.Rows.{number_text, heading_tail_text}
use Rattle.stamp_picture.proofs.Appending.{turn_written}
use Rattle.stamp_picture.proofs.rows.heading_of.Goals as goal

pub loop-lane-preserved : goal.loop-lane-preserved
loop-lane-preserved c =
    turn_written number_text c.loop-lane.lane [] _ _ c.loop-lane.invariant
    (rw (c.deref.ensures ∙ c.in_ok-number.ensures) at c.in_ok-push_text.ensures)

pub returns : goal.returns
returns c =
    let all : c.loop-lane.lane ≡ c.args.lanes = omega arith in
    let numbers = c.loop-lane.invariant ∙ ap (λ (n : ℕ). concat (map number_text (range_with_len 0 n))) all in
    c.in_ok-push_text-2.ensures ∙ ap (λ (text : List ℕ). text ++ heading_tail_text) numbers
