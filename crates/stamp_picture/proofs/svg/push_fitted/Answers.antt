use Rattle.std.proofs.Common.{◌≡◌, ◌∙◌, ◌++◌, ◌-◌, ◌/◌, List, ℕ, length, codes, false, sym, ap, append_assoc, arith}
use Rattle.std.specs.Prelude.{◌==◌, nat_le}
use Rattle.stamp_picture.proofs.Narrow.{cut_escaped}
use Rattle.stamp_picture.proofs.svg.push_fitted.Goals as goal

pub returns-in_ok-push_text : goal.returns-in_ok-push_text
returns-in_ok-push_text c =
    let line = c.args.line.now in
    let room = (c.args.width - 4) / 7 in
    let is = c.saturating_sub.ensures in
    let long : nat_le (length line) room ≡ false = grind (arith, is, c.if-line-room.false) in
    let some : (room == 0) ≡ false = grind (arith, is, c.if-room-gt0.true) in
    c.in_ok-push_text.ensures ∙ ap (λ (text : List ℕ). text ++ codes "&gt;") (rw is at c.in_ok-push_escaped-2.ensures)
    ∙ append_assoc _ _ (codes "&gt;")
    ∙ ap (λ (text : List ℕ). c.args.text.now.items ++ text) (sym (cut_escaped room line long some))
