use Rattle.std.proofs.Common.{◌≡◌, ℕ, refl, sym, ◌∙◌}
use Rattle.std.specs.Prelude.{Option, Some, None, MatchOption}
use Rattle.stamp_core.specs.Limits.{widest}
use Rattle.stamp_core.specs.Word.{word_in}
use Rattle.stamp_core.specs.declared.layout.Layout.{Layout}
use Rattle.stamped_c.specs.Codes.{layout_by_code}
use Rattle.stamped_c.specs.Answers.{IsOpening}
use Rattle.stamped_c.proofs.laws.one_opening.Goals as goal

one : (layout : Option Layout) (a b : ℕ) → MatchOption layout (a ≡ 0) (λ l. IsOpening l (word_in l a)) →
    MatchOption layout (b ≡ 0) (λ l. IsOpening l (word_in l b)) → a ≡ b
one None a b x y = x ∙ sym y
one (Some l) a b x y = (x (widest l) refl).spelled ∙ sym (y (widest l) refl).spelled

pub returns : goal.returns
returns c = λ layout. one (layout_by_code layout)
