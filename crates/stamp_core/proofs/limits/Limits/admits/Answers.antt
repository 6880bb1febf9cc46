use Rattle.std.proofs.Common.{◌≡◌, refl, sym, ◌∙◌}
use Rattle.stamp_core.proofs.WordNumbers.{admitted_word, is_within}
use Rattle.stamp_core.proofs.limits.Limits.admits.Goals as goal

pub returns-then-is_same : goal.returns-then-is_same
returns-then-is_same c =
    let same : c.args.word.layout ≡ c.args.self.now.layout = sym c.layout.ensures ∙ c.if-is_same.ensures.0 refl ∙
    c.layout-2.ensures.layout in (
      λ h. let m = c.covers.ensures.0 h in admitted_word c.args.self.now c.args.word same
          c.known-then-is_same.ensures m.0 m.1,
      λ a. c.covers.ensures.1 (is_within c.args.self.now c.args.word c.known.ensures a),
    )

pub returns-else-is_same : goal.returns-else-is_same
returns-else-is_same c = (
  λ h. cc,
  λ a. c.if-is_same.ensures.1 (c.layout.ensures ∙ a.represented.layout ∙ sym c.layout-2.ensures.layout),
)
