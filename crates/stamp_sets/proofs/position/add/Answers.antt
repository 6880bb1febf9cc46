use Rattle.std.proofs.Common.{List, ◌∙◌, sym, subst}
use Rattle.std.specs.List.{Contains}
use Rattle.std.proofs.lemmas.Bool.{false≢true}
use Rattle.stamp_sets.specs.declared.position.Position.{Position}
use Rattle.stamp_sets.proofs.Expanding.{adds_none, adds_one}
use Rattle.stamp_sets.proofs.position.add.Goals as goal

pub returns-in_ok-push : goal.returns-in_ok-push
returns-in_ok-push c = adds_one c.args.list.now.items _ c.args.position c.in_ok-push.ensures.items
    (λ has. false≢true (sym c.if-not-is_among.true ∙ c.is_among.ensures.1
    (subst (λ (xs : List Position). Contains xs c.args.position) (sym c.as_slice.ensures.value) has)))

pub returns-else-not-is_among : goal.returns-else-not-is_among
returns-else-not-is_among c = adds_none c.args.list.now.items c.args.position
    (subst (λ (xs : List Position). Contains xs c.args.position) c.as_slice.ensures.value
    (c.is_among.ensures.0 c.if-not-is_among.false))
