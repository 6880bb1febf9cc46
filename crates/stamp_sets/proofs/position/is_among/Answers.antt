use Rattle.std.proofs.Common.{◌≢◌, ◌∙◌, refl, sym}
use Rattle.std.proofs.lemmas.List.{take_all}
use Rattle.std.proofs.lemmas.List.Elements.{All-more, All-same, All-contains}
use Rattle.std.proofs.lemmas.Bool.{false≢true}
use Rattle.stamp_sets.specs.declared.position.Position.{Position}
use Rattle.stamp_sets.proofs.position.is_among.Goals as goal

pub loop-other-preserved : goal.loop-other-preserved
loop-other-preserved c = All-more (λ (q : Position). q ≢ c.args.position.now) c.args.list.now c.loop-other.other-index
    (record { state = 0; in_effect = 0; free = 0 }) c.loop-other-test.true c.loop-other.invariant
    (λ same. false≢true (sym c.if-is_same.false ∙ c.is_same.ensures.1 same))

pub returns : goal.returns
returns c = (
  λ found. absurd (false≢true found),
  λ has. absurd (All-contains (λ (q : Position). q ≢ c.args.position.now) c.args.list.now c.args.position.now
      (All-same (λ (q : Position). q ≢ c.args.position.now) c.args.list.now _
      (sym (take_all c.loop-other.other-index c.args.list.now c.loop-other-test.false)) c.loop-other.invariant) has
      refl),
)
