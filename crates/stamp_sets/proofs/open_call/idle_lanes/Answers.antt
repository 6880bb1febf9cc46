use Rattle.std.proofs.Common.{◌≡◌, ◌∷◌, [], ◌++◌, ◌∙◌, ap, List, None, Option, arith, ℕ}
use Rattle.std.specs.Prelude.{replicate}
use Rattle.std.proofs.lemmas.List.{replicate_more}
use Rattle.stamp_sets.specs.declared.open_call.OpenCall.{OpenCall}
use Rattle.stamp_sets.proofs.open_call.idle_lanes.Goals as goal

pub loop-count-preserved : goal.loop-count-preserved
loop-count-preserved c = c.in_ok-push.ensures.items ∙
    ap (λ (xs : List (Option OpenCall)). xs ++ None ∷ []) c.loop-count.invariant ∙
    replicate_more {X = Option OpenCall} c.loop-count.count None

pub returns : goal.returns
returns c = let all : c.loop-count.count ≡ 64 = omega arith in
    c.loop-count.invariant ∙ ap (λ (n : ℕ). replicate {A = Option OpenCall} n None) all
