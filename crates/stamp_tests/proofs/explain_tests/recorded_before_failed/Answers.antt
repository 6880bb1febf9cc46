use Rattle.std.proofs.Common.{◌≡◌, ℕ, zero, suc, [], ◌∷◌, refl, arith, Some, None}
use Rattle.std.specs.Prelude.{slice_get}
use Rattle.std.specs.List.{Contains}
use Rattle.std.proofs.lemmas.List.Elements.{All-nil, All-cons}
use Rattle.std.proofs.lemmas.Option.{none-some}
use Rattle.stamp_core.specs.Layout.{units_of}
use Rattle.stamp_core.specs.Limits.{bounds}
use Rattle.stamp_core.specs.declared.layout.Layout.TheVariants.{One}
use Rattle.stamp_core.specs.declared.call.Call.TheVariants.{WriteLock, TryWrite}
use Rattle.stamp_core.specs.declared.reply.Reply.TheVariants.{Stamp}
use Rattle.stamp_explain.specs.declared.observed.Observation.{Observation}
use Rattle.stamp_explain.specs.Observed.{ObservedHistory, observed_as}
use Rattle.stamp_explain.specs.Explained.{Effect, IsEffectOf, IsOrderIn, AreOfTwoEntries, RespectsBefore}
use Rattle.stamp_explain.proofs.Lists.{contains_first, contains_rest, pairs_cons, pairs_none}
use Rattle.stamp_tests.proofs.explain_tests.recorded_before_failed.Goals as goal

abbrev under_way : Observation
under_way = record { thread = 0; call = WriteLock; first = 1; returned = None }

abbrev failed : Observation
failed = record { thread = 1; call = TryWrite; first = 2; returned = Some (record { last = 3; reply = Stamp 0 }) }

abbrev history : ObservedHistory
history = observed_as (bounds One 127 1000) 0 (under_way ∷ failed ∷ [])

abbrev acquires : Effect
acquires = record { index = 0; entry = under_way; reply = Stamp 384 }

abbrev fails : Effect
fails = record { index = 1; entry = failed; reply = Stamp 0 }

in_order : IsOrderIn history (0 ∷ 1 ∷ [])
unfolding units_of
in_order = record {
  order = acquires ∷ fails ∷ [];
  by = record {
    effects = All-cons (IsEffectOf history.entries) acquires (fails ∷ []) (record { is_entry = refl; replies = tt })
        (All-cons (IsEffectOf history.entries) fails [] (record { is_entry = refl; replies = refl })
        (All-nil (IsEffectOf history.entries)));
    once = pairs_cons AreOfTwoEntries acquires (fails ∷ []) (All-cons (AreOfTwoEntries acquires) fails []
        (λ same. omega arith) (All-nil (AreOfTwoEntries acquires))) (pairs_cons AreOfTwoEntries fails []
        (All-nil (AreOfTwoEntries fails)) (pairs_none AreOfTwoEntries));
    returned = λ i e at has. stands i e at;
    ordered = pairs_cons RespectsBefore acquires (fails ∷ []) (All-cons (RespectsBefore acquires) fails []
        (λ before. omega arith) (All-nil (RespectsBefore acquires))) (pairs_cons RespectsBefore fails []
        (All-nil (RespectsBefore fails)) (pairs_none RespectsBefore));
    legal = (refl, (refl, tt));
  };
  are = refl;
}
  where
    stands : (i : ℕ) (e : Observation) → slice_get history.entries i ≡ Some e → Contains (0 ∷ 1 ∷ []) i
    stands zero e at = contains_first 0 (1 ∷ []) 0 refl
    stands (suc zero) e at = contains_rest 0 (1 ∷ []) 1 (contains_first 1 [] 1 refl)
    stands (suc (suc i)) e at = absurd (none-some e at)

pub recorded_in_order-requires-clause-order : goal.recorded_in_order-requires-clause-order
recorded_in_order-requires-clause-order g c = rw (
  c.in-Some.ensures.same,
  c.in-Ok.ensures.ok,
  c.in_ok-push-2.ensures.items,
  c.in_ok-push.ensures.items,
  c.new-entries.ensures.items,
) in_order
