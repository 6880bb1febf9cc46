-- The word at a start is one of the lock.
use Rattle.std.proofs.Common.{◌≡◌, ℕ, List, Option, Some, None, ap, refl, subst}
use Rattle.std.specs.Prelude.{option_and_then, option_map, slice_get, unwrap_or}
use Rattle.std.specs.List.{All}
use Rattle.std.proofs.lemmas.List.Elements.{All-get_or}
use Rattle.std.proofs.lemmas.Option.{get_or_from_slice_get, none-some, slice_get_within}
use Rattle.stamp_core.specs.Call.{is_lock_call}
use Rattle.stamp_core.specs.Limits.{Bounds}
use Rattle.stamp_core.specs.Word.{IsAdmitted, Represents, word_at}
use Rattle.stamp_runs.specs.Own.{own_events}
use Rattle.stamp_runs.specs.declared.event.Event.{Event}
use Rattle.stamp_sets.specs.Judged.{judged}
use Rattle.stamp_sets.specs.Kept.{IsPossible}
use Rattle.stamp_sets.specs.Positions as sets
use Rattle.stamp_sets.specs.Watch.{IsWatching}
use Rattle.stamp_sets.specs.declared.object.Object.{Object}
use Rattle.stamp_sets.specs.declared.object.Object.TheVariants.{Lock}
use Rattle.stamp_sets.specs.declared.open_call.OpenCall.{OpenCall}
use Rattle.stamp_sets.specs.declared.position.Position.{Position}
use Rattle.stamp_sets.specs.declared.watch.Watch.{Watch}
use Rattle.stamp_watch.specs.Start.{place_of, word_of}

module _ (limits : Bounds) (past : List Event) (table : List (Option OpenCall)) (items : List Position) (place : ℕ)
    (each : All (IsPossible (judged (Lock limits)) past table) items) (bits : ℕ) where
  found_is : (found : Option Position) → slice_get items place ≡ found →
      option_map (λ (p : Position). p.state) found ≡ Some bits → IsAdmitted limits (word_at limits bits)
  found_is None at same = cc
  found_is (Some p) at same =
      let possible = subst (IsPossible (judged (Lock limits)) past table) (get_or_from_slice_get items place p p at)
      (All-get_or (IsPossible (judged (Lock limits)) past table) items place p (slice_get_within items place p at) each)
      in
      let word : p.state ≡ bits = ap (λ (o : Option ℕ). unwrap_or o 0) same in
      record {
        events = possible.position.state;
        represented = subst (λ (n : ℕ). Represents limits (word_at limits n) possible.position.state) word
            possible.reads.state;
      }

module _ (past : List Event) (watch : Watch) (watching : IsWatching past watch) (bits : ℕ) where
  each : All (IsPossible (judged (Lock watch.limits)) (own_events is_lock_call past) watch.lock.table.items)
      watch.lock.positions.items
  each = subst (λ (o : Object). All (IsPossible (judged o) (own_events is_lock_call past) watch.lock.table.items)
      watch.lock.positions.items) watching.lock_is watching.lock.keeps.kept.possible

  -- the position of a start, whatever its place is told by
  admitted_at : {A : Type 0} (o : Option A) (place : A → ℕ) →
      option_and_then (λ (a : A). sets.word_of watch (place a)) o ≡ Some bits →
      IsAdmitted watch.limits (word_at watch.limits bits)
  admitted_at None place none = absurd (none-some bits none)
  admitted_at (Some a) place one = found_is watch.limits (own_events is_lock_call past) watch.lock.table.items
      watch.lock.positions.items (place a) each bits (slice_get watch.lock.positions.items (place a)) refl one

  pub is_admitted : (start : ℕ) → word_of watch start ≡ Some bits → IsAdmitted watch.limits (word_at watch.limits bits)
  is_admitted start is = admitted_at (place_of watch start) (λ s. s.word) is
