-- The passes of a table's seats, as one seat makes a step: what the lock's own lemmas say of them, of views that hold
-- more than a pass.
use Rattle.std.proofs.Common.{◌≡◌, ◌≢◌, ℕ, List, [], ◌∷◌, ◌++◌, set, refl, sym, subst, Some}
use Rattle.std.proofs.lemmas.List.{map-set}
use Rattle.std.specs.Prelude.{IsTrue}
use mathlib.Core.Option.{some}
use lib.ListN.{get_elem?}
use Rattle.atomic_table.proofs.Lists.{at_map}
use Rattle.stamp_core.specs.Call.{is_lock_call}
use Rattle.stamp_core.specs.Limits.{Bounds}
use Rattle.stamp_core.specs.Transition.{Transition}
use Rattle.stamp_core.specs.declared.call.Call.{Call}
use Rattle.stamp_threads.specs.PassView.{IsPart, IsSamePass, every, entry}
use Rattle.stamp_threads.specs.inner.PassView.{knowing, adding, finding}
use Rattle.stamp_threads.specs.inner.Seats.{AreSeated}
use Rattle.stamp_threads.specs.LockLog.{LockLog, transition_after, IsLegalLog}
use Rattle.stamp_threads.specs.LockPass.{LockPassView, IsConsistentWith}
use Rattle.stamp_threads.proofs.PassesAfter.{Leaves, part_now as part_of_pass, knows_all as all_known}
use Rattle.stamp_threads.proofs.PassesAfter.{makes_call as call_made}
use Rattle.stamp_threads.proofs.ListElements.{only_one}
use Rattle.stamp_threads.proofs.MadeBy.{grows_none}
use Rattle.stamp_threads.proofs.SeatSteps.{same_one, stands_on, other_part}
use Rattle.stamped_value.specs.declared.view.ValueView.{ValueView}
use Rattle.stamped_value.specs.inner.VersionRule.{passes_of}

module _ {T : Type 0} (limits : Bounds) (log : LockLog) (roots : ℕ) (views : List (ValueView T))
    (legal : IsLegalLog limits log) (passes : AreSeated (IsPart every log) roots log (passes_of views))
    (id : ℕ) (v : ValueView T) (at : get_elem? views id ≡ some v) where
  passes_at : get_elem? (passes_of views) id ≡ some (v.pass ∷ [])
  passes_at = at_map (λ (u : ValueView T). u.pass ∷ []) views id v at

  pub part_now : IsPart every log v.pass
  part_now = part_of_pass limits log roots (passes_of views) passes id v.pass passes_at legal 0

  -- the seats after the step, and that what the seat knows then is consistent
  abbrev pub Passes : LockLog → ValueView T → Type 0
  Passes log' w = AreSeated (IsPart every log') roots log' (passes_of (set views id w)) ×
      IsConsistentWith limits w.pass

  passes_to : (log' : LockLog) (p : LockPassView) → Leaves limits log roots (passes_of views) passes id log' p →
      (w : ValueView T) → w.pass ≡ p → Passes log' w
  passes_to log' p leaves w is =
      let here = subst (Leaves limits log roots (passes_of views) passes id log') (sym is) leaves in (
        subst (AreSeated (IsPart every log') roots log') (sym (map-set (λ (u : ValueView T). u.pass ∷ []) views id w))
            here.0,
        here.1,
      )

  pub knows_all : (w : ValueView T) (word : ℕ) → w.pass ≡ knowing (finding v.pass word) log → Passes log w
  knows_all w word is = passes_to log (knowing (finding v.pass word) log)
      (all_known limits log roots (passes_of views) passes id v.pass passes_at legal word) w is

  pub makes_call : (call : Call) → IsTrue (is_lock_call call) → (t : Transition) →
      transition_after limits log call ≡ Some t → (w : ValueView T) (word : ℕ) →
      w.pass ≡ adding (finding v.pass word) log (call, t.reply) →
      Passes (log ++ entry v.pass.name (call, t.reply) ∷ []) w
  makes_call call lock t is_t w word is = passes_to (log ++ entry v.pass.name (call, t.reply) ∷ [])
      (adding (finding v.pass word) log (call, t.reply))
      (call_made limits log roots (passes_of views) passes id v.pass passes_at legal word call lock t is_t) w is

  -- where the seat keeps its name, and still knows a part of the history
  pub knows_part : (w : ValueView T) → IsPart every log w.pass → IsSamePass v.pass w.pass →
      AreSeated (IsPart every log) roots log (passes_of (set views id w))
  knows_part w part is =
      let vs = v.pass ∷ [] in let ws = w.pass ∷ [] in
      let same = same_one v.pass w.pass is.name is.splits in let grows = grows_none vs log in
      subst (AreSeated (IsPart every log) roots log) (sym (map-set (λ (u : ValueView T). u.pass ∷ []) views id w))
      (stands_on (IsPart every log) roots log (passes_of views) passes id vs ws passes_at same (IsPart every log) log
      grows (only_one (λ k u. IsPart every log u) w.pass part)
      (other_part (IsPart every log) roots log (passes_of views) passes id vs ws passes_at same every log grows
      (λ _ f. f)))

  -- another seat has another name
  pub names_apart : (k : ℕ) (u : ValueView T) → get_elem? views k ≡ some u → k ≢ id → v.pass.name ≢ u.pass.name
  names_apart k u here other e =
      let here_too = at_map (λ (x : ValueView T). x.pass ∷ []) views k u here in
      other (sym (passes.apart id 0 k 0 v.pass u.pass (v.pass ∷ [], passes_at, refl) (u.pass ∷ [], here_too, refl) e).0)
