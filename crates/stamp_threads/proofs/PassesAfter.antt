-- The passes of a lock's seats, as one seat makes a step: they come to know the whole history, or one of them adds a
-- call to it.
use Rattle.std.proofs.Common.{◌≡◌, ℕ, List, [], ◌∷◌, ◌++◌, set, refl, ap, sym, ◌∙◌, subst, Some}
use Rattle.std.specs.Prelude.{IsTrue}
use mathlib.Core.Option.{some}
use mathlib.Core.List.{IsPrefix}
use lib.ListN.{get_elem?}
use Rattle.stamp_core.specs.Call.{is_lock_call}
use Rattle.stamp_core.specs.Limits.{Bounds}
use Rattle.stamp_core.specs.Transition.{Transition}
use Rattle.stamp_core.specs.declared.call.Call.{Call}
use Rattle.stamp_core.specs.declared.reply.Reply.{Reply}
use Rattle.stamp_threads.specs.PassName.{HasGivenAll}
use Rattle.stamp_threads.specs.PassView.{IsPart, entry, every, made_by}
use Rattle.stamp_threads.specs.inner.PassView.{knowing, adding, finding}
use Rattle.stamp_threads.specs.inner.Seats.{AreSeated}
use Rattle.stamp_threads.specs.LockLog.{LockLog, transition_after, IsLegalLog}
use Rattle.stamp_threads.specs.LockPass.{LockPassView, IsConsistentWith}
use Rattle.stamp_threads.proofs.Beginnings.{begins_all}
use Rattle.stamp_threads.proofs.ListElements.{only_one}
use Rattle.stamp_threads.proofs.MadeBy.{Grows, grows_none, grows_one, made_by-same}
use Rattle.stamp_threads.proofs.SeatSteps.{Same, same_one, stands_on, own_given, other_part}
use Rattle.stamp_threads.proofs.LockLogs.{legal_longer}

module _ (limits : Bounds) (log : LockLog) (roots : ℕ) (views : List (List LockPassView))
    (passes : AreSeated (IsPart every log) roots log views) (id : ℕ) where
  -- the seat's passes know all of the history
  module _ (vs ws : List LockPassView) (log' : LockLog) (at : get_elem? views id ≡ some vs)
      (same : Same vs ws) (grows : Grows vs log log')
      (all : (k : ℕ) (w : LockPassView) → get_elem? ws k ≡ some w →
      (w.known ≡ log') × (made_by every w.name log' ≡ w.own)) where
    own_parts : (k : ℕ) (w : LockPassView) → get_elem? ws k ≡ some w → IsPart every log' w
    own_parts k w h = let a = all k w h in
        record {
          known = subst (λ (l : LockLog). IsPrefix l log') (sym a.0) (begins_all log');
          own = a.1;
          given = own_given (IsPart every log) roots log views passes id vs ws at same every log'
              grows (λ _ f. f) k w h;
        }

    pub all_consistent : IsLegalLog limits log' → (k : ℕ) (w : LockPassView) → get_elem? ws k ≡ some w →
        IsConsistentWith limits w
    all_consistent legal k w h =
        let f = own_parts k w h in
        let a = all k w h in
        record {
          legal = subst (IsLegalLog limits) (sym a.0) legal;
          own = ap (made_by every w.name) a.0 ∙ f.own;
          given = subst (HasGivenAll w.name w.splits) (sym a.0) f.given;
        }

    pub passes_after : AreSeated (IsPart every log') roots log' (set views id ws)
    passes_after = stands_on (IsPart every log) roots log views passes id vs ws at same (IsPart every log') log'
        grows own_parts
        (other_part (IsPart every log) roots log views passes id vs ws at same every log' grows (λ _ f. f))

  -- the seats after a step that leaves this pass alone there, and that what it knows is consistent
  abbrev pub Leaves : LockLog → LockPassView → Type 0
  Leaves log' w = AreSeated (IsPart every log') roots log' (set views id (w ∷ [])) × IsConsistentWith limits w

  -- the seat holds one pass
  module _ (v : LockPassView) (at : get_elem? views id ≡ some (v ∷ [])) (legal : IsLegalLog limits log)
      (word : ℕ) where
    pub part_now : IsPart every log v
    part_now = passes.fits id 0 v (v ∷ [], at, refl)

    leaves : (w : LockPassView) (log' : LockLog) → Same (v ∷ []) (w ∷ []) → Grows (v ∷ []) log log' →
        IsLegalLog limits log' → w.known ≡ log' → made_by every w.name log' ≡ w.own → Leaves log' w
    leaves w log' same grows legal' known own =
        let all = only_one (λ k u. (u.known ≡ log') × (made_by every u.name log' ≡ u.own)) w (known, own) in (
          passes_after (v ∷ []) (w ∷ []) log' at same grows all,
          all_consistent (v ∷ []) (w ∷ []) log' at same grows all legal' 0 w refl,
        )

    pub knows_all : Leaves log (knowing (finding v word) log)
    knows_all =
        let w : LockPassView = knowing (finding v word) log in
        leaves w log (same_one v w refl refl) (grows_none (v ∷ []) log) legal refl part_now.own

    pub makes_call : (call : Call) → IsTrue (is_lock_call call) → (t : Transition) →
        transition_after limits log call ≡ Some t →
        Leaves (log ++ entry v.name (call, t.reply) ∷ []) (adding (finding v word) log (call, t.reply))
    makes_call call lock t is =
        let m : Call × Reply = (call, t.reply) in
        let w : LockPassView = adding (finding v word) log m in
        leaves w (log ++ entry v.name m ∷ []) (same_one v w refl refl) (grows_one v log m)
        (legal_longer limits log call v.name t is lock legal) refl
        (made_by-same every v.name log m ∙ ap (λ (l : List (Call × Reply)). l ++ m ∷ []) part_now.own)
