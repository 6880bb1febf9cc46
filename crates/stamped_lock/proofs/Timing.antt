-- A call that is tried until a time is over.
use Rattle.std.proofs.Common.{◌≡◌, ℕ, ◌+◌, false, List, [], ◌∷◌, ◌++◌, Option, Some, None, is_some}
use Rattle.std.proofs.Common.{Result, Ok, Err, IfErr, refl, ap, sym, ◌∙◌, subst, append-nil, append_assoc}
use Rattle.std.proofs.lemmas.List.{replicate-append-replicate}
use mathlib.Core.List.{IsPrefix}
use Rattle.stamp_core.specs.declared.call.Call.{Call}
use Rattle.stamp_core.specs.declared.reply.Reply.{Reply}
use Rattle.stamp_core.specs.declared.reply.Reply.TheVariants.{Stamp}
use Rattle.stamp_threads.proofs.Beginnings.{begins_all, begins_more, begins_further}
use Rattle.stamp_threads.proofs.SamePass.{same_further}
use Rattle.stamped_lock.specs.LockHandleView.{LockHandleView}
use Rattle.stamped_lock.specs.Made.{Made}
use Rattle.stamped_lock.specs.Replies.{stamped}
use Rattle.stamped_lock.specs.Timed.{NotFree, TriedAtLast}

pub not_tried : (call : Call) (h : LockHandleView) → NotFree call h h
not_tried call h = record {
  same = refl;
  begins = begins_all h.pass.known;
  times = 0;
  own = sym (append-nil h.pass.own);
  same_pass = record { name = refl; splits = refl };
}

-- the call was made once more, and answered that the mode isn't free
pub not_free_again : (call : Call) (h u h' : LockHandleView) → NotFree call h u →
    Made call (Stamp 0) u h' → NotFree call h h'
not_free_again call h u h' n m = record {
  same = m.same ∙ n.same;
  begins = begins_further h.pass.known u.pass.known h'.pass.known n.begins
      (subst (IsPrefix u.pass.known) (sym m.made.known)
      (begins_further u.pass.known m.made.log _ m.made.left.begins (begins_more m.made.log _)));
  times = n.times + 1;
  own = m.made.own ∙ (ap (λ (xs : List (Call × Reply)). xs ++ (call, Stamp 0) ∷ []) n.own ∙
      (append_assoc h.pass.own _ ((call, Stamp 0) ∷ []) ∙
      ap (λ (xs : List (Call × Reply)). h.pass.own ++ xs)
      (replicate-append-replicate n.times 1 (call, Stamp 0))));
  same_pass = same_further h.pass u.pass h'.pass n.same_pass m.made.same;
}

-- the first call
pub tried_first : (call : Call) (reply : Reply) (h h' : LockHandleView) → Made call reply h h' →
    TriedAtLast call reply h h'
tried_first call reply h h' m = record { between = h; before = not_tried call h; made = m }

-- one more, after one that answered that the mode isn't free
pub tried_again : (call : Call) (reply : Reply) (h u h' : LockHandleView) → TriedAtLast call (Stamp 0) h u →
    Made call reply u h' → TriedAtLast call reply h h'
tried_again call reply h u h' t m = record {
  between = u;
  before = not_free_again call h t.between u t.before t.made;
  made = m;
}

pub unanswered : (call : Call) (stamp : Option ℕ) (h h' : LockHandleView) → TriedAtLast call (stamped stamp) h h' →
    is_some stamp ≡ false → TriedAtLast call (Stamp 0) h h'
unanswered call None h h' t none = t
unanswered call (Some s) h h' t none = cc

pub of_any_error : {A E : Type 0} (P : Type 0) (r : Result A E) → P → IfErr r (λ _. P)
of_any_error P (Ok a) p = tt
of_any_error P (Err e) p = p
