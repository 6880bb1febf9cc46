-- A call that is tried until a time is over.
use Rattle.std.proofs.Common.{◌≡◌, ℕ, ◌+◌, ◌⊎◌, inl, inr, List, [], ◌∷◌, ◌++◌, Option, Some, None}
use Rattle.std.proofs.Common.{◌≡◌, ℕ, ◌+◌, ◌⊎◌, inl, inr, List, [], ◌∷◌, ◌++◌, Option, Some, None}
use Rattle.std.proofs.Common.{refl, ap, sym, ◌∙◌, subst, append-nil, append_assoc}
use Rattle.std.proofs.lemmas.List.{replicate-append-replicate}
use mathlib.Core.List.{IsPrefix}
use Rattle.stamp_core.specs.Limits.{Bounds, AreInRange}
use Rattle.stamp_core.specs.LockEvent.{LockEvent}
use Rattle.stamp_core.specs.LockEvent.LockEvent.{WriteAcquired, WriteReleased, ReadAcquired, ReadReleased}
use Rattle.stamp_core.specs.Transition.{Transition}
use Rattle.stamp_core.specs.declared.call.Call.{Call}
use Rattle.stamp_core.specs.declared.call.Call.TheVariants.{TryWrite, TryRead}
use Rattle.stamp_core.specs.declared.reply.Reply.{Reply}
use Rattle.stamp_core.specs.declared.reply.Reply.TheVariants.{Stamp}
use Rattle.stamp_threads.proofs.Beginnings.{begins_all, begins_more, begins_further}
use Rattle.stamp_threads.proofs.SamePass.{same_further}
use Rattle.stamped_value.specs.declared.view.Held.{Held}
use Rattle.stamped_value.specs.declared.view.Held.TheVariants.{Free, Reading}
use Rattle.stamped_value.specs.Held.{HasHold, stamp_held}
use Rattle.stamped_value.specs.Stands.{Stands}
use Rattle.stamped_value.specs.Timed.{HoldsNothing, NotFree, TriedAtLast}
use Rattle.stamped_value.specs.ValueMade.{Seen, Does, DoesBy, ValueMade}
use Rattle.stamped_value.specs.ValueLock.{ValueLock, ValueToken}
use Rattle.stamped_value.specs.ValueCalls.{Calls}
use Rattle.stamped_value.specs.inner.ValueLock.{token}
use Rattle.stamped_value.proofs.Outcomes.{ByStamp, IsAsBefore, BecameWriter, tried_read, tried_write}

module _ {T : Type 0} where
  -- a seat knows the values that its call found, and one more if any
  does_more : (appended : List LockEvent) (reply : Reply) (v : Seen T) (values : List T) (w : Seen T) →
      Does appended reply v values w → IsPrefix values w.0.values
  does_more [] reply v values w does = rw does.2 (begins_all values)
  does_more (WriteAcquired ∷ []) (Stamp s) v values w does = rw does.2.2 (begins_all values)
  does_more (ReadAcquired ∷ []) (Stamp s) v values w does = rw does.2.2 (begins_all values)
  does_more (ReadReleased ∷ []) reply v values w does = rw does.2 (begins_all values)
  does_more (WriteReleased ∷ []) reply v values w does = rw does.2.2 (begins_more values (does.0 ∷ []))
  does_more (ReadReleased ∷ WriteAcquired ∷ []) (Stamp s) v values w does = rw does.3.2 (begins_all values)
  does_more (WriteReleased ∷ ReadAcquired ∷ []) (Stamp s) v values w does =
      rw does.2.2 (begins_more values (does.0 ∷ []))
  does_more _ reply v values w does = absurd does

  does_more_by : (t : Option Transition) (v : Seen T) (values : List T) (w : Seen T) → DoesBy t v values w →
      IsPrefix values w.0.values
  does_more_by None v values w does = does_more [] (Stamp 0) v values w does
  does_more_by (Some t) v values w does = does_more t.appended t.reply v values w does

  values_go_on : (limits : Bounds) (call : Call) (reply : Reply) (v w : Seen T) → ValueMade limits call reply v w →
      IsPrefix v.0.values w.0.values
  values_go_on limits call reply v w m =
      begins_further v.0.values m.values w.0.values m.begins (does_more_by _ v m.values w m.does)

  nothing_still : (v w : Seen T) → HoldsNothing v → IsAsBefore v w → HoldsNothing w
  nothing_still v w free as_before = (as_before.0 ∙ free.0, as_before.1 ∙ free.1)

  -- a seat that holds no mode has nothing of the value
  pub free_has_nothing : (limits : Bounds) (v : Seen T) → Stands limits v → v.0.held ≡ Free → HoldsNothing v
  free_has_nothing limits v stands free = (free, subst (λ (h : Held). HasHold h v.0.values v.1) free stands.hold)

  not_tried : (call : Call) (a : ValueToken T) → HoldsNothing a.me → NotFree call a a
  not_tried call a nothing = record {
    lock = refl;
    begins = begins_all a.me.0.pass.known;
    values = begins_all a.me.0.values;
    times = 0;
    own = sym (append-nil a.me.0.pass.own);
    same_pass = record { name = refl; splits = refl };
    nothing = nothing;
  }

  -- the call was made once more, and answered that the mode isn't free
  not_free_again : (call : Call) (a u b : ValueToken T) → NotFree call a u → Calls call (Stamp 0) u b →
      HoldsNothing b.me → NotFree call a b
  not_free_again call a u b n c nothing = let m = c.made.made in record {
    lock = c.lock ∙ n.lock;
    begins = begins_further a.me.0.pass.known u.me.0.pass.known b.me.0.pass.known n.begins
        (subst (IsPrefix u.me.0.pass.known) (sym m.known)
        (begins_further u.me.0.pass.known m.log _ m.left.begins (begins_more m.log _)));
    values = begins_further a.me.0.values u.me.0.values b.me.0.values n.values
        (values_go_on u.lock.limits call (Stamp 0) u.me b.me c.made);
    times = n.times + 1;
    own = m.own ∙ (ap (λ (xs : List (Call × Reply)). xs ++ (call, Stamp 0) ∷ []) n.own ∙
        (append_assoc a.me.0.pass.own _ ((call, Stamp 0) ∷ []) ∙
        ap (λ (xs : List (Call × Reply)). a.me.0.pass.own ++ xs)
        (replicate-append-replicate n.times 1 (call, Stamp 0))));
    same_pass = same_further a.me.0.pass u.me.0.pass b.me.0.pass n.same_pass m.same;
    nothing = nothing;
  }

  module _ (lock : ValueLock T) where
    -- the first call
    pub tried_first : (call : Call) (reply : Reply) (v w : Seen T) → HoldsNothing v →
        Calls call reply (token lock v) (token lock w) → TriedAtLast call reply (token lock v) (token lock w)
    tried_first call reply v w nothing c =
        record { between = token lock v; before = not_tried call (token lock v) nothing; made = c }

    -- one more, after one that answered that the mode isn't free
    pub tried_again : (call : Call) (reply : Reply) (v u w : Seen T) →
        TriedAtLast call (Stamp 0) (token lock v) (token lock u) → HoldsNothing u →
        Calls call reply (token lock u) (token lock w) → TriedAtLast call reply (token lock v) (token lock w)
    tried_again call reply v u w t nothing c = record {
      between = token lock u;
      before = not_free_again call (token lock v) t.between (token lock u) t.before t.made nothing;
      made = c;
    }

    module _ (range : AreInRange lock.limits) (s : ℕ) (v w : Seen T) where
      range_between : {call : Call} → (t : TriedAtLast call (Stamp s) (token lock v) (token lock w)) →
          AreInRange t.between.lock.limits
      range_between t = subst (λ (l : ValueLock T). AreInRange l.limits) (sym t.before.lock) range

      -- what a reader holds that was answered this
      pub tried_to_read : TriedAtLast TryRead (Stamp s) (token lock v) (token lock w) →
          ByStamp s (w.0.held ≡ Reading s) (HoldsNothing w)
      tried_to_read t =
          let by = tried_read t.between.lock.limits (range_between t) (Stamp s) t.between.me w s refl t.made.made in
          (by.0, λ none. nothing_still t.between.me w t.before.nothing (by.1 none))

      -- and what a writer holds
      pub tried_to_write : TriedAtLast TryWrite (Stamp s) (token lock v) (token lock w) →
          ByStamp s (BecameWriter s w) (HoldsNothing w)
      tried_to_write t =
          let by = tried_write t.between.lock.limits (range_between t) (Stamp s) t.between.me w s refl t.made.made in
          (by.0, λ none. nothing_still t.between.me w t.before.nothing (by.1 none))

    -- who was answered 0 holds nothing
    pub tried_in_vain : (range : AreInRange lock.limits) (call : Call) (v w : Seen T) →
        (call ≡ TryWrite) ⊎ (call ≡ TryRead) → TriedAtLast call (Stamp 0) (token lock v) (token lock w) →
        HoldsNothing w
    tried_in_vain range call v w (inl writes) t = (tried_to_write range 0 v w
        (subst (λ (c : Call). TriedAtLast c (Stamp 0) (token lock v) (token lock w)) writes t)).1 refl
    tried_in_vain range call v w (inr reads) t = (tried_to_read range 0 v w
        (subst (λ (c : Call). TriedAtLast c (Stamp 0) (token lock v) (token lock w)) reads t)).1 refl

    -- by the token of the handle that the seat was taken from, with the stamp that the seat holds
    pub tried_held : (call : Call) (h : ValueToken T) (v w : Seen T) → lock ≡ h.lock → v ≡ h.me → (held : Held) →
        w.0.held ≡ held → TriedAtLast call (Stamp (stamp_held held)) (token lock v) (token lock w) →
        TriedAtLast call (Stamp (stamp_held w.0.held)) h (token lock w)
    tried_held call h v w same_lock same_me held holds t =
        let s = stamp_held held in
        subst (λ (k : Held). TriedAtLast call (Stamp (stamp_held k)) h (token lock w)) (sym holds)
        (subst (λ (u : Seen T). TriedAtLast call (Stamp s) (token h.lock u) (token lock w)) same_me
        (subst (λ (l : ValueLock T). TriedAtLast call (Stamp s) (token l v) (token lock w)) same_lock t))
