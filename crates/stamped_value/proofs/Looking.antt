-- A load keeps the rule, whoever's seat makes it, and tells what it is to tell.
use Rattle.std.proofs.Common.{Bool, ◌≡◌, ℕ, List, [], ◌∷◌, ◌++◌, refl, sym, ◌∙◌, subst, append-nil}
use Rattle.std.proofs.Common.{Option, Some, None, suc, length}
use Rattle.std.specs.Prelude.{IsTrue, count_by}
use mathlib.Core.Option.{some}
use lib.ListN.{get_elem?}
use Rattle.lent_table.specs.Table.{State, Learns, stepped, stays}
use Rattle.stamp_core.specs.Call.{is_lock_call}
use Rattle.stamp_core.specs.Limits.{Bounds}
use Rattle.stamp_core.specs.LockEvent.{LockEvent, counts, is_write_released}
use Rattle.stamp_core.specs.Transition.{Transition}
use Rattle.stamp_core.specs.declared.call.Call.{Call}
use Rattle.stamp_core.specs.declared.reply.Reply.{Reply}
use Rattle.stamp_core.specs.declared.reply.Reply.TheVariants.{Done}
use Rattle.stamp_machines.specs.LockNumber.{RepresentsAt}
use Rattle.stamp_threads.specs.PassView.{entry}
use Rattle.stamp_threads.specs.inner.PassView.{knowing, adding, finding}
use Rattle.stamp_threads.specs.inner.LockRule.{answering, reading, after_load}
use Rattle.stamp_threads.specs.LockLog.{LockLog, events_after, transition_after, IsLegalLog}
use Rattle.stamp_threads.specs.LockPass.{LockPassView, IsConsistentWith}
use Rattle.stamp_threads.proofs.LockLogs.{legal_longer, events_longer}
use Rattle.stamped_value.specs.declared.view.ValueView.{ValueView}
use Rattle.stamped_value.specs.Held.{Matches}
use Rattle.stamped_value.specs.ValueMade.{Seen}
use Rattle.stamped_value.specs.inner.VersionRule.{IsKept, Fits, HomeIs, LoadTells}
use Rattle.stamped_value.proofs.HeldCounts.{counted_still}
use Rattle.stamped_value.proofs.Passing.{Passes, part_now, knows_all, makes_call}
use Rattle.stamped_value.proofs.Seats.{after_one}

module _ {T : Type 0} {enterable : Bool} {first : T} (limits : Bounds) (s : State T (ValueView T))
    (r : IsKept enterable limits first s) (id : ℕ)
    (v : ValueView T) (at : get_elem? s.views id ≡ some v) where
  -- the seat once it knows all values, and its pass is this
  abbrev seeing : LockPassView → ValueView T
  seeing p = record { pass = p; values = r.values; held = v.held }

  -- the rule once the seat's pass is this, which is consistent
  abbrev Sees : LockPassView → Type 0
  Sees p = IsKept enterable limits first (stepped s s.word id (seeing p) stays) × IsConsistentWith limits p

  module _ (log' : LockLog) (same : events_after limits log' ≡ events_after limits r.log) where
    fits_still : (u : ValueView T) → Fits limits r.log r.values u → Fits limits log' r.values u
    fits_still u f = record {
      begins = f.begins;
      matches = subst (λ (e : List LockEvent). Matches limits e u.held) (sym same) f.matches;
      all = f.all;
    }

    sees : (p : LockPassView) → IsLegalLog limits log' →
        Passes limits r.log r.roots s.views r.legal r.passes id v at log' (seeing p) → Sees p
    sees p legal passes =
        let own = r.fits id v at in
        let counted = counted_still (λ (u : ValueView T). u.held) limits (counts (events_after limits r.log)) s.views
        r.readers_are r.writers_are id v (seeing p) at [] Done tt refl in
        let fits : Fits limits r.log r.values (seeing p) =
        record { begins = ([], append-nil r.values); matches = own.matches; all = λ _. refl } in (
          record {
            log = log';
            values = r.values;
            roots = r.roots;
            one_root = r.one_root;
            legal = legal;
            represents = subst (RepresentsAt limits s.word) (sym same) r.represents;
            passes = passes.0;
            are = subst (λ (e : List LockEvent). length r.values ≡ suc (count_by is_write_released e))
                (sym same) r.are;
            opens = r.opens;
            home = subst (λ (e : List LockEvent). HomeIs (counts e) r.values s.home) (sym same) r.home;
            fits = after_one (Fits limits log' r.values) s.views id (seeing p) (fits_still (seeing p) fits)
                (λ k u _ h. fits_still u (r.fits k u h));
            readers_are = rw same counted.0;
            writers_are = rw same counted.1;
          },
          passes.1,
        )

  module _ (call : Call) (lock : IsTrue (is_lock_call call)) where
    abbrev after_finding : LockPassView
    after_finding = finding v.pass s.word

    sees_all : Sees (knowing after_finding r.log)
    sees_all = sees r.log refl (knowing after_finding r.log) r.legal
        (knows_all limits r.log r.roots s.views r.legal r.passes id v at (seeing (knowing after_finding r.log))
        s.word refl)

    by_appended : (appended : List LockEvent) (reply : Reply) →
        transition_after limits r.log call ≡ Some (record { appended = appended; reply = reply }) →
        Sees (answering appended reply call after_finding r.log)
    by_appended [] reply is =
        let t : Transition = record { appended = []; reply = reply } in
        let w : LockPassView = adding after_finding r.log (call, reply) in
        sees (r.log ++ entry v.pass.name (call, reply) ∷ [])
        (events_longer limits r.log call v.pass.name t is ∙ append-nil _) w
        (legal_longer limits r.log call v.pass.name t is lock r.legal)
        (makes_call limits r.log r.roots s.views r.legal r.passes id v at call lock t is (seeing w) s.word refl)
    by_appended (event ∷ appended) reply is = sees_all

    by_transition : (o : Option Transition) → transition_after limits r.log call ≡ o →
        Sees (reading o call after_finding r.log)
    by_transition None is = sees_all
    by_transition (Some t) is = by_appended t.appended t.reply is

    loads : Sees (after_load limits call after_finding r.log)
    loads = by_transition (transition_after limits r.log call) refl

-- the seat of a load, of which the state is one that a step finds; and the values that it knows then
pub load_sees : {T : Type 0} {enterable : Bool} {first : T} (limits : Bounds) (s : State T (ValueView T))
    (r : IsKept enterable limits first s) (id : ℕ) (me : Seen T) → get_elem? s.views id ≡ some me.0 → (call : Call) →
    IsTrue (is_lock_call call) →
    (w : ValueView T) × IsKept enterable limits first (stepped s s.word id w stays)
    × LoadTells limits call me s.word (w, me.1)
    × (w.values ≡ r.values)
load_sees limits s r id me at call lock =
    let own = r.fits id me.0 at in
    let t = loads limits s r id me.0 at call lock in (
      seeing limits s r id me.0 at (after_load limits call (finding me.0.pass s.word) r.log),
      t.0,
      record {
        pass = record {
          log = r.log;
          left = record {
            begins = (part_now limits r.log r.roots s.views r.legal r.passes id me.0 at).known;
            legal = r.legal;
            represents = r.represents;
          };
          after = refl;
          consistent = t.1;
        };
        begins = own.begins;
        are = r.are;
        matches = own.matches;
        same = (refl, refl);
      },
      refl,
    )

pub load_leaves : {T : Type 0} {enterable : Bool} {first : T} (limits : Bounds) (s : State T (ValueView T))
    (r : IsKept enterable limits first s) (id : ℕ) (me : Seen T) → get_elem? s.views id ≡ some me.0 → (call : Call) →
    IsTrue (is_lock_call call) →
    (w : ValueView T) × IsKept enterable limits first (stepped s s.word id w stays)
    × LoadTells limits call me s.word (w, me.1)
load_leaves limits s r id me at call lock = let t = load_sees limits s r id me at call lock in (t.0, t.1, t.2)

pub learns_load : {T : Type 0} {enterable : Bool} {first : T} (limits : Bounds) (call : Call) (id : ℕ) (me : Seen T) →
    IsTrue (is_lock_call call) → Learns (IsKept enterable limits first) id me (LoadTells limits call me)
learns_load limits call id me lock s f = load_leaves limits s f.rule id me f.view call lock
