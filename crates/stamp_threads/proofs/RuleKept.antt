-- Each step on the running word keeps its rule, and tells what it is to tell.
use Rattle.std.proofs.Common.{◌≡◌, ◌≢◌, ℕ, ◌==◌, eqb, Bool, true, false, MatchBool, List, [], ◌∷◌}
use Rattle.std.proofs.Common.{◌++◌, set, get_or, refl, ap, sym, ◌∙◌, subst, arith, length-set}
use Rattle.std.proofs.Common.{get_or-set_same, Some, None}
use Rattle.std.specs.Prelude.{IsTrue}
use mathlib.Core.Option.{Option, none, some}
use lib.ListN.{get_elem?}
use prog.Atomic.{either}
use Rattle.std.proofs.lemmas.Bool.{eqb-true}
use Rattle.atomic_table.specs.Table.{State, Act, keeps, step, stepped, Valid, carried_after}
use Rattle.atomic_table.specs.Table.{Allows}
use Rattle.stamp_core.specs.Limits.{Bounds}
use Rattle.stamp_core.specs.LockEvent.{LockEvent}
use Rattle.stamp_core.specs.Word.{word_at}
use Rattle.stamp_core.specs.Call.{is_lock_call}
use Rattle.stamp_core.specs.Transition.{Transition}
use Rattle.stamp_core.specs.Decision.{Changes, Moves}
use Rattle.stamp_core.specs.declared.call.Call.{Call}
use Rattle.stamp_core.specs.declared.reply.Reply.{Reply}
use Rattle.stamp_machines.specs.LockNumber.{RepresentsAt}
use Rattle.stamp_threads.specs.PassView.{entry, every, made_by, IsPart}
use Rattle.stamp_threads.specs.inner.PassView.{knowing, adding, finding}
use Rattle.stamp_threads.specs.Seats.{alone}
use Rattle.stamp_threads.specs.inner.Seats.{both, AreSeated}
use Rattle.stamp_threads.specs.LockLog.{LockLog, events_after, transition_after, IsLegalLog}
use Rattle.stamp_threads.specs.LockPass.{LockPassView, IsConsistentWith, LeavesWord, first_of}
use Rattle.stamp_threads.specs.inner.LockPass.{Seated, second_of}
use Rattle.stamp_threads.specs.inner.LockRule.{IsKept, making, after_win, answering, reading, after_load, Loaded, Won}
use Rattle.stamp_threads.specs.inner.LockRule.{LoadTells, ExchangeTells, MeetTells}
use Rattle.stamp_threads.proofs.ListElements.{two_of}
use Rattle.stamp_threads.proofs.MadeBy.{grows_none}
use Rattle.stamp_threads.proofs.SeatSteps.{same_two}
use Rattle.stamp_threads.proofs.PassesAfter.{all_consistent, passes_after, part_now}
use Rattle.stamp_threads.proofs.PassesAfter.{knows_all as all_known, makes_call as call_made}
use Rattle.stamp_threads.proofs.LockLogs.{legal_longer, represents_unchanged, represents_changed}
use Rattle.stamp_threads.proofs.SamePass.{no_call_by}

-- the rule after a step of a seat that leaves these passes there, which goes on to this history
kept_after : {enterable : Bool} (limits : Bounds) (s : State (Unit {0}) (List LockPassView))
    (r : IsKept enterable limits s) (id : ℕ) (ws : List LockPassView) (log' : LockLog) (word : ℕ)
    (homes : List (Option (Unit {0}))) → IsLegalLog limits log' → RepresentsAt limits word (events_after limits log') →
    AreSeated (IsPart every log') r.roots log' (set s.views id ws) →
    IsKept enterable limits record { words = set s.words 0 word; homes = homes; views = set s.views id ws }
kept_after limits s r id ws log' word homes legal represents passes = record {
  log = log';
  roots = r.roots;
  one_root = r.one_root;
  one_word = length-set s.words 0 word ∙ r.one_word;
  legal = legal;
  represents = subst (λ (n : ℕ). RepresentsAt limits n (events_after limits log'))
      (sym (get_or-set_same s.words 0 word 0 (let w = r.one_word in omega arith))) represents;
  passes = passes;
}

-- the rule, and what the pass knows, after a step of a seat that holds one
abbrev Steps : Bool → (limits : Bounds) (s : State (Unit {0}) (List LockPassView)) → ℕ → ℕ →
    LockPassView → Type 0
Steps enterable limits s id word w = IsKept enterable limits
    record { words = set s.words 0 word; homes = s.homes; views = set s.views id (w ∷ []) } ×
    IsConsistentWith limits w

-- a step of this seat leaves this word, and one pass there, which has learned this
abbrev LeavesOnePass : Bool → Bounds → State (Unit {0}) (List LockPassView) → ℕ → Seated → ℕ →
    (LockPassView → Type 0) → Type 0
LeavesOnePass enterable limits s id me word Learned = (w : List LockPassView) × (a : Act (Unit {0})) ×
    Valid s.homes me.1 a × IsKept enterable limits (stepped s 0 word id me.1 w a) ×
    (((w, carried_after me.1 a) ≡ alone (first_of w)) × Learned (first_of w))

module _ {enterable : Bool} (limits : Bounds) (s : State (Unit {0}) (List LockPassView))
    (r : IsKept enterable limits s)
    (id : ℕ)
    (v : LockPassView) (at : get_elem? s.views id ≡ some (v ∷ [])) where
  pub leaves_now : LeavesWord limits v (get_or s.words 0 0) r.log
  leaves_now = record {
    begins = (part_now limits r.log r.roots s.views r.passes id v at r.legal (get_or s.words 0 0)).known;
    legal = r.legal;
    represents = r.represents;
  }

  -- the pass once it has found the word that stands there
  abbrev after_finding : LockPassView
  after_finding = finding v (get_or s.words 0 0)

  pub knows_all : Steps enterable limits s id (get_or s.words 0 0) (knowing after_finding r.log)
  knows_all =
      let w : LockPassView = knowing after_finding r.log in
      let after = all_known limits r.log r.roots s.views r.passes id v at r.legal (get_or s.words 0 0) in
      (kept_after limits s r id (w ∷ []) r.log (get_or s.words 0 0) s.homes r.legal r.represents after.0, after.1)

  module _ (call : Call) (lock : IsTrue (is_lock_call call)) where
    pub makes_call : (t : Transition) (word : ℕ) → transition_after limits r.log call ≡ Some t
        →
        RepresentsAt limits word (events_after limits
        (r.log ++ entry v.name (call, t.reply) ∷ []))
        → Steps enterable limits s id word (adding after_finding r.log (call, t.reply))
    makes_call t word is represents =
        let m : Call × Reply = (call, t.reply) in
        let w : LockPassView = adding after_finding r.log m in
        let after = call_made limits r.log r.roots s.views r.passes id v at r.legal (get_or s.words 0 0) call lock t is in (
          kept_after limits s r id (w ∷ []) (r.log ++ entry v.name m ∷ []) word s.homes
              (legal_longer limits r.log call v.name t is lock r.legal) represents after.0,
          after.1,
        )

    by_appended : (appended : List LockEvent) (reply : Reply) →
        transition_after limits r.log call ≡
        Some (record { appended = appended; reply = reply }) →
        Steps enterable limits s id (get_or s.words 0 0) (answering appended reply call after_finding r.log)
    by_appended [] reply is = makes_call (record { appended = []; reply = reply })
        (get_or s.words 0 0) is (represents_unchanged limits r.log call v.name
        (record { appended = []; reply = reply }) is _ refl r.represents)
    by_appended (event ∷ appended) reply is = knows_all

    by_transition : (o : Rattle.std.proofs.Common.Option Transition) →
        transition_after limits r.log call ≡ o →
        Steps enterable limits s id (get_or s.words 0 0) (reading o call after_finding r.log)
    by_transition None is = knows_all
    by_transition (Some t) is = by_appended t.appended t.reply is

    pub loads : Steps enterable limits s id (get_or s.words 0 0) (after_load limits call after_finding r.log)
    loads = by_transition (transition_after limits r.log call) refl

    pub wins : (old new : ℕ) (reply : Reply) → get_or s.words 0 0 ≡ old →
        Changes limits (word_at limits old) call (word_at limits new) reply →
        Steps enterable limits s id new (after_win limits call after_finding r.log)
    wins old new reply hit changes =
        let m : Moves limits (events_after limits r.log) call (word_at limits old)
        (word_at limits new) reply = changes (events_after limits r.log)
        (subst (λ (n : ℕ). RepresentsAt limits n (events_after limits r.log)) hit r.represents) in
        let t : Transition = record { appended = m.appended; reply = reply } in
        let made = makes_call t new m.transition_is
        (represents_changed limits r.log call v.name t m.transition_is new m.represented) in
        subst (λ (w : LockPassView). Steps enterable limits s id new w)
        (sym (ap (λ (o : Rattle.std.proofs.Common.Option Transition). making o call after_finding r.log)
        m.transition_is)) made

    module _ (me : Seated) (is : me ≡ alone v) where
      -- where the step leaves the pass w
      leaves : (word : ℕ) (w : LockPassView) (Learned : LockPassView → Type 0) →
          Steps enterable limits s id word w → Learned w → LeavesOnePass enterable limits s id me word Learned
      leaves word w Learned t learned = (w ∷ [], keeps, tt, t.0, (λ i. (w ∷ [], (is i).1), learned))

      pub load_leaves : LeavesOnePass enterable limits s id me (get_or s.words 0 0)
          (Loaded limits call v (get_or s.words 0 0))
      load_leaves = leaves (get_or s.words 0 0) (after_load limits call after_finding r.log)
          (Loaded limits call v (get_or s.words 0 0)) loads
          (record { log = r.log; left = leaves_now; after = refl; consistent = loads.1 })

      pub win_leaves : (old new : ℕ) (reply : Reply) → get_or s.words 0 0 ≡ old →
          Changes limits (word_at limits old) call (word_at limits new) reply →
          LeavesOnePass enterable limits s id me new (Won limits call v (get_or s.words 0 0))
      win_leaves old new reply hit changes =
          let t = wins old new reply hit changes in
          leaves new (after_win limits call after_finding r.log) (Won limits call v (get_or s.words 0 0)) t
          (record { log = r.log; left = leaves_now; after = refl; consistent = t.1 })

-- a load
pub allows_load : {enterable : Bool} (limits : Bounds) (call : Call) (slots id : ℕ)
    (me : Seated) → IsTrue (is_lock_call call) → me ≡ alone (first_of me.0) →
    Allows (IsKept enterable limits) slots id me 0 (λ n. n) (LoadTells limits call (step slots 0 0 0 none) me)
allows_load limits call slots id me lock is s r _ at _ =
    load_leaves limits s r id (first_of me.0) (at ∙ ap (λ (m : Seated). some m.0) is) call lock me is

-- an exchange, by whether the word found is the old one
exchange_at : {enterable : Bool} (limits : Bounds) (s : State (Unit {0}) (List LockPassView))
    (r : IsKept enterable limits s) (id : ℕ) (me : Seated) (call : Call) (old new : ℕ) (reply : Reply) →
    IsTrue (is_lock_call call) → me ≡ alone (first_of me.0) →
    get_elem? s.views id ≡ some (first_of me.0 ∷ []) →
    Changes limits (word_at limits old) call (word_at limits new) reply → (b : Bool) →
    eqb (get_or s.words 0 0) old ≡ b →
    LeavesOnePass enterable limits s id me (either b new (get_or s.words 0 0)) (λ w. MatchBool b
    (Won limits call (first_of me.0) (get_or s.words 0 0) w)
    (Loaded limits call (first_of me.0) (get_or s.words 0 0) w))
exchange_at limits s r id me call old new reply lock is here changes true e =
    win_leaves limits s r id (first_of me.0) here call lock me is old new reply (eqb-true _ _ e) changes
exchange_at limits s r id me call old new reply lock is here changes false e =
    load_leaves limits s r id (first_of me.0) here call lock me is

pub allows_exchange : {enterable : Bool} (limits : Bounds) (call : Call) (slots id : ℕ)
    (me : Seated) (old new : ℕ) (reply : Reply) →
    IsTrue (is_lock_call call) → me ≡ alone (first_of me.0)
    → Changes limits (word_at limits old) call (word_at limits new) reply
    → Allows (IsKept enterable limits) slots id me 0 (λ n. either (n == old) new n)
    (ExchangeTells limits call (step slots 0 old new none) me)
allows_exchange limits call slots id me old new reply lock is changes s r _ at _ =
    exchange_at limits s r id me call old new reply lock is
    (at ∙ ap (λ (m : Seated). some m.0) is) changes
    (eqb (get_or s.words 0 0) old) refl

-- a load by a seat that holds two
pub allows_meet : {enterable : Bool} (limits : Bounds) (slots id : ℕ) (me : Seated) →
    me ≡ both (first_of me.0) (second_of me.0) →
    Allows (IsKept enterable limits) slots id me 0 (λ n. n) (MeetTells limits (step slots 0 0 0 none) me)
allows_meet limits slots id me is s r _ at _ =
    let v : LockPassView = first_of me.0 in
    let u : LockPassView = second_of me.0 in
    let here : get_elem? s.views id ≡ some (v ∷ u ∷ []) =
    at ∙ ap (λ (m : Seated). some m.0) is in
    let vs : List LockPassView = v ∷ u ∷ [] in
    let v' : LockPassView = knowing v r.log in
    let u' : LockPassView = knowing u r.log in
    let ws : List LockPassView = v' ∷ u' ∷ [] in
    let first = r.passes.fits id 0 v (vs, here, refl) in
    let second = r.passes.fits id 1 u (vs, here, refl) in
    let same = same_two v u v' u' (record { name = refl; splits = refl })
    (record { name = refl; splits = refl }) in
    let grows = grows_none vs r.log in
    let all = two_of (λ k w. (w.known ≡ r.log) × (made_by every w.name r.log ≡ w.own)) v' u'
    (refl, first.own) (refl, second.own) in
    let so = all_consistent limits r.log r.roots s.views r.passes id vs ws r.log here same grows all r.legal in (
      ws,
      keeps,
      tt,
      kept_after limits s r id ws r.log (get_or s.words 0 0) s.homes r.legal r.represents
          (passes_after limits r.log r.roots s.views r.passes id vs ws r.log here same grows all),
      (
        λ i. (ws, (is i).1),
        record {
          met = record {
            first_begins = first.known;
            second_begins = second.known;
            alike = refl;
            apart = λ e.
                let t = (r.passes.apart id 0 id 1 v u (vs, here, refl) (vs, here, refl) e).1 in
                absurd (omega (arith, t));
            no_calls = (no_call_by v v' refl refl refl, no_call_by u u' refl refl refl);
            finds = (refl, refl);
          };
          all_consistent = (so 0 v' refl, so 1 u' refl);
        },
      ),
    )
