-- A reader's release takes one from the word, whatever that is: while the reader is there, this is what its call does.
-- It finds the word as a load does, and at once changes it as an exchange does.
use Rattle.std.proofs.Common.{◌≡◌, ◌≢◌, ℕ, zero, suc, ◌+◌, ◌-◌, ◌*◌, ◌%◌, ◌^◌, ◌<◌, ◌==◌, Bool, true, List, []}
use Rattle.std.proofs.Common.{◌∷◌, set, refl, ap, sym, ◌∙◌, subst, arith, if◌then◌else◌}
use mathlib.Core.Option.{some}
use lib.ListN.{get_elem?}
use Rattle.atomic_table.proofs.Lists.{set_here}
use Rattle.lent_table.specs.Table.{State, Act, stepped, stays, home_after, Allows}
use Rattle.stamp_core.specs.Limits.{Bounds, AreInRange, units}
use Rattle.stamp_core.specs.LockEvent.{LockEvent, Counts, counts}
use Rattle.stamp_core.specs.LockEvent.LockEvent.{ReadReleased}
use Rattle.stamp_core.specs.IsWellFormed.{CountsAreWithin}
use Rattle.stamp_core.specs.Decoded.{counts_in, after_event}
use Rattle.stamp_core.specs.Stamp.{is_held_read}
use Rattle.stamp_core.specs.Decision.{Changes, Decides}
use Rattle.stamp_core.specs.CountedDecision.{decision, decision_of}
use Rattle.stamp_core.specs.Word.{LockWord, word_at, word_number}
use Rattle.stamp_core.specs.declared.call.Call.{Call}
use Rattle.stamp_core.specs.declared.call.Call.TheVariants.{UnlockRead}
use Rattle.stamp_core.specs.declared.reply.Reply.TheVariants.{Done}
use Rattle.stamp_core.specs.declared.decision.Decision.{Decision}
use Rattle.stamp_core.specs.declared.decision.Decision.TheVariants.{Change}
use Rattle.stamp_core.proofs.Deciding.{decisions_are_transitions, decision_is, admitted_state}
use Rattle.stamp_core.proofs.StampTests.{tests_are_exact}
use Rattle.stamp_core.proofs.WellFormedPush.{obeys_now}
use Rattle.stamp_core.proofs.WordCounts.{counts_in-represented}
use Rattle.stamp_machines.specs.LockNumber.{RepresentsAt}
use Rattle.stamp_machines.specs.declared.machine.Turn.TheVariants as turn
use Rattle.stamp_threads.specs.GoesAsMachine.{GoesAsMachine}
use Rattle.stamp_threads.specs.LockLog.{events_after}
use Rattle.stamp_threads.proofs.GoingAsMachine.{ends_by_change}
use Rattle.stamp_threads.proofs.ListElements.{in_range}
use Rattle.stamped_value.specs.declared.view.ValueView.{ValueView}
use Rattle.stamped_value.specs.declared.view.Held.{Held}
use Rattle.stamped_value.specs.declared.view.Held.TheVariants.{Free, Reading}
use Rattle.stamped_value.specs.Held.{HasHold, Matches}
use Rattle.stamped_value.specs.ValueMade.{Seen, ValueMade}
use Rattle.stamped_value.specs.inner.VersionRule.{IsKept, LoadTells, WonTells, TakenTells}
use Rattle.stamped_value.proofs.Calling.{begins, is_made_by_change}
use Rattle.stamped_value.proofs.Exchanging.{wins}
use Rattle.stamped_value.proofs.Looking.{load_sees}

-- one less, as the step counts
abbrev pub less_one : ℕ → ℕ
less_one n = (n + (2 ^ 64 - 1)) % 2 ^ 64

less_by_one : (n : ℕ) → 0 < n → n < 2 ^ 64 → less_one n ≡ n - 1
less_by_one n one fits = omega (arith, one, fits)

set_twice : {A : Type 0} (xs : List A) (i : ℕ) (a b : A) → set (set xs i a) i b ≡ set xs i b
set_twice [] i a b = refl
set_twice (x ∷ xs) zero a b = refl
set_twice (x ∷ xs) (suc i) a b = ap (λ l. x ∷ l) (set_twice xs i a b)

module _ (limits : Bounds) (range : AreInRange limits) (n s : ℕ) (events : List LockEvent)
    (represents : RepresentsAt limits n events) (matches : Matches limits events (Reading s)) where
  abbrev c : Counts
  c = counts_in (word_at limits n)

  same_counts : c ≡ counts events
  same_counts = counts_in-represented limits (word_at limits n) events range represents

  is_held : is_held_read (units limits) c s ≡ true
  is_held = subst (λ (d : Counts). is_held_read (units limits) d s ≡ true) (sym same_counts)
      ((tests_are_exact limits events s range represents.well_formed).2.1 matches)

  within : CountsAreWithin limits c
  within = rw same_counts (obeys_now limits events represents.well_formed).within

  one_less : word_number (units limits) (after_event c ReadReleased) ≡ less_one n
  one_less =
      let one : 0 < c.readers = subst (λ (d : Counts). 0 < d.readers) (sym same_counts) matches.1 in
      let apart = within.apart in
      let no_writer : c.writers ≡ 0 = grind arith in
      let number : n ≡ word_number (units limits) c =
      represents.spelled ∙ ap (word_number (units limits)) (sym same_counts) in
      let high = (admitted_state limits n range record { events = events; represented = represents }).high in
      grind (arith, less_by_one, no_writer, number, one, high)

  -- the release takes one from the word
  pub takes_one : Change (word_at limits (less_one n)) Done ≡ decision limits n (UnlockRead s)
  takes_one =
      let of : decision_of limits (word_at limits n) (UnlockRead s) ≡
      Change (word_at limits (word_number (units limits) (after_event c ReadReleased))) Done = rw is_held refl in
      sym (ap (λ (m : ℕ). Change (word_at limits m) Done) one_less) ∙
      (sym of ∙ decision_is limits (word_at limits n) (UnlockRead s) refl)

  pub changes_so : Changes limits (word_at limits n) (UnlockRead s) (word_at limits (less_one n)) Done
  changes_so = subst (Decides limits (word_at limits n) (UnlockRead s)) (sym takes_one)
      (decisions_are_transitions limits n (UnlockRead s) range)

module _ {T : Type 0} (limits : Bounds) (range : AreInRange limits) (s : ℕ) where
  pub allows_release : {enterable : Bool} {first : T} (id : ℕ) (me : Seen T) → me.0.held ≡ Reading s →
      HasHold me.0.held me.0.values me.1 →
      Allows (IsKept enterable limits first) id me less_one (TakenTells limits (UnlockRead s) me)
  allows_release {enterable} {first} id me held hold st f =
      let own = f.rule.fits id me.0 f.view in
      let load = load_sees limits st f.rule id me f.view (UnlockRead s) refl in
      let v : ValueView T = load.0 in let between : Seen T = (v, me.1) in
      let all : me.0.values ≡ f.rule.values = own.all (λ free. let e : Reading s ≡ Free = sym held ∙ free in cc) in
      let has : HasHold v.held v.values me.1 = rw (load.2.same.0, load.3, sym all) hold in
      let changes = changes_so limits range st.word s _ f.rule.represents
      (subst (Matches limits (events_after limits f.rule.log)) held own.matches) in
      let win = wins limits (stepped st st.word id v stays) load.1 id between
      (set_here st.views id v (in_range st.views me.0 id f.view)) range has (UnlockRead s) refl
      (less_one st.word) (load.2.same.0 ∙ held) st.word Done refl changes in (
        win.0,
        win.1,
        win.2,
        subst (λ (vs : List (ValueView T)). IsKept enterable limits first
            record { word = less_one st.word; home = home_after st.home win.1; views = vs })
            (set_twice st.views id v win.0) win.3,
        (between, load.2, win.4),
      )

  module _ (v : Seen T) (found : ℕ) (w : Seen T) (taken : TakenTells limits (UnlockRead s) v found w)
      (held : v.0.held ≡ Reading s) where
    abbrev load : LoadTells limits (UnlockRead s) v found taken.0
    load = taken.1

    reader : Matches limits (events_after limits load.pass.log) (Reading s)
    reader = subst (Matches limits (events_after limits load.pass.log)) held load.matches

    takes : Change (word_at limits (less_one found)) Done ≡ decision limits found (UnlockRead s)
    takes = takes_one limits range found s _ load.pass.left.represents reader

    changes : Changes limits (word_at limits found) (UnlockRead s) (word_at limits (less_one found)) Done
    changes = changes_so limits range found s _ load.pass.left.represents reader

    pub released : ValueMade limits (UnlockRead s) Done v w
    released = is_made_by_change limits (UnlockRead s) v found taken.0
        (begins limits (UnlockRead s) v found taken.0 refl load) _ Done changes takes w taken.2

    pub goes_as_machine : GoesAsMachine limits (UnlockRead s) v.0.pass w.0.pass (turn.Done Done)
    goes_as_machine = ends_by_change limits (UnlockRead s) v.0.pass found taken.0.0.pass
        (begins limits (UnlockRead s) v found taken.0 refl load).pass _ Done changes takes w.0.pass taken.2.pass
