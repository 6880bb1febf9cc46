-- A lock phase: the word stays, or the phase ends with its call's transition.
use Rattle.std.proofs.Common.{◌≡◌, ℕ, ◌+◌, ◌*◌, ◌<◌, ◌==◌, ◌&&◌, nat_lt, Bool, true, false, List}
use Rattle.std.proofs.Common.{[], ◌∷◌, ◌++◌, Option, Some, None, if◌then◌else◌, refl, sym, ◌∙◌, ap}
use Rattle.std.proofs.Common.{arith, ◌⊎◌, inl, inr}
use Rattle.std.proofs.lemmas.Bool.Decides.{nat_tests}
use Rattle.std.proofs.lemmas.List.{append-nil}
use Rattle.stamp_core.specs.LockEvent.{LockEvent, Counts, counts}
use Rattle.stamp_core.specs.LockEvent.LockEvent.{WriteAcquired, ReadAcquired, ReadReleased}
use Rattle.stamp_core.specs.Limits.{Bounds, AreInRange, units}
use Rattle.stamp_core.specs.Word.{word_number, word_at}
use Rattle.stamp_core.specs.Stamp.{write_stamp, read_stamp, is_held_write, is_held_read}
use Rattle.stamp_core.specs.CountedDecision.{by_transition, by_events, decision}
use Rattle.stamp_core.specs.Decoded.{after_events}
use Rattle.stamp_core.specs.Transition.{Transition, row, may_read, may_write}
use Rattle.stamp_core.specs.declared.call.Call.{Call}
use Rattle.stamp_core.specs.declared.call.Call.TheVariants.{ReadLock, WriteLock, UnlockRead}
use Rattle.stamp_core.specs.declared.call.Call.TheVariants.{ToWrite}
use Rattle.stamp_core.specs.declared.reply.Reply.{Reply}
use Rattle.stamp_core.specs.declared.reply.Reply.TheVariants as reply
use Rattle.stamp_core.specs.declared.decision.Decision.{Decision}
use Rattle.stamp_core.specs.declared.decision.Decision.TheVariants.{Answer, Change, Wait}
use Rattle.stamp_core.proofs.WellFormedPush.{AllowsAll, push_all, obeys_now}
use Rattle.stamp_core.proofs.TransitionsKeep.{IsAllowed, Keeps, row_keeps}
use Rattle.stamp_core.proofs.WordCounts.{counts_in-represented}
use Rattle.stamp_machines.specs.LockNumber.{RepresentsAt, IsAdmittedAt, counts_at}
use Rattle.stamp_machines.specs.LockPhase.{Going, Done, phase_plan, phase_after, plan_on, turn_on}
use Rattle.stamp_machines.specs.LockPhase.{tried, PhaseTurn}
use Rattle.stamp_machines.specs.inner.LocalAccess.{lock_after, local_found}
use Rattle.stamp_machines.specs.inner.RecordKept.{IsRead}

-- what a call's transition makes of the word
pub record CallLeaves (limits : Bounds) (call : Call) (lock now : ℕ) (r : Reply) : Type 0 where
  pub taken : Transition
  pub transition : row limits (counts_at limits lock) call ≡ Some taken
  pub reply : taken.reply ≡ r
  pub counts : counts_at limits now ≡ after_events (counts_at limits lock) taken.appended
  pub represented : (events : List LockEvent) → RepresentsAt limits lock events →
      RepresentsAt limits now (events ++ taken.appended)

pub left-admitted : (limits : Bounds) (call : Call) (lock now : ℕ) (r : Reply) →
    IsAdmittedAt limits lock → CallLeaves limits call lock now r → IsAdmittedAt limits now
left-admitted limits call lock now r w t =
    record {
      events = w.events ++ t.taken.appended;
      represented = t.represented w.events w.represented;
    }

abbrev pub PhaseLeaves : Bounds → Call → ℕ → ℕ → PhaseTurn → Type 0
PhaseLeaves limits call lock now (Going seen) = now ≡ lock
PhaseLeaves limits call lock now (Done r) = CallLeaves limits call lock now r

-- what a decision on the word says
abbrev pub MeetsAt : Bounds → Call → ℕ → Decision → Type 0
MeetsAt limits call lock (Answer r) = CallLeaves limits call lock lock r
MeetsAt limits call lock (Change new r) = CallLeaves limits call lock new.bits r
MeetsAt limits call lock Wait = Unit {0}

allows : (limits : Bounds) (c : Counts) (appended : List LockEvent) → IsAllowed limits c appended →
    AllowsAll limits c appended
allows limits c [] m = tt
allows limits c (a ∷ appended) m = m.0

pub counts-of : (limits : Bounds) (lock : ℕ) (events : List LockEvent) → AreInRange limits →
    RepresentsAt limits lock events → counts_at limits lock ≡ counts events
counts-of limits lock events range represented =
    counts_in-represented limits (word_at limits lock) events range represented

grown : (limits : Bounds) (lock : ℕ) (call : Call) (t : Transition) (events : List LockEvent) →
    AreInRange limits → RepresentsAt limits lock events →
    row limits (counts_at limits lock) call ≡ Some t →
    RepresentsAt limits
    (word_number (units limits) (after_events (counts_at limits lock) t.appended))
    (events ++ t.appended)
    × (counts (events ++ t.appended) ≡ after_events (counts_at limits lock) t.appended)
grown limits lock call t events range represented e =
    let same : counts_at limits lock ≡ counts events =
    counts-of limits lock events range represented in
    let now = obeys_now limits events represented.well_formed in
    let e' : row limits (counts events) call ≡ Some t =
    ap (λ (x : Counts). row limits x call) (sym same) ∙ e in
    let k : Keeps limits (counts events) (Some t) =
    rw e' at (row_keeps limits (counts events) range.some_reader now.within call) in
    let after = push_all limits t.appended events represented.well_formed
    (allows limits (counts events) t.appended k.kept) in
    let c : counts (events ++ t.appended) ≡ after_events (counts_at limits lock) t.appended =
    after.1 ∙ ap (λ (x : Counts). after_events x t.appended) (sym same) in (
      record {
        well_formed = after.0;
        layout = refl;
        spelled = ap (λ (x : Counts). word_number (units limits) x) (sym c);
      },
      c,
    )

meets_at : (limits : Bounds) (lock : ℕ) (call : Call) → AreInRange limits →
    IsAdmittedAt limits lock → (found : Option Transition) →
    row limits (counts_at limits lock) call ≡ found →
    MeetsAt limits call lock (by_transition limits (counts_at limits lock) found)
meets_at limits lock call range w None e = tt
meets_at limits lock call range w (Some taken) e = go taken.appended refl
  where
    go : (appended : List LockEvent) → taken.appended ≡ appended →
        MeetsAt limits call lock (by_events limits (counts_at limits lock) appended taken.reply)
    go [] p = record {
      taken = taken;
      transition = e;
      reply = refl;
      counts = rw p refl;
      represented = λ events s. rw (p, append-nil events) s;
    }
    go (x ∷ appended) p =
        let g = grown limits lock call taken w.events range w.represented e in
        let now : counts_at limits
        (word_number (units limits) (after_events (counts_at limits lock) taken.appended))
        ≡ after_events (counts_at limits lock) taken.appended =
        counts-of limits _ _ range g.0 ∙ g.1 in
        record {
          taken = taken;
          transition = e;
          reply = refl;
          counts = rw p (rw p at now);
          represented = λ events s. rw p
              (rw p at (grown limits lock call taken events range s e).0);
        }

decision-meets_at : (limits : Bounds) (lock : ℕ) (call : Call) → AreInRange limits →
    IsAdmittedAt limits lock → MeetsAt limits call lock (decision limits lock call)
unfolding decision
decision-meets_at limits lock call range w =
    meets_at limits lock call range w (row limits (counts_at limits lock) call) refl

loaded-leaves : (limits : Bounds) (call : Call) (lock : ℕ) → AreInRange limits →
    IsAdmittedAt limits lock →
    PhaseLeaves limits call lock lock (turn_on lock (decision limits lock call))
loaded-leaves limits call lock range a =
    go (decision limits lock call) (decision-meets_at limits lock call range a)
  where
    go : (d : Decision) → MeetsAt limits call lock d →
        PhaseLeaves limits call lock lock (turn_on lock d)
    go (Answer r) m = m
    go (Change new r) m = refl
    go Wait m = refl

tried-leaves : (limits : Bounds) (call : Call) (lock old : ℕ) (d : Decision) → AreInRange limits →
    IsAdmittedAt limits lock → decision limits old call ≡ d →
    PhaseLeaves limits call lock (lock_after (plan_on old d) lock)
    (tried limits call old (local_found (plan_on old d) lock []) d)
tried-leaves limits call lock old (Answer r) range a e = loaded-leaves limits call lock range a
tried-leaves limits call lock old Wait range a e = loaded-leaves limits call lock range a
tried-leaves limits call lock old (Change new r) range a e = go (lock == old) refl
  where
    go : (b : Bool) → (lock == old) ≡ b →
        PhaseLeaves limits call lock (if b then new.bits else lock) (if b then Done r
        else turn_on lock (decision limits lock call))
    go false q = loaded-leaves limits call lock range a
    go true q =
        let same : lock ≡ old = grind (arith, q) in
        let e' : decision limits lock call ≡ Change new r = rw same e in
        rw e' at (decision-meets_at limits lock call range a)

pub phase-leaves : (limits : Bounds) (call : Call) (lock : ℕ) (record_words : List ℕ) (seen : Option ℕ) →
    AreInRange limits → IsAdmittedAt limits lock →
    PhaseLeaves limits call lock (lock_after (phase_plan limits call seen) lock)
    (phase_after limits call seen (local_found (phase_plan limits call seen) lock record_words))
phase-leaves limits call lock record_words None range a = loaded-leaves limits call lock range a
phase-leaves limits call lock record_words (Some old) range a = go (decision limits old call) refl
  where
    go : (d : Decision) → decision limits old call ≡ d →
        PhaseLeaves limits call lock (lock_after (plan_on old d) lock)
        (tried limits call old (local_found (plan_on old d) lock record_words) d)
    go (Answer r) e = tried-leaves limits call lock old (Answer r) range a e
    go Wait e = tried-leaves limits call lock old Wait range a e
    go (Change new r) e = tried-leaves limits call lock old (Change new r) range a e

-- the record's lock calls, where their stamps are held and a version is left
pub shared_at : (limits : Bounds) (c : Counts) (taken : Transition) →
    row limits c ReadLock ≡ Some taken → (c.writers ≡ 0) × (c.readers < limits.readers)
    × (taken.appended ≡ ReadAcquired ∷ [])
    × (taken.reply ≡ reply.Stamp (read_stamp (units limits) c.write_count (c.readers + 1)))
shared_at limits c taken e = go (may_read limits c) refl e
  where
    go : (b : Bool) → may_read limits c ≡ b →
        (if b then Some
        (record {
          appended = ReadAcquired ∷ [];
          reply = reply.Stamp (read_stamp (units limits) c.write_count (c.readers + 1));
        })
        else None) ≡ Some taken → (c.writers ≡ 0) × (c.readers < limits.readers)
        × (taken.appended ≡ ReadAcquired ∷ [])
        × (taken.reply ≡ reply.Stamp (read_stamp (units limits) c.write_count (c.readers + 1)))
    go true q e = (grind (arith, nat_tests), grind (arith, nat_tests), cc, cc)
    go false q e = cc

pub left_at : (limits : Bounds) (c : Counts) (s : ℕ) (taken : Transition) →
    row limits c (UnlockRead s) ≡ Some taken → IsRead limits c.write_count s → 0 < c.readers →
    taken.appended ≡ ReadReleased ∷ []
left_at limits c s taken e i h =
    let held : is_held_read (units limits) c s ≡ true = grind (arith, nat_tests, i.0, i.1) in
    let f : Some (record { appended = ReadReleased ∷ []; reply = reply.Done }) ≡ Some taken =
    rw held at e in
    cc

pub claimed_at : (limits : Bounds) (c : Counts) (taken : Transition) →
    row limits c WriteLock ≡ Some taken → c.write_count < limits.versions → (c.writers ≡ 0)
    × (c.readers ≡ 0) × (taken.appended ≡ WriteAcquired ∷ [])
    × (taken.reply ≡ reply.Stamp (write_stamp (units limits) (c.write_count + 1)))
claimed_at limits c taken e v =
    let some : (c.write_count == limits.versions) ≡ false = grind (arith, nat_tests) in
    go (may_write limits c) refl (rw some at e)
  where
    go : (b : Bool) → may_write limits c ≡ b →
        (if b then Some
        (record {
          appended = WriteAcquired ∷ [];
          reply = reply.Stamp (write_stamp (units limits) (c.write_count + 1));
        }) else None)
        ≡ Some taken → (c.writers ≡ 0) × (c.readers ≡ 0) × (taken.appended ≡ WriteAcquired ∷ [])
        × (taken.reply ≡ reply.Stamp (write_stamp (units limits) (c.write_count + 1)))
    go true q e = (grind (arith, nat_tests), grind (arith, nat_tests), cc, cc)
    go false q e = cc

-- a reader's conversion gives the write stamp to the only reader, and else zero
pub upgraded_at : (limits : Bounds) (c : Counts) (s : ℕ) (taken : Transition) →
    row limits c (ToWrite s) ≡ Some taken → c.writers ≡ 0 → 0 < c.readers →
    ((c.readers ≡ 1) × (taken.appended ≡ ReadReleased ∷ WriteAcquired ∷ [])
    × (taken.reply ≡ reply.Stamp (write_stamp (units limits) (c.write_count + 1))))
    ⊎ ((taken.appended ≡ []) × (taken.reply ≡ reply.Stamp 0))
upgraded_at limits c s taken e w h =
    let unwritten : is_held_write (units limits) c s ≡ false = grind (arith, nat_tests) in
    let taken : may_write limits c ≡ false = grind (arith, nat_tests) in
    let other : ((s == (units limits).version * (c.write_count + 1)) && may_write limits c)
    ≡ false = grind (arith, nat_tests) in
    go (is_held_read (units limits) c s && (c.readers == 1) && nat_lt c.write_count limits.versions)
    refl (rw (unwritten, other) at e)
  where
    go : (b : Bool) →
        (is_held_read (units limits) c s && (c.readers == 1)
        && nat_lt c.write_count limits.versions) ≡ b →
        (if b then Some
        (record {
          appended = ReadReleased ∷ WriteAcquired ∷ [];
          reply = reply.Stamp (write_stamp (units limits) (c.write_count + 1));
        })
        else Some (record { appended = []; reply = reply.Stamp 0 })) ≡ Some taken →
        ((c.readers ≡ 1) × (taken.appended ≡ ReadReleased ∷ WriteAcquired ∷ [])
        × (taken.reply ≡ reply.Stamp (write_stamp (units limits) (c.write_count + 1))))
        ⊎ ((taken.appended ≡ []) × (taken.reply ≡ reply.Stamp 0))
    go true q e = inl (grind (arith, nat_tests), cc, cc)
    go false q e = inr (cc, cc)
