-- Each number of a state is represented as the word of some events.
use Rattle.std.proofs.Common.{zero, suc, ◌≡◌, ◌↔◌, ℕ, ◌+◌, ◌<◌, ◌≤◌, List, [], ◌∷◌, ◌++◌, refl, sym, ◌∙◌}
use Rattle.std.proofs.Common.{ap, subst, inl, inr, arith}
use Rattle.std.proofs.lemmas.Bool.Decides.{nat_tests}
use Rattle.stamp_core.specs.LockEvent.{LockEvent, Counts, counts}
use Rattle.stamp_core.specs.LockEvent.LockEvent.{WriteAcquired, WriteReleased, ReadAcquired}
use Rattle.stamp_core.specs.Layout.{Units, units_of}
use Rattle.stamp_core.specs.Limits.{Bounds, AreInRange, units, widest}
use Rattle.stamp_core.specs.Word.{LockWord, word_at, word_number, IsAdmitted}
use Rattle.stamp_core.specs.IsWellFormed.{IsWellFormed}
use Rattle.stamp_core.specs.Stamp.{IsWriteStamp, IsReadStamp, IsOptimisticStamp, IsStamp}
use Rattle.stamp_core.specs.StampKind.{HasKind}
use Rattle.stamp_core.specs.declared.stamps.StampKind.{StampKind}
use Rattle.stamp_core.specs.declared.stamps.StampKind.TheVariants.{Write, Read, Optimistic, Neither}
use Rattle.stamp_core.specs.Decoded.{IsNumber, counts_in, counts_of, after_events}
use Rattle.stamp_core.specs.inner.Decoded.{IsWithinLimits}
use Rattle.stamp_core.specs.declared.layout.Layout.{Layout}
use Rattle.stamp_core.proofs.TwoLayouts.{either_layout}
use Rattle.stamp_core.proofs.WellFormedPush.{AllowsAll, push_all, obeys_now, well_formed_none}
use Rattle.stamp_core.proofs.WordCounts.{counts_in-represented}

-- well-formed events with these counts
pub record Reached (limits : Bounds) (c : Counts) : Type 0 where
  pub events : List LockEvent
  pub well_formed : IsWellFormed limits events
  pub counted : counts events ≡ c

reach : (limits : Bounds) (c : Counts) (appended : List LockEvent) (d : Counts) → Reached limits c →
    AllowsAll limits c appended → after_events c appended ≡ d → Reached limits d
reach limits c appended d from may e =
    let next = push_all limits appended from.events from.well_formed
    (subst (λ (x : Counts). AllowsAll limits x appended) (sym from.counted) may) in
    record {
      events = from.events ++ appended;
      well_formed = next.0;
      counted = next.1 ∙
          ap (λ (x : Counts). after_events x appended) from.counted ∙ e;
    }

rounds : (limits : Bounds) (k : ℕ) → k ≤ limits.versions →
    Reached limits (record { write_count = k; writers = 0; readers = 0 })
rounds limits zero room = record { events = []; well_formed = well_formed_none; counted = refl }
rounds limits (suc k) room =
    let up : k + 1 ≡ suc k = omega arith in
    reach limits (record { write_count = k; writers = 0; readers = 0 }) (WriteAcquired ∷ WriteReleased ∷ [])
    (record { write_count = suc k; writers = 0; readers = 0 })
    (rounds limits k (omega arith)) ((refl, refl, omega arith), ((refl, refl), tt))
    (ap (λ (n : ℕ). record { write_count = n; writers = 0; readers = 0 }) up)

read_by : (limits : Bounds) (k r : ℕ) → k ≤ limits.versions → r ≤ limits.readers →
    Reached limits (record { write_count = k; writers = 0; readers = r })
read_by limits k zero room few = rounds limits k room
read_by limits k (suc r) room few =
    let up : r + 1 ≡ suc r = omega arith in
    reach limits (record { write_count = k; writers = 0; readers = r }) (ReadAcquired ∷ [])
    (record { write_count = k; writers = 0; readers = suc r })
    (read_by limits k r room (omega arith)) ((refl, omega arith), tt)
    (ap (λ (n : ℕ). record { write_count = k; writers = 0; readers = n }) up)

written_by : (limits : Bounds) (k : ℕ) → 1 ≤ k → k ≤ limits.versions →
    Reached limits (record { write_count = k; writers = 1; readers = 0 })
written_by limits zero some room = absurd (omega arith)
written_by limits (suc k) some room =
    let up : k + 1 ≡ suc k = omega arith in
    reach limits (record { write_count = k; writers = 0; readers = 0 }) (WriteAcquired ∷ [])
    (record { write_count = suc k; writers = 1; readers = 0 })
    (rounds limits k (omega arith)) ((refl, refl, omega arith), tt)
    (ap (λ (n : ℕ). record { write_count = n; writers = 1; readers = 0 }) up)

-- the number of a state whose counts are reached is admitted
represented_by : (limits : Bounds) (n : ℕ) (c : Counts) → n ≡ word_number (units limits) c → Reached limits c →
    IsAdmitted limits (record { layout = limits.layout; bits = n })
represented_by limits n c e by = record {
  events = by.events;
  represented =
      record {
        layout = refl;
        well_formed = by.well_formed;
        spelled = e ∙
            ap (λ (x : Counts). word_number (units limits) x) (sym by.counted);
      };
}

-- a number is the word of its counts
pub word_of-state : (l : Layout) (n : ℕ) → IsNumber (units_of l) n → n ≡
    word_number (units_of l) (counts_of (units_of l) n)
unfolding counts_of
word_of-state l n state = grind (arith, nat_tests, either_layout l)

-- what is known of a number's counts
pub record Stands (u : Units) (c : Counts) : Type 0 where
  pub one_writer : c.writers ≤ 1
  pub apart : 0 < c.writers → c.readers ≡ 0
  pub written : 0 < c.writers → 1 ≤ c.write_count
  pub readers : c.readers ≤ u.readers
  pub versions : c.write_count ≤ u.versions

pub stands : (l : Layout) (n : ℕ) → IsNumber (units_of l) n → Stands (units_of l) (counts_of (units_of l) n)
unfolding counts_of
stands l n state =
    let e = either_layout l in
    record {
      one_writer = grind (arith, nat_tests);
      apart = λ h. grind (arith, nat_tests);
      written =
          λ h. grind (arith, nat_tests);
      readers = grind (arith, nat_tests);
      versions = grind (arith, nat_tests);
    }

admitted_at : (limits : Bounds) (n k wr r : ℕ) →
    Stands (units limits) (record { write_count = k; writers = wr; readers = r }) → n ≡
    word_number (units limits) (record { write_count = k; writers = wr; readers = r }) → r ≤ limits.readers →
    k ≤ limits.versions → IsAdmitted limits (record { layout = limits.layout; bits = n })
admitted_at limits n k zero r st e few room =
    represented_by limits n (record { write_count = k; writers = 0; readers = r }) e (read_by limits k r room few)
admitted_at limits n k (suc zero) r st e few room =
    represented_by limits n (record { write_count = k; writers = 1; readers = 0 }) e
    (written_by limits k (st.written (omega arith)) room)
admitted_at limits n k (suc (suc wr)) r st e few room = absurd (omega (arith, st.one_writer))

-- a number of a state is admitted by the limits that its counts are within
pub admitted : (limits : Bounds) (n : ℕ) → IsNumber (units limits) n →
    (counts_of (units limits) n).readers ≤ limits.readers →
    (counts_of (units limits) n).write_count ≤ limits.versions →
    IsAdmitted limits (record { layout = limits.layout; bits = n })
admitted limits n state few room =
    let c = counts_of (units limits) n in
    admitted_at limits n c.write_count c.writers c.readers (stands limits.layout n state)
    (word_of-state limits.layout n state) few room

-- the same of a word in the limits' layout
pub admitted_word : (limits : Bounds) (w : LockWord) → w.layout ≡ limits.layout →
    IsNumber (units_of w.layout) w.bits → (counts_in w).readers ≤ limits.readers →
    (counts_in w).write_count ≤ limits.versions → IsAdmitted limits w
admitted_word limits w same =
    subst (λ (l : Layout). IsNumber (units_of l) w.bits → (counts_of (units_of l) w.bits).readers ≤ limits.readers →
    (counts_of (units_of l) w.bits).write_count ≤ limits.versions →
    IsAdmitted limits (record { layout = l; bits = w.bits })) (sym same) (admitted limits w.bits)

number_of_counts : (l : Layout) (n k wr r : ℕ) →
    Stands (units_of l) (record { write_count = k; writers = wr; readers = r }) → n ≡
    word_number (units_of l) (record { write_count = k; writers = wr; readers = r }) → IsNumber (units_of l) n
number_of_counts l n k zero r st e = let u = either_layout l in let few = st.readers in let room = st.versions in
    record { low = grind arith; high = grind arith; holders = grind arith }
number_of_counts l n k (suc zero) r st e = let u = either_layout l in let w = st.written (omega arith) in let room =
    st.versions in record { low = grind arith; high = grind arith; holders = grind arith }
number_of_counts l n k (suc (suc wr)) r st e = absurd (omega (arith, st.one_writer))

-- an admitted word has the number of a state
pub is_state : (limits : Bounds) (w : LockWord) → AreInRange limits → IsAdmitted limits w →
    IsNumber (units limits) w.bits
is_state limits w range a =
    let now = obeys_now limits a.events a.represented.well_formed in
    number_of_counts limits.layout w.bits (counts a.events).write_count (counts a.events).writers
    (counts a.events).readers
    (record {
      one_writer = now.within.one_writer;
      apart = now.within.apart;
      written = λ h. omega arith;
      readers =
          omega arith;
      versions = omega arith;
    }) a.represented.spelled

pub is_within : (limits : Bounds) (w : LockWord) → AreInRange limits → IsAdmitted limits w →
    ((counts_in w).readers ≤ limits.readers) × ((counts_in w).write_count ≤ limits.versions)
is_within limits w range a =
    let now = obeys_now limits a.events a.represented.well_formed in
    rw (counts_in-represented limits w a.events range a.represented) (now.within.readers, now.within.versions)

widest_in_range : (l : Layout) → AreInRange (widest l)
widest_in_range l = let u = either_layout l in
    record { some_reader = grind arith; readers = grind arith; versions = grind arith }

-- the numbers of states are those that are admitted by the widest limits
pub state_is_admitted : (l : Layout) (n : ℕ) → IsNumber (units_of l) n →
    IsAdmitted (widest l) (record { layout = l; bits = n })
state_is_admitted l n state = let st = stands l n state in admitted (widest l) n state st.readers st.versions

pub admitted_is_state : (l : Layout) (n : ℕ) → IsAdmitted (widest l) (record { layout = l; bits = n }) →
    IsNumber (units_of l) n
admitted_is_state l n a = is_state (widest l) (record { layout = l; bits = n }) (widest_in_range l) a

-- each stamp is the number of a state
pub stamp_is_state : (l : Layout) (k s : ℕ) → IsStamp (units_of l) k s → IsNumber (units_of l) s
stamp_is_state l k s (inl w) = let u = either_layout l in let e = w.number in let some = w.some in let most =
    w.most in record { low = grind arith; high = grind arith; holders = grind arith }
stamp_is_state l k s (inr (inl r)) = let u = either_layout l in let e = r.number in let most = r.most in let room =
    r.version in record { low = grind arith; high = grind arith; holders = grind arith }
stamp_is_state l k s (inr (inr o)) = let u = either_layout l in let e = o.number in let room = o.version in
    record { low = grind arith; high = grind arith; holders = grind arith }

-- and each number of a state is a stamp
pub kind_of : (l : Layout) (s : ℕ) → IsNumber (units_of l) s → let u = units_of l in let c = counts_of u s in
    (c.writers ≡ 1 → IsWriteStamp u c.write_count s) ×
    (c.writers ≡ 0 → 0 < c.readers → HasKind u s (Read c.write_count c.readers)) ×
    (c.writers ≡ 0 → c.readers ≡ 0 → IsOptimisticStamp u c.write_count s)
kind_of l s state =
    let st = stands l s state in
    let e = word_of-state l s state in (
      λ w. record { some = omega arith; most = omega arith; number = grind (arith, nat_tests) },
      λ w some. (omega arith, omega arith, omega arith, grind (arith, nat_tests)),
      λ w none. record { version = omega arith; number = grind (arith, nat_tests) },
    )

-- a number is a stamp of one kind
pub write_kind : (l : Layout) (s k : ℕ) (kind : StampKind) → HasKind (units_of l) s kind →
    IsWriteStamp (units_of l) k s → (n : ℕ) × (kind ≡ Write n)
write_kind l s k (Write n) has w = (n, refl)
write_kind l s k (Read n c) has w = absurd (grind (arith, either_layout l, has, w.number))
write_kind l s k (Optimistic n) has w = absurd (grind (arith, either_layout l, has.number, w.number))
write_kind l s k Neither has w = absurd (has k (inl w))

pub read_kind : (l : Layout) (s k : ℕ) (kind : StampKind) → HasKind (units_of l) s kind →
    IsReadStamp (units_of l) k s → (n : ℕ) × (c : ℕ) × (kind ≡ Read n c)
read_kind l s k (Write n) has r = absurd (grind (arith, either_layout l, has.number, r.number, r.some, r.most))
read_kind l s k (Read n c) has r = (n, c, refl)
read_kind l s k (Optimistic n) has r = absurd (grind (arith, either_layout l, has.number, r.number, r.some, r.most))
read_kind l s k Neither has r = absurd (has k (inr (inl r)))

pub observed_kind : (l : Layout) (s k : ℕ) (kind : StampKind) → HasKind (units_of l) s kind →
    IsOptimisticStamp (units_of l) k s → (n : ℕ) × (kind ≡ Optimistic n)
observed_kind l s k (Write n) has o = absurd (grind (arith, either_layout l, has.number, o.number))
observed_kind l s k (Read n c) has o = absurd (grind (arith, either_layout l, has, o.number))
observed_kind l s k (Optimistic n) has o = (n, refl)
observed_kind l s k Neither has o = absurd (has k (inr (inr o)))

-- the widest limits, by their parts
pub in_range : (l : Layout) (r v : ℕ) → r ≡ (units_of l).readers → v ≡ (units_of l).versions →
    AreInRange (record { layout = l; readers = r; versions = v })
in_range l r v readers versions = rw (readers, versions) (widest_in_range l)

-- the number of an admitted word is that of one in the limits' layout
pub admitted_number : (limits : Bounds) (w : LockWord) (n : ℕ) → IsAdmitted limits w → n ≡ w.bits →
    IsAdmitted limits (word_at limits n)
admitted_number limits w n a e = record {
  events = a.events;
  represented = record { well_formed = a.represented.well_formed; layout = refl; spelled = e ∙ a.represented.spelled };
}

-- a number within the limits is that of an admitted word
within_state : (limits : Bounds) (n : ℕ) → AreInRange limits → IsWithinLimits limits n → IsNumber (units limits) n
unfolding counts_of
within_state limits n range within =
    let u = either_layout limits.layout in
    record {
      low = grind (arith, nat_tests, range.readers, range.versions);
      high = grind (arith, nat_tests, range.readers, range.versions);
      holders = grind (arith, nat_tests, range.readers, range.versions);
    }

pub within_is_admitted : (limits : Bounds) (n : ℕ) → AreInRange limits → IsWithinLimits limits n ↔
    IsAdmitted limits (word_at limits n)
within_is_admitted limits n range = (
  λ within. admitted limits n (within_state limits n range within) within.1 within.2,
  λ a.
      let state = is_state limits (word_at limits n) range a in
      let low = state.low in
      let u = either_layout limits.layout in
      let counts = is_within limits (word_at limits n) range a in
      (grind arith, counts.0, counts.1),
)
