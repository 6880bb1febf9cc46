-- Well-formed events stay so where an event comes next that may, and are counted so.
use Rattle.std.proofs.Common.{zero, suc, ◌≡◌, ◌⊎◌, ℕ, ◌+◌, ◌<◌, ◌≤◌, List, [], ◌∷◌, ◌++◌, length}
use Rattle.std.proofs.Common.{take, refl, sym, ◌∙◌, ap, subst, inl, inr, arith, append_assoc}
use Rattle.std.proofs.Common.{length-append, cond, Bool}
use Rattle.std.specs.List.{count_by}
use Rattle.std.proofs.lemmas.List.{append-nil, take-append-le, take_all}
use Rattle.std.proofs.lemmas.List.Sums.{sum_by-append}
use Rattle.std.proofs.Math.Seq.{take-length}
use Rattle.stamp_core.specs.LockEvent.{LockEvent, Counts, counts, write_count, writers, readers}
use Rattle.stamp_core.specs.LockEvent.{is_write_acquired, is_write_released, is_read_acquired}
use Rattle.stamp_core.specs.LockEvent.{is_read_released}
use Rattle.stamp_core.specs.LockEvent.LockEvent.{WriteAcquired, WriteReleased, ReadAcquired, ReadReleased}
use Rattle.stamp_core.specs.Limits.{Bounds}
use Rattle.stamp_core.specs.IsWellFormed.{CountsAreWithin, Obeys, IsWellFormed}
use Rattle.stamp_core.specs.Decoded.{after_event, after_events}

-- the event may come next
abbrev pub Allows : Bounds → Counts → LockEvent → Type 0
Allows limits c WriteAcquired = (c.writers ≡ 0) × (c.readers ≡ 0) × (c.write_count < limits.versions)
Allows limits c WriteReleased = (c.writers ≡ 1) × (c.readers ≡ 0)
Allows limits c ReadAcquired = (c.writers ≡ 0) × (c.readers < limits.readers)
Allows limits c ReadReleased = (c.writers ≡ 0) × (0 < c.readers)

abbrev pub AllowsAll : Bounds → Counts → List LockEvent → Type 0
AllowsAll limits c [] = Unit {0}
AllowsAll limits c (event ∷ appended) = Allows limits c event × AllowsAll limits (after_event c event) appended

-- a count, with one more event
count_push : (p : LockEvent → Bool) (events : List LockEvent) (event : LockEvent) →
    count_by p (events ++ event ∷ []) ≡ count_by p events + cond (p event) 1 0
count_push p events event = grind (arith, sum_by-append (λ x. cond (p x) 1 0) events (event ∷ []))

pub obeys_now : (limits : Bounds) (events : List LockEvent) → IsWellFormed limits events → Obeys limits events
obeys_now limits events well_formed = subst (λ (p : List LockEvent). Obeys limits p) (take-length events)
    (well_formed.always (length events))

well_formed_push : (limits : Bounds) (events : List LockEvent) (event : LockEvent) → IsWellFormed limits events →
    Obeys limits (events ++ event ∷ []) → IsWellFormed limits (events ++ event ∷ [])
well_formed_push limits events event well_formed now = record { always = λ n. at n (total n (length events)) }
  where
    total : (n m : ℕ) → (n ≤ m) ⊎ (m + 1 ≤ n)
    total n m = grind arith

    at : (n : ℕ) → (n ≤ length events) ⊎ (length events + 1 ≤ n) → Obeys limits (take n (events ++ event ∷ []))
    at n (inl within) = rw (take-append-le n events (event ∷ []) within) (well_formed.always n)
    at n (inr beyond) = rw (take_all n (events ++ event ∷ []) (grind (arith, length-append events (event ∷ [])))) now

-- counts are equal where their parts are
same_counts : (c : Counts) (k w r : ℕ) → c.write_count ≡ k → c.writers ≡ w → c.readers ≡ r → c ≡
    record { write_count = k; writers = w; readers = r }
same_counts c k w r e f g =
    let parts : record { write_count = c.write_count; writers = c.writers; readers = c.readers } ≡
    record { write_count = k; writers = w; readers = r } = cc in parts

-- counts that are known, and within the limits
settle : (limits : Bounds) (events : List LockEvent) (c : Counts) →
    count_by is_write_released events ≤ write_count events →
    count_by is_read_released events ≤ count_by is_read_acquired events → write_count events ≡ c.write_count →
    writers events ≡ c.writers → readers events ≡ c.readers → CountsAreWithin limits c → Obeys limits events ×
    (counts events ≡ c)
settle limits events c ended read_ended k w r within =
    let same : counts events ≡ c = same_counts (counts events) c.write_count c.writers c.readers k w r in (
      record {
        write_acquired = ended;
        read_acquired = read_ended;
        within =
            subst (λ (d : Counts). CountsAreWithin limits d) (sym same) within;
      },
      same,
    )

pub push : (limits : Bounds) (events : List LockEvent) (event : LockEvent) → IsWellFormed limits events →
    Allows limits (counts events) event → Obeys limits (events ++ event ∷ []) ×
    (counts (events ++ event ∷ []) ≡ after_event (counts events) event)
push limits events WriteAcquired well_formed may =
    let now = obeys_now limits events well_formed in
    let a = count_push is_write_acquired events WriteAcquired in
    let b = count_push is_write_released events WriteAcquired in
    let c = count_push is_read_acquired events WriteAcquired in
    let d = count_push is_read_released events WriteAcquired in
    settle limits (events ++ WriteAcquired ∷ []) (after_event (counts events) WriteAcquired) (omega arith)
    (omega arith) (omega arith) (omega arith) (omega arith)
    (record { one_writer = omega arith; readers = omega arith; apart = λ h. omega arith; versions = omega arith })
push limits events WriteReleased well_formed may =
    let now = obeys_now limits events well_formed in
    let a = count_push is_write_acquired events WriteReleased in
    let b = count_push is_write_released events WriteReleased in
    let c = count_push is_read_acquired events WriteReleased in
    let d = count_push is_read_released events WriteReleased in
    settle limits (events ++ WriteReleased ∷ []) (after_event (counts events) WriteReleased) (omega arith)
    (omega arith) (omega arith) (omega arith) (omega arith)
    (record { one_writer = omega arith; readers = omega arith; apart = λ h. omega arith; versions = omega arith })
push limits events ReadAcquired well_formed may =
    let now = obeys_now limits events well_formed in
    let a = count_push is_write_acquired events ReadAcquired in
    let b = count_push is_write_released events ReadAcquired in
    let c = count_push is_read_acquired events ReadAcquired in
    let d = count_push is_read_released events ReadAcquired in
    settle limits (events ++ ReadAcquired ∷ []) (after_event (counts events) ReadAcquired) (omega arith)
    (omega arith) (omega arith) (omega arith) (omega arith)
    (record { one_writer = omega arith; readers = omega arith; apart = λ h. omega arith; versions = omega arith })
push limits events ReadReleased well_formed may =
    let now = obeys_now limits events well_formed in
    let a = count_push is_write_acquired events ReadReleased in
    let b = count_push is_write_released events ReadReleased in
    let c = count_push is_read_acquired events ReadReleased in
    let d = count_push is_read_released events ReadReleased in
    settle limits (events ++ ReadReleased ∷ []) (after_event (counts events) ReadReleased) (omega arith)
    (omega arith) (omega arith) (omega arith) (omega arith)
    (record { one_writer = omega arith; readers = omega arith; apart = λ h. omega arith; versions = omega arith })

-- the same, of several events
pub push_all : (limits : Bounds) (appended events : List LockEvent) → IsWellFormed limits events →
    AllowsAll limits (counts events) appended → IsWellFormed limits (events ++ appended) ×
    (counts (events ++ appended) ≡ after_events (counts events) appended)
push_all limits [] events well_formed may = rw (append-nil events) (well_formed, refl)
push_all limits (event ∷ appended) events well_formed may =
    let next = push limits events event well_formed may.0 in
    let rest = push_all limits appended (events ++ event ∷ [])
    (well_formed_push limits events event well_formed next.0)
    (subst (λ (c : Counts). AllowsAll limits c appended) (sym next.1) may.1) in
    let whole : (events ++ event ∷ []) ++ appended ≡ events ++ event ∷ appended =
    append_assoc events (event ∷ []) appended in
    let well_formed_after : IsWellFormed limits (events ++ event ∷ appended) =
    subst (λ (p : List LockEvent). IsWellFormed limits p) whole rest.0 in
    let counted : counts (events ++ event ∷ appended) ≡ after_events (counts events) (event ∷ appended) =
    ap counts (sym whole) ∙ rest.1 ∙ ap (λ (c : Counts). after_events c appended) next.1 in
    (well_formed_after, counted)

-- nothing has happened yet
pub well_formed_none : {limits : Bounds} → IsWellFormed limits []
well_formed_none {limits} = record { always = empty }
  where
    nothing : Obeys limits []
    nothing = record {
      write_acquired = omega arith;
      read_acquired = omega arith;
      within =
          record { one_writer = omega arith; readers = omega arith; apart = λ h. omega arith; versions = omega arith };
    }

    empty : (n : ℕ) → Obeys limits (take n [])
    empty zero = nothing
    empty (suc n) = nothing
