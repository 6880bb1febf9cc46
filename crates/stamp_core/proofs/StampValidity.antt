-- Stamps that are issued are valid then, and as long as no write mode is got.
use Rattle.std.proofs.Common.{◌≡◌, ◌≢◌, ◌⊎◌, ℕ, ◌+◌, ◌-◌, ◌<◌, ◌≤◌, ◌/◌, ◌==◌, List, [], ◌∷◌, ◌++◌}
use Rattle.std.proofs.Common.{refl, sym, ◌∙◌, subst, inl, inr, arith, cond, Bool, true, false}
use Rattle.std.proofs.Common.{Option, Some, None}
use Rattle.std.specs.Prelude.{if◌then◌else◌, ◌&&◌, nat_lt}
use Rattle.std.specs.Bool.{MatchBool}
use Rattle.std.specs.List.{count_by}
use Rattle.std.proofs.lemmas.List.{append-nil}
use Rattle.std.proofs.lemmas.List.Sums.{sum_by-append}
use Rattle.std.proofs.lemmas.Bool.Decides.{nat_tests}
use Rattle.std.proofs.lemmas.Bool.{and_parts}
use Rattle.stamp_core.specs.LockEvent.{LockEvent, Counts, counts, write_count, writers}
use Rattle.stamp_core.specs.LockEvent.{is_write_acquired, is_write_released}
use Rattle.stamp_core.specs.LockEvent.LockEvent.{WriteAcquired, ReadAcquired}
use Rattle.stamp_core.specs.Limits.{Bounds, AreInRange, units}
use Rattle.stamp_core.specs.Layout.{units_of, Units}
use Rattle.stamp_core.specs.IsWellFormed.{CountsAreWithin, IsWellFormed}
use Rattle.stamp_core.specs.Stamp.{write_stamp, optimistic_stamp, read_stamp, IsWriteStamp, IsStamp}
use Rattle.stamp_core.specs.Stamp.{IsValid, is_held_write, is_held_read}
use Rattle.stamp_core.specs.Transition.{Transition, row, transition, answer, change, next_write}
use Rattle.stamp_core.specs.Transition.{next_read, may_write, may_read}
use Rattle.stamp_core.specs.Call.{is_lock_call}
use Rattle.stamp_core.specs.History.{History, appended_by, Replies, IsReply, content_from}
use Rattle.stamp_core.specs.History.{events_from, events_of, IsLegalFrom}
use Rattle.stamp_core.specs.Content.{RecordReplies, same_words, zeros, content_next}
use Rattle.stamp_core.specs.Laws.{NoneAcquiresWrite, StampValidity, HeldIsValid, LegalIsWellFormed}
use Rattle.stamp_core.specs.Decoded.{after_events}
use Rattle.stamp_core.specs.declared.layout.Layout.{Layout}
use Rattle.stamp_core.proofs.TwoLayouts.{either_layout}
use Rattle.stamp_core.proofs.WellFormedPush.{push_all, obeys_now, well_formed_none}
use Rattle.stamp_core.proofs.TransitionsKeep.{IsAllowed, KeepsBy, row_keeps, sole_reader, reader_of}
use Rattle.stamp_core.specs.declared.call.Call.{Call}
use Rattle.stamp_core.specs.declared.call.Call.TheVariants.{TryWrite, TryRead, WriteLock, ReadLock}
use Rattle.stamp_core.specs.declared.call.Call.TheVariants.{Optimistic, Validate, UnlockWrite}
use Rattle.stamp_core.specs.declared.call.Call.TheVariants.{UnlockRead, Unlock, ToWrite, ToRead}
use Rattle.stamp_core.specs.declared.call.Call.TheVariants.{ToOptimistic, TryUnlockWrite}
use Rattle.stamp_core.specs.declared.call.Call.TheVariants.{TryUnlockRead, IsWriteLocked}
use Rattle.stamp_core.specs.declared.call.Call.TheVariants.{IsReadLocked, ReadCount, Get, Put}
use Rattle.stamp_core.specs.declared.call.Call.TheVariants.{PutIf}
use Rattle.stamp_core.specs.declared.reply.Reply.{Reply}
use Rattle.stamp_core.specs.declared.reply.Reply.TheVariants.{Stamp, Yes, No, Done, Mismatch, Count}

-- valid, by the version and the writer
abbrev pub ValidAt : Units → ℕ → ℕ → ℕ → Type 0
ValidAt u k wr s = IsStamp u k s × ((wr ≡ 0) ⊎ IsWriteStamp u k s)

as_write : (u : Units) (k wr s : ℕ) → 1 ≤ k → k ≤ u.versions → s ≡ write_stamp u k → ValidAt u k wr s
as_write u k wr s some most e = let w : IsWriteStamp u k s = record { some = some; most = most; number = e } in
    (inl w, inr w)

as_read : (u : Units) (k wr s c : ℕ) → wr ≡ 0 → 1 ≤ c → c ≤ u.readers → k ≤ u.versions → s ≡ read_stamp u k c →
    ValidAt u k wr s
as_read u k wr s c free some few most e = (
  inr
      (inl (record { nth = c; some = some; most = few; version = most; number = e })),
  inl free,
)

as_observed : (u : Units) (k wr s : ℕ) → wr ≡ 0 → k ≤ u.versions → s ≡ optimistic_stamp u k → ValidAt u k wr s
as_observed u k wr s free most e = (inr (inr (record { version = most; number = e })), inl free)

abbrev pub IssuesBy : Units → Counts → Option Transition → Type 0
IssuesBy u c None = Unit {0}
IssuesBy u c (Some t) = (s : ℕ) → t.reply ≡ Stamp s → s ≢ 0 →
    ValidAt u (after_events c t.appended).write_count (after_events c t.appended).writers s

-- a stamp that the transition answers is valid after it
pub record Issues (u : Units) (c : Counts) (t : Option Transition) : Type 0 where
  pub issued : IssuesBy u c t

issues_if : (u : Units) (c : Counts) (b : Bool) {x y : Option Transition} → (b ≡ true → Issues u c x) →
    (b ≡ false → Issues u c y) → Issues u c (if b then x else y)
issues_if u c true f g = f refl
issues_if u c false f g = g refl

nothing : {u : Units} {c : Counts} → Issues u c None
nothing = record { issued = tt }

issues : {u : Units} {c : Counts} {appended : List LockEvent} {n : ℕ} →
    (n ≢ 0 → ValidAt u (after_events c appended).write_count (after_events c appended).writers n) →
    Issues u c (change appended (Stamp n))
issues {u} {c} {appended} {n} f = record {
  issued = λ s e ne. let same : n ≡ s = cc in
      subst (λ (m : ℕ). ValidAt u (after_events c appended).write_count (after_events c appended).writers m) same
      (f (λ z. ne (sym same ∙ z)));
}

zero_stamp : {u : Units} {c : Counts} → Issues u c (answer (Stamp 0))
zero_stamp = record { issued = λ s e ne. let same : 0 ≡ s = cc in absurd (ne (sym same)) }

yes : {u : Units} {c : Counts} {appended : List LockEvent} → Issues u c (change appended Yes)
yes = record { issued = λ s e ne. cc }

no : {u : Units} {c : Counts} {appended : List LockEvent} → Issues u c (change appended No)
no = record { issued = λ s e ne. cc }

done : {u : Units} {c : Counts} {appended : List LockEvent} → Issues u c (change appended Done)
done = record { issued = λ s e ne. cc }

mismatch : {u : Units} {c : Counts} → Issues u c (answer Mismatch)
mismatch = record { issued = λ s e ne. cc }

counted : {u : Units} {c : Counts} {n : ℕ} → Issues u c (answer (Count n))
counted = record { issued = λ s e ne. cc }

yes_or_no : (u : Units) (c : Counts) (b : Bool) → Issues u c (answer (if b then Yes else No))
yes_or_no u c true = yes
yes_or_no u c false = no

gets_write : (l : Bounds) (c : Counts) → AreInRange l → may_write l c ≡ true →
    Issues (units l) c (change (WriteAcquired ∷ []) (next_write (units l) c))
gets_write l c range may = let room : c.write_count < l.versions = grind (arith, nat_tests) in
    issues (λ _. as_write (units l) (c.write_count + 1) 1 (write_stamp (units l) (c.write_count + 1)) (omega arith)
    (omega arith) refl)

gets_read : (l : Bounds) (c : Counts) → AreInRange l → CountsAreWithin l c → may_read l c ≡ true →
    Issues (units l) c (change (ReadAcquired ∷ []) (next_read (units l) c))
gets_read l c range within may =
    let free : c.writers ≡ 0 = grind (arith, nat_tests) in
    let room : c.readers < l.readers = grind (arith, nat_tests) in
    issues (λ _. as_read (units l) c.write_count c.writers (read_stamp (units l) c.write_count (c.readers + 1))
    (c.readers + 1) free (omega arith) (omega arith) (omega arith) refl)

held_write_of : (u : Units) (c : Counts) (s : ℕ) → is_held_write u c s ≡ true → (1 ≤ c.write_count) ×
    (s ≡ write_stamp u c.write_count)
held_write_of u c s h = grind (arith, nat_tests)

held_read_of : (u : Units) (c : Counts) (s : ℕ) → is_held_read u c s ≡ true → (read_stamp u c.write_count 1 ≤ s) ×
    (s ≤ read_stamp u c.write_count u.readers)
held_read_of u c s h = grind (arith, nat_tests)

observed_of : (u : Units) (c : Counts) (s : ℕ) → ((s == optimistic_stamp u c.write_count) && (c.writers == 0)) ≡
    true → (s ≡ optimistic_stamp u c.write_count) × (c.writers ≡ 0)
observed_of u c s h = grind (arith, nat_tests)

optimistic_issues : (l : Bounds) (c : Counts) → AreInRange l → CountsAreWithin l c → (b : Bool) →
    (b ≡ true → c.writers ≡ 0) → Issues (units l) c
    (answer (Stamp (if b then optimistic_stamp (units l) c.write_count else 0)))
optimistic_issues l c range within true free =
    issues (λ _. as_observed (units l) c.write_count c.writers (optimistic_stamp (units l) c.write_count)
    (free refl) (omega arith) refl)
optimistic_issues l c range within false free = zero_stamp

is_none : (c : Counts) → (c.writers == 0) ≡ true → c.writers ≡ 0
is_none c h = grind (arith, nat_tests)

no_writer : (l : Bounds) (c : Counts) → CountsAreWithin l c → 0 < c.readers → c.writers ≡ 0
no_writer l c within some = grind arith

pub row_issues : (limits : Bounds) (c : Counts) → AreInRange limits → CountsAreWithin limits c → (call : Call) →
    Issues (units limits) c (row limits c call)
row_issues l c range within TryWrite = issues_if (units l) c (may_write l c) (λ h. gets_write l c range h)
    (λ _. zero_stamp)
row_issues l c range within TryRead = issues_if (units l) c (may_read l c) (λ h. gets_read l c range within h)
    (λ _. zero_stamp)
row_issues l c range within WriteLock =
    issues_if (units l) c (c.write_count == l.versions) (λ _. zero_stamp)
    (λ _. issues_if (units l) c (may_write l c) (λ h. gets_write l c range h) (λ _. nothing))
row_issues l c range within ReadLock = issues_if (units l) c (may_read l c) (λ h. gets_read l c range within h)
    (λ _. nothing)
row_issues l c range within Optimistic = optimistic_issues l c range within (c.writers == 0) (is_none c)
row_issues l c range within (Validate s) = yes_or_no (units l) c _
row_issues l c range within (UnlockWrite s) =
    issues_if (units l) c (is_held_write (units l) c s) (λ _. done) (λ _. mismatch)
row_issues l c range within (UnlockRead s) = issues_if (units l) c (is_held_read (units l) c s) (λ _. done)
    (λ _. mismatch)
row_issues l c range within (Unlock s) =
    issues_if (units l) c (is_held_write (units l) c s) (λ _. done)
    (λ _. issues_if (units l) c (is_held_read (units l) c s) (λ _. done) (λ _. mismatch))
row_issues l c range within (ToWrite s) =
    issues_if (units l) c (is_held_write (units l) c s)
    (λ h. let w = held_write_of (units l) c s h in
    issues (λ _. as_write (units l) c.write_count c.writers s w.0 (omega arith) w.1))
    (λ _. issues_if (units l) c (is_held_read (units l) c s && (c.readers == 1) && nat_lt c.write_count l.versions)
    (λ h. let r = sole_reader l c s h in issues
    (λ _. as_write (units l) (c.write_count + 1) 1 (write_stamp (units l) (c.write_count + 1)) (omega arith)
    (omega arith) refl))
    (λ _. issues_if (units l) c ((s == optimistic_stamp (units l) c.write_count) && may_write l c)
    (λ h. gets_write l c range (and_parts _ _ h).1) (λ _. zero_stamp)))
row_issues l c range within (ToRead s) =
    issues_if (units l) c (is_held_write (units l) c s)
    (λ h. issues (λ _. as_read (units l) c.write_count 0 (read_stamp (units l) c.write_count 1) 1 refl
    (omega arith) (omega arith) (omega arith) refl))
    (λ _. issues_if (units l) c (is_held_read (units l) c s)
    (λ h. let r = held_read_of (units l) c s h in let some = reader_of l c s h in
    issues (λ _. as_read (units l) c.write_count c.writers s (s - optimistic_stamp (units l) c.write_count)
    (no_writer l c within some) (omega arith) (omega arith) (omega arith) (omega arith)))
    (λ _. issues_if (units l) c ((s == optimistic_stamp (units l) c.write_count) && may_read l c)
    (λ h. gets_read l c range within (and_parts _ _ h).1) (λ _. zero_stamp)))
row_issues l c range within (ToOptimistic s) =
    issues_if (units l) c (is_held_write (units l) c s)
    (λ h. issues (λ _. as_observed (units l) c.write_count 0 (optimistic_stamp (units l) c.write_count) refl
    (omega arith) refl))
    (λ _. issues_if (units l) c (is_held_read (units l) c s)
    (λ h. let some = reader_of l c s h in
    issues (λ _. as_observed (units l) c.write_count c.writers (optimistic_stamp (units l) c.write_count)
    (no_writer l c within some) (omega arith) refl))
    (λ _. issues_if (units l) c ((s == optimistic_stamp (units l) c.write_count) && (c.writers == 0))
    (λ h. let o = observed_of (units l) c s h in
    issues (λ _. as_observed (units l) c.write_count c.writers s o.1 (omega arith) o.0)) (λ _. zero_stamp)))
row_issues l c range within TryUnlockWrite = issues_if (units l) c (c.writers == 1) (λ _. yes) (λ _. no)
row_issues l c range within TryUnlockRead = issues_if (units l) c (nat_lt 0 c.readers) (λ _. yes) (λ _. no)
row_issues l c range within IsWriteLocked = yes_or_no (units l) c _
row_issues l c range within IsReadLocked = yes_or_no (units l) c _
row_issues l c range within ReadCount = counted
row_issues l c range within Get = nothing
row_issues l c range within (Put words) = nothing
row_issues l c range within (PutIf expected words) = nothing

-- events that are well-formed stay so by a transition, and are counted so
pub transition_counts : (limits : Bounds) (events : List LockEvent) (call : Call) → AreInRange limits →
    IsWellFormed limits events → IsWellFormed limits (events ++ appended_by (transition limits events call)) ×
    (counts (events ++ appended_by (transition limits events call)) ≡
    after_events (counts events) (appended_by (transition limits events call)))
transition_counts limits events call range well_formed =
    by (transition limits events call) (row_keeps limits (counts events) range.some_reader
    (obeys_now limits events well_formed).within call).kept
  where
    by_events : (appended : List LockEvent) → IsAllowed limits (counts events) appended →
        IsWellFormed limits (events ++ appended) ×
        (counts (events ++ appended) ≡ after_events (counts events) appended)
    by_events [] m = rw (append-nil events) (well_formed, refl)
    by_events (event ∷ appended) m = push_all limits (event ∷ appended) events well_formed m.0

    by : (t : Option Transition) → KeepsBy limits (counts events) t →
        IsWellFormed limits (events ++ appended_by t) ×
        (counts (events ++ appended_by t) ≡ after_events (counts events) (appended_by t))
    by None k = by_events [] tt
    by (Some t) k = by_events t.appended k

-- after well-formed events those of a legal history are well-formed
pub well_formed_from : (limits : Bounds) (events : List LockEvent) (content : List ℕ) (entries : History) →
    AreInRange limits → IsWellFormed limits events → IsLegalFrom limits events content entries →
    IsWellFormed limits (events_from limits events entries)
well_formed_from limits events content [] range well_formed legal = well_formed
well_formed_from limits events content (e ∷ es) range well_formed legal =
    well_formed_from limits (events ++ appended_by (transition limits events e.0))
    (content_next content e.0 e.1) es range (transition_counts limits events e.0 range well_formed).0 legal.1

pub events_from-append : (limits : Bounds) (events : List LockEvent) (xs ys : History) →
    events_from limits events (xs ++ ys) ≡ events_from limits (events_from limits events xs) ys
events_from-append limits events [] ys = refl
events_from-append limits events (x ∷ xs) ys =
    events_from-append limits (events ++ appended_by (transition limits events x.0)) xs ys

pub legal_first : (limits : Bounds) (events : List LockEvent) (content : List ℕ) (xs ys : History) →
    IsLegalFrom limits events content (xs ++ ys) → IsLegalFrom limits events content xs
legal_first limits events content [] ys legal = tt
legal_first limits events content (x ∷ xs) ys legal = (
  legal.0,
  legal_first limits (events ++ appended_by (transition limits events x.0))
      (content_next content x.0 x.1) xs ys legal.1,
)

pub legal_rest : (limits : Bounds) (events : List LockEvent) (content : List ℕ) (xs ys : History) →
    IsLegalFrom limits events content (xs ++ ys) →
    IsLegalFrom limits (events_from limits events xs) (content_from content xs) ys
legal_rest limits events content [] ys legal = legal
legal_rest limits events content (x ∷ xs) ys legal =
    legal_rest limits (events ++ appended_by (transition limits events x.0))
    (content_next content x.0 x.1) xs ys legal.1

-- what is issued is valid after the transition
issued_at : (limits : Bounds) (events : List LockEvent) (call : Call) (s : ℕ) → AreInRange limits →
    IsWellFormed limits events → Replies (transition limits events call) (Stamp s) → s ≢ 0 →
    IsValid limits (events ++ appended_by (transition limits events call)) s
issued_at limits events call s range well_formed replies ne =
    let at : (c : Counts) → counts (events ++ appended_by (transition limits events call)) ≡ c →
    ValidAt (units limits) c.write_count c.writers s →
    IsValid limits (events ++ appended_by (transition limits events call)) s =
    λ c e v. subst (λ (d : Counts). ValidAt (units limits) d.write_count d.writers s) (sym e) v in
    at (after_events (counts events) (appended_by (transition limits events call)))
    (transition_counts limits events call range well_formed).1
    (by (transition limits events call) (row_issues limits (counts events) range
    (obeys_now limits events well_formed).within call).issued replies)
  where
    by : (t : Option Transition) → IssuesBy (units limits) (counts events) t → Replies t (Stamp s) →
        ValidAt (units limits) (after_events (counts events) (appended_by t)).write_count
        (after_events (counts events) (appended_by t)).writers s
    by None i r = absurd r
    by (Some t) i r = i s r ne

-- the record answers no stamp
no_stamp : (content : List ℕ) (call : Call) (s : ℕ) → RecordReplies content call (Stamp s) → ⊥
no_stamp content Get s h = cc
no_stamp content (Put words) s h = cc
no_stamp content (PutIf expected words) s h = by (same_words content expected) h
  where
    by : (b : Bool) → Stamp s ≡ (if b then Yes else No) → ⊥
    by true e = cc
    by false e = cc
no_stamp content _ s h = h

stamp_reply : (limits : Bounds) (events : List LockEvent) (content : List ℕ) (call : Call) (s : ℕ) →
    IsReply limits events content call (Stamp s) → Replies (transition limits events call) (Stamp s)
stamp_reply limits events content call s h = by (is_lock_call call) h
  where
    by : (b : Bool) → MatchBool b (Replies (transition limits events call) (Stamp s))
        (RecordReplies content call (Stamp s)) → Replies (transition limits events call) (Stamp s)
    by true h = h
    by false h = absurd (no_stamp content call s h)

-- counts of events that are joined
writes-append : (xs ys : List LockEvent) → write_count (xs ++ ys) ≡ write_count xs + write_count ys
writes-append xs ys = sum_by-append (λ (x : LockEvent). cond (is_write_acquired x) 1 0) xs ys

ends-append : (xs ys : List LockEvent) → count_by is_write_released (xs ++ ys) ≡ count_by is_write_released xs +
    count_by is_write_released ys
ends-append xs ys = sum_by-append (λ (x : LockEvent). cond (is_write_released x) 1 0) xs ys

writes_grow : (limits : Bounds) (events : List LockEvent) (entries : History) →
    write_count events ≤ write_count (events_from limits events entries)
writes_grow limits events [] = omega arith
writes_grow limits events (e ∷ es) =
    omega (
      arith,
      writes_grow limits (events ++ appended_by (transition limits events e.0)) es,
      writes-append events (appended_by (transition limits events e.0)),
    )

-- where none gets write mode there are as many write acquisitions, and no writer where there was none
kept : (limits : Bounds) (events : List LockEvent) (entries : History) → NoneAcquiresWrite limits events entries →
    (write_count (events_from limits events entries) ≡ write_count events) ×
    (writers events ≡ 0 → writers (events_from limits events entries) ≡ 0)
kept limits events [] none = (refl, λ h. h)
kept limits events (e ∷ es) none =
    let appended = appended_by (transition limits events e.0) in
    let more = kept limits (events ++ appended) es none.1 in
    let w = writes-append events appended in
    let d = ends-append events appended in
    (omega arith, λ h. more.1 (omega arith))

-- and where there are as many, none got it
none_acquires : (limits : Bounds) (events : List LockEvent) (entries : History) →
    write_count (events_from limits events entries) ≡ write_count events → NoneAcquiresWrite limits events entries
none_acquires limits events [] same = tt
none_acquires limits events (e ∷ es) same =
    let appended = appended_by (transition limits events e.0) in
    let w = writes-append events appended in
    let grow = writes_grow limits (events ++ appended) es in
    (omega arith, none_acquires limits (events ++ appended) es (omega arith))

-- a stamp has one version
one_version : (l : Layout) (k s : ℕ) → IsStamp (units_of l) k s → (s + (units_of l).writer) / (units_of l).version ≡
    k + 1
one_version l k s (inl w) = let e = w.number in grind (arith, either_layout l)
one_version l k s (inr (inl r)) = let e = r.number in let few = r.most in grind (arith, either_layout l)
one_version l k s (inr (inr o)) = let e = o.number in grind (arith, either_layout l)

stays_valid : (limits : Bounds) (events later : List LockEvent) (s : ℕ) → write_count later ≡ write_count events →
    (writers events ≡ 0 → writers later ≡ 0) → IsValid limits events s → IsValid limits later s
stays_valid limits events later s same free valid =
    let at : (k : ℕ) → write_count events ≡ k → IsStamp (units limits) k s =
    λ k e. subst (λ (n : ℕ). IsStamp (units limits) n s) e valid.0 in
    let held : (k : ℕ) → write_count events ≡ k → (writers events ≡ 0) ⊎
    IsWriteStamp (units limits) (write_count events) s → (writers later ≡ 0) ⊎ IsWriteStamp (units limits) k s =
    λ k e h. elim h [
      | inl z ↦ inl (free z)
      | inr w ↦ inr
          (subst (λ (n : ℕ). IsWriteStamp (units limits) n s) e w)
    ] in
    (at (write_count later) (sym same), held (write_count later) (sym same) valid.1)

pub stamp_validity : StampValidity
stamp_validity limits width before issue after s range legal replied ne =
    let events = events_of limits before in
    let now = events ++ appended_by (transition limits events issue.0) in
    let well_formed = well_formed_from limits [] (zeros width) before range well_formed_none
    (legal_first limits [] (zeros width) before (issue ∷ after) legal) in
    let rest = legal_rest limits [] (zeros width) before (issue ∷ after) legal in
    let valid : IsValid limits now s = issued_at limits events issue.0 s range well_formed
    (stamp_reply limits events (content_from (zeros width) before) issue.0 s
    (subst (λ (r : Reply). IsReply limits events (content_from (zeros width) before) issue.0 r) replied rest.0))
    ne in
    let whole : events_of limits (before ++ issue ∷ after) ≡ events_from limits now after =
    events_from-append limits [] before (issue ∷ after) in
    let here : events_of limits (before ++ issue ∷ []) ≡ now = events_from-append limits [] before (issue ∷ []) in
    rw (whole, here) (
      λ v. none_acquires limits now after (omega (
        arith,
        one_version limits.layout (write_count now) s valid.0,
        one_version limits.layout (write_count (events_from limits now after)) s v.0,
      )),
      λ none. let k = kept limits now after none in
          stays_valid limits now (events_from limits now after) s k.0 k.1 valid,
    )

pub held_is_valid : HeldIsValid
held_is_valid limits events s well_formed (inl w) = (inl w.0, inr w.0)
held_is_valid limits events s well_formed (inr r) =
    (inr (inl r.0), inl (no_writer limits (counts events) (obeys_now limits events well_formed).within r.1))

pub legal_is_well_formed : LegalIsWellFormed
legal_is_well_formed limits width entries range legal =
    well_formed_from limits [] (zeros width) entries range well_formed_none legal
