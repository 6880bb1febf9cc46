-- Each row of the call table answers the respelled call with the respelled reply, and appends the same events.
use Rattle.std.proofs.Common.{◌≡◌, ℕ, ◌+◌, ◌-◌, ◌*◌, ◌<◌, ◌≤◌, ◌==◌, List, [], ◌∷◌, refl, sym, ◌∙◌}
use Rattle.std.proofs.Common.{ap, inl, inr, arith, Bool, true, false, Option, Some, None}
use Rattle.std.specs.Prelude.{if◌then◌else◌, ◌&&◌, ◌||◌, nat_lt, min}
use Rattle.std.proofs.lemmas.Bool.Decides.{nat_tests}
use Rattle.std.proofs.lemmas.Bool.{and_parts}
use Rattle.stamp_core.specs.LockEvent.{LockEvent, Counts, write_count}
use Rattle.stamp_core.specs.LockEvent.LockEvent.{WriteAcquired, WriteReleased, ReadAcquired, ReadReleased}
use Rattle.stamp_core.specs.Layout.{narrow, wide, units_of}
use Rattle.stamp_core.specs.Limits.{Bounds, bounds}
use Rattle.stamp_core.specs.Stamp.{write_stamp, read_stamp, optimistic_stamp, is_write_stamp}
use Rattle.stamp_core.specs.Stamp.{is_read_stamp, is_held_write, is_held_read, is_valid}
use Rattle.stamp_core.specs.Transition.{Transition, row, answer, change, may_write, may_read}
use Rattle.stamp_core.specs.History.{appended_by}
use Rattle.stamp_core.specs.declared.layout.Layout.TheVariants.{One}
use Rattle.stamp_core.specs.declared.call.Call.{Call}
use Rattle.stamp_core.specs.declared.call.Call.TheVariants.{TryWrite, TryRead, WriteLock, ReadLock}
use Rattle.stamp_core.specs.declared.call.Call.TheVariants.{Optimistic, Validate, UnlockWrite}
use Rattle.stamp_core.specs.declared.call.Call.TheVariants.{UnlockRead, Unlock, ToWrite, ToRead}
use Rattle.stamp_core.specs.declared.call.Call.TheVariants.{ToOptimistic, TryUnlockWrite}
use Rattle.stamp_core.specs.declared.call.Call.TheVariants.{TryUnlockRead, IsWriteLocked}
use Rattle.stamp_core.specs.declared.call.Call.TheVariants.{IsReadLocked, ReadCount, Get, Put}
use Rattle.stamp_core.specs.declared.call.Call.TheVariants.{PutIf}
use Rattle.stamp_core.specs.declared.reply.Reply.{Reply}
use Rattle.stamp_core.specs.declared.reply.Reply.TheVariants.{Stamp, Yes, No, Done, Mismatch, Count}
use Rattle.stamp_check.specs.Migration.{respelling, respelled_call, respelled_reply, widened, CanRespell}
use Rattle.stamp_check.proofs.RespelledStamps.{TestsAgree, tests_agree, respelled_write, respelled_read}
use Rattle.stamp_check.proofs.RespelledStamps.{respelled_zero}

-- with the reply respelled
abbrev pub respelled_transition : Option Transition → Option Transition
respelled_transition None = None
respelled_transition (Some t) = Some (record { appended = t.appended; reply = respelled_reply t.reply })

abbrev pub CanRespellReply : Option Transition → Type 0
CanRespellReply None = Unit {0}
CanRespellReply (Some t) = CanRespell t.reply

-- the one is the other with its reply respelled, which can be, and at most one write acquisition comes with it
pub record AreAlike (t wider : Option Transition) : Type 0 where
  pub same : wider ≡ respelled_transition t
  pub reply : CanRespellReply t
  pub few : write_count (appended_by t) ≤ 1

alike_if : (b d : Bool) {x y v w : Option Transition} → d ≡ b → (b ≡ true → AreAlike x v) →
    (b ≡ false → AreAlike y w) → AreAlike (if b then x else y) (if d then v else w)
alike_if true true e f g = f refl
alike_if true false e f g = cc
alike_if false true e f g = cc
alike_if false false e f g = g refl

none_alike : AreAlike None None
none_alike = record { same = refl; reply = tt; few = omega arith }

plain : (appended : List LockEvent) (reply : Reply) → respelled_reply reply ≡ reply → CanRespell reply →
    write_count appended ≤ 1 → AreAlike (change appended reply) (change appended reply)
plain appended reply e can few =
    record { same = ap (λ (r : Reply). change appended r) (sym e); reply = can; few = few }

stamped : (appended : List LockEvent) (s t : ℕ) → respelling s ≡ t → CanRespell (Stamp s) →
    write_count appended ≤ 1 → AreAlike (change appended (Stamp s)) (change appended (Stamp t))
stamped appended s t e can few = record {
  same = ap (λ (n : ℕ). change appended (Stamp n)) (sym e);
  reply = can;
  few = few;
}

zero_stamp : AreAlike (answer (Stamp 0)) (answer (Stamp 0))
zero_stamp = stamped [] 0 0 respelled_zero (inl refl) (omega arith)

yes_or_no_alike : (b d : Bool) → d ≡ b → AreAlike (answer (if b then Yes else No)) (answer (if d then Yes else No))
yes_or_no_alike true true e = plain [] Yes refl tt (omega arith)
yes_or_no_alike true false e = cc
yes_or_no_alike false true e = cc
yes_or_no_alike false false e = plain [] No refl tt (omega arith)

-- the stamps of a version that layout 2 has
pub write_can : (k s : ℕ) → 1 ≤ k → k ≤ 70368744177662 → s ≡ 256 * k + 128 → CanRespell (Stamp s)
write_can k s some most e = inr (k, (most, inl (record { some = some; most = omega arith; number = e })))

pub read_can : (k c s : ℕ) → 1 ≤ c → c ≤ 127 → k ≤ 70368744177662 → s ≡ 256 * (k + 1) + c → CanRespell (Stamp s)
read_can k c s some few most e = inr (
  k,
  (
    most,
    inr (inl (record { nth = c; some = some; most = few; version = omega arith; number = e })),
  ),
)

pub optimistic_can : (k s : ℕ) → k ≤ 70368744177662 → s ≡ 256 * (k + 1) → CanRespell (Stamp s)
optimistic_can k s most e = inr (k, (most, inr (inr (record { version = omega arith; number = e }))))

got_write : (appended : List LockEvent) (k : ℕ) → k < 70368744177662 → write_count appended ≤ 1 →
    AreAlike (change appended (Stamp (write_stamp narrow (k + 1))))
    (change appended (Stamp (write_stamp wide (k + 1))))
got_write appended k room few =
    stamped appended (write_stamp narrow (k + 1)) (write_stamp wide (k + 1))
    (respelled_write (write_stamp narrow (k + 1)) (k + 1) (omega arith) (omega arith) refl)
    (write_can (k + 1) (write_stamp narrow (k + 1)) (omega arith) (omega arith) refl) few

got_read : (appended : List LockEvent) (k c : ℕ) → 1 ≤ c → c ≤ 127 → k < 70368744177662 → write_count appended ≤ 1 →
    AreAlike (change appended (Stamp (read_stamp narrow k c))) (change appended (Stamp (read_stamp wide k c)))
got_read appended k c some few room small =
    stamped appended (read_stamp narrow k c) (read_stamp wide k c)
    (respelled_read (read_stamp narrow k c) k c few (omega arith) refl)
    (read_can k c (read_stamp narrow k c) some few (omega arith) refl) small

got_optimistic : (appended : List LockEvent) (k : ℕ) → k < 70368744177662 → write_count appended ≤ 1 →
    AreAlike (change appended (Stamp (optimistic_stamp narrow k))) (change appended (Stamp (optimistic_stamp wide k)))
got_optimistic appended k room small =
    let e : respelling (optimistic_stamp narrow k) ≡ 131072 * (k + 1) + 0 =
    respelled_read (optimistic_stamp narrow k) k 0 (omega arith) (omega arith) (omega arith) in
    stamped appended (optimistic_stamp narrow k) (optimistic_stamp wide k) (omega arith)
    (optimistic_can k (optimistic_stamp narrow k) (omega arith) refl) small

-- a stamp that passes a test is handed back
kept_write : (c : Counts) (s : ℕ) → c.write_count < 70368744177662 → is_held_write narrow c s ≡ true →
    CanRespell (Stamp s)
kept_write c s room h =
    let some : 1 ≤ c.write_count = grind (arith, nat_tests) in
    let e : s ≡ 256 * c.write_count + 128 = grind (arith, nat_tests) in
    write_can c.write_count s some (omega arith) e

kept_read : (c : Counts) (s : ℕ) → c.write_count < 70368744177662 → is_held_read narrow c s ≡ true →
    CanRespell (Stamp s)
kept_read c s room h =
    let least : 256 * (c.write_count + 1) + 1 ≤ s = grind (arith, nat_tests) in
    let most : s ≤ 256 * (c.write_count + 1) + 127 = grind (arith, nat_tests) in
    read_can c.write_count (s - 256 * (c.write_count + 1)) s (omega arith) (omega arith) (omega arith) (omega arith)

kept_optimistic : (c : Counts) (s : ℕ) → c.write_count < 70368744177662 →
    ((s == optimistic_stamp narrow c.write_count) && (c.writers == 0)) ≡ true → CanRespell (Stamp s)
kept_optimistic c s room h = optimistic_can c.write_count s (omega arith) (grind (arith, nat_tests))

-- the tests of rows
room_for : (k versions : ℕ) → k < 70368744177662 → nat_lt k (min versions 70368744177662) ≡ nat_lt k versions
room_for k versions room = grind (arith, nat_tests)

spent : (k versions : ℕ) → k < 70368744177662 → (k == min versions 70368744177662) ≡ (k == versions)
spent k versions room = grind (arith, nat_tests)

may_write_alike : (readers versions : ℕ) (c : Counts) → c.write_count < 70368744177662 →
    may_write (widened (bounds One readers versions)) c ≡ may_write (bounds One readers versions) c
may_write_alike readers versions c room = ap (λ (b : Bool). (c.writers == 0) && (c.readers == 0) && b)
    (room_for c.write_count versions room)

held_write_alike : (c : Counts) (s t : ℕ) → TestsAgree c.write_count s t → is_held_write wide c t ≡
    is_held_write narrow c s
held_write_alike c s t agree = ap (λ (b : Bool). (c.writers == 1) && b) agree.write

held_read_alike : (c : Counts) (s t : ℕ) → TestsAgree c.write_count s t → is_held_read wide c t ≡
    is_held_read narrow c s
held_read_alike c s t agree = ap (λ (b : Bool). nat_lt 0 c.readers && b) agree.read

valid_by : Counts → Bool → Bool → Bool → Bool
valid_by c w r o = (w || r || o) && ((c.writers == 0) || w)

valid_alike : (c : Counts) (s t : ℕ) → TestsAgree c.write_count s t → is_valid wide c t ≡ is_valid narrow c s
unfolding valid_by
valid_alike c s t agree =
    let k = c.write_count in
    ap (λ (b : Bool). valid_by c b (is_read_stamp wide k t) (t == optimistic_stamp wide k)) agree.write ∙
    ap (λ (b : Bool). valid_by c (is_write_stamp narrow k s) b (t == optimistic_stamp wide k)) agree.read ∙
    ap (valid_by c (is_write_stamp narrow k s) (is_read_stamp narrow k s)) agree.optimistic

and_alike : (a b c d : Bool) → a ≡ b → c ≡ d → (a && c) ≡ (b && d)
and_alike a b c d e f = cc

room_for_reader : (limits : Bounds) (c : Counts) → may_read limits c ≡ true → c.readers < limits.readers
room_for_reader limits c h = grind (arith, nat_tests)

optimistic_if : (b : Bool) (k : ℕ) → k < 70368744177662 →
    AreAlike (answer (Stamp (if b then optimistic_stamp narrow k else 0)))
    (answer (Stamp (if b then optimistic_stamp wide k else 0)))
optimistic_if true k room = got_optimistic [] k room (omega arith)
optimistic_if false k room = zero_stamp

-- the rows
pub row_alike : (readers versions : ℕ) (c : Counts) → readers ≤ 127 → c.write_count < 70368744177662 →
    (call : Call) → AreAlike (row (bounds One readers versions) c call)
    (row (widened (bounds One readers versions)) c (respelled_call call))
unfolding units_of
row_alike rs vs c few room TryWrite = alike_if _ _ (may_write_alike rs vs c room)
    (λ _. got_write (WriteAcquired ∷ []) c.write_count room (omega arith)) (λ _. zero_stamp)
row_alike rs vs c few room TryRead = alike_if (may_read (bounds One rs vs) c) _ refl
    (λ h. let lt = room_for_reader (bounds One rs vs) c h in
    got_read (ReadAcquired ∷ []) c.write_count (c.readers + 1) (omega arith) (omega arith) room (omega arith))
    (λ _. zero_stamp)
row_alike rs vs c few room WriteLock =
    alike_if _ _ (spent c.write_count vs room) (λ _. zero_stamp)
    (λ _. alike_if _ _ (may_write_alike rs vs c room)
    (λ _. got_write (WriteAcquired ∷ []) c.write_count room (omega arith)) (λ _. none_alike))
row_alike rs vs c few room ReadLock = alike_if (may_read (bounds One rs vs) c) _ refl
    (λ h. let lt = room_for_reader (bounds One rs vs) c h in
    got_read (ReadAcquired ∷ []) c.write_count (c.readers + 1) (omega arith) (omega arith) room (omega arith))
    (λ _. none_alike)
row_alike rs vs c few room Optimistic = optimistic_if (c.writers == 0) c.write_count room
row_alike rs vs c few room (Validate s) = yes_or_no_alike _ _
    (valid_alike c s (respelling s) (tests_agree c.write_count s (omega arith)))
row_alike rs vs c few room (UnlockWrite s) =
    let agree = tests_agree c.write_count s (omega arith) in
    alike_if _ _ (held_write_alike c s (respelling s) agree)
    (λ _. plain (WriteReleased ∷ []) Done refl tt (omega arith)) (λ _. plain [] Mismatch refl tt (omega arith))
row_alike rs vs c few room (UnlockRead s) =
    let agree = tests_agree c.write_count s (omega arith) in
    alike_if _ _ (held_read_alike c s (respelling s) agree)
    (λ _. plain (ReadReleased ∷ []) Done refl tt (omega arith)) (λ _. plain [] Mismatch refl tt (omega arith))
row_alike rs vs c few room (Unlock s) =
    let agree = tests_agree c.write_count s (omega arith) in
    alike_if _ _ (held_write_alike c s (respelling s) agree)
    (λ _. plain (WriteReleased ∷ []) Done refl tt (omega arith))
    (λ _. alike_if _ _ (held_read_alike c s (respelling s) agree)
    (λ _. plain (ReadReleased ∷ []) Done refl tt (omega arith)) (λ _. plain [] Mismatch refl tt (omega arith)))
row_alike rs vs c few room (ToWrite s) =
    let agree = tests_agree c.write_count s (omega arith) in
    alike_if _ _ (held_write_alike c s (respelling s) agree)
    (λ h. stamped [] s (respelling s) refl (kept_write c s room h) (omega arith))
    (λ _. alike_if _ _ (and_alike _ _ _ _ (ap (λ (b : Bool). b && (c.readers == 1))
    (held_read_alike c s (respelling s) agree)) (room_for c.write_count vs room))
    (λ _. got_write (ReadReleased ∷ WriteAcquired ∷ []) c.write_count room (omega arith))
    (λ _. alike_if _ _ (and_alike _ _ _ _ agree.optimistic (may_write_alike rs vs c room))
    (λ _. got_write (WriteAcquired ∷ []) c.write_count room (omega arith)) (λ _. zero_stamp)))
row_alike rs vs c few room (ToRead s) =
    let agree = tests_agree c.write_count s (omega arith) in
    alike_if _ _ (held_write_alike c s (respelling s) agree)
    (λ h. got_read (WriteReleased ∷ ReadAcquired ∷ []) c.write_count 1 (omega arith) (omega arith) room
    (omega arith))
    (λ _. alike_if _ _ (held_read_alike c s (respelling s) agree)
    (λ h. stamped [] s (respelling s) refl (kept_read c s room h) (omega arith))
    (λ _. alike_if _ _ (ap (λ (b : Bool). b && may_read (bounds One rs vs) c) agree.optimistic)
    (λ h. let lt = room_for_reader (bounds One rs vs) c
    (and_parts (s == optimistic_stamp narrow c.write_count) (may_read (bounds One rs vs) c) h).1 in
    got_read (ReadAcquired ∷ []) c.write_count (c.readers + 1) (omega arith) (omega arith) room (omega arith))
    (λ _. zero_stamp)))
row_alike rs vs c few room (ToOptimistic s) =
    let agree = tests_agree c.write_count s (omega arith) in
    alike_if _ _ (held_write_alike c s (respelling s) agree)
    (λ _. got_optimistic (WriteReleased ∷ []) c.write_count room (omega arith))
    (λ _. alike_if _ _ (held_read_alike c s (respelling s) agree)
    (λ _. got_optimistic (ReadReleased ∷ []) c.write_count room (omega arith))
    (λ _. alike_if _ _ (ap (λ (b : Bool). b && (c.writers == 0)) agree.optimistic)
    (λ h. stamped [] s (respelling s) refl (kept_optimistic c s room h) (omega arith)) (λ _. zero_stamp)))
row_alike rs vs c few room TryUnlockWrite = alike_if (c.writers == 1) _ refl
    (λ _. plain (WriteReleased ∷ []) Yes refl tt (omega arith)) (λ _. plain [] No refl tt (omega arith))
row_alike rs vs c few room TryUnlockRead = alike_if (nat_lt 0 c.readers) _ refl
    (λ _. plain (ReadReleased ∷ []) Yes refl tt (omega arith)) (λ _. plain [] No refl tt (omega arith))
row_alike rs vs c few room IsWriteLocked = yes_or_no_alike (c.writers == 1) _ refl
row_alike rs vs c few room IsReadLocked = yes_or_no_alike (nat_lt 0 c.readers) _ refl
row_alike rs vs c few room ReadCount = plain [] (Count c.readers) refl tt (omega arith)
row_alike rs vs c few room Get = none_alike
row_alike rs vs c few room (Put words) = none_alike
row_alike rs vs c few room (PutIf expected words) = none_alike
