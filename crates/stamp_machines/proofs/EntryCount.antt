-- A thread finishes no more calls than it has, so there are no more entries than a record may have.
use Rattle.std.proofs.Common.{◌≡◌, ℕ, ◌+◌, ◌*◌, ◌<◌, ◌≤◌, ◌==◌, ◌&&◌, nat_lt, Bool, true, false}
use Rattle.std.proofs.Common.{List, [], ◌∷◌, ◌++◌, length, Option, Some, None, zero, suc}
use Rattle.std.proofs.Common.{if◌then◌else◌, refl, sym, ◌∙◌, ap, subst, arith, inl}
use Rattle.std.specs.Prelude.{slice_index_or, slice_get, fold, IsTrue, map, filter}
use Rattle.std.specs.List.{All}
use Rattle.std.proofs.lemmas.Bool.Decides.{nat_tests}
use Rattle.std.proofs.lemmas.List.{length-append}
use Rattle.std.proofs.lemmas.List.Elements.{All-push, All-nil, All-head, All-tail}
use Rattle.std.proofs.lemmas.Option.{slice_get_within}
use Rattle.stamp_core.specs.Call.{call_suits}
use Rattle.stamp_core.specs.Record.{IsRecorded}
use Rattle.stamp_core.specs.Decision.{stamp_in}
use Rattle.stamp_core.specs.declared.entry.Entry.{Entry}
use Rattle.stamp_core.specs.declared.call.Call.{Call}
use Rattle.stamp_machines.specs.declared.script.ScriptCall.{ScriptCall}
use Rattle.stamp_machines.specs.declared.script.ScriptCall.TheVariants.{TryWrite, TryRead}
use Rattle.stamp_machines.specs.declared.script.ScriptCall.TheVariants.{WriteLock, ReadLock}
use Rattle.stamp_machines.specs.declared.script.ScriptCall.TheVariants.{Optimistic, Validate}
use Rattle.stamp_machines.specs.declared.script.ScriptCall.TheVariants.{UnlockWrite, UnlockRead}
use Rattle.stamp_machines.specs.declared.script.ScriptCall.TheVariants.{Unlock, ToWrite, ToRead}
use Rattle.stamp_machines.specs.declared.script.ScriptCall.TheVariants.{ToOptimistic}
use Rattle.stamp_machines.specs.declared.script.ScriptCall.TheVariants.{TryUnlockWrite}
use Rattle.stamp_machines.specs.declared.script.ScriptCall.TheVariants.{TryUnlockRead}
use Rattle.stamp_machines.specs.declared.script.ScriptCall.TheVariants.{IsWriteLocked, IsReadLocked}
use Rattle.stamp_machines.specs.declared.script.ScriptCall.TheVariants.{ReadCount, Get, Put, PutIf}
use Rattle.stamp_machines.specs.declared.state.Begun.{Begun}
use Rattle.stamp_machines.specs.declared.machine.Turn.{Turn}
use Rattle.stamp_machines.specs.declared.machine.Turn.TheVariants.{Going, Done}
use Rattle.stamp_machines.specs.declared.shape.Shape.{Shape}
use Rattle.stamp_machines.specs.Job.{Job}
use Rattle.stamp_machines.specs.LockPhase as phases
use Rattle.stamp_machines.specs.LockPhase.{PhaseTurn}
use Rattle.stamp_machines.specs.RecordStage as on_record
use Rattle.stamp_machines.specs.RecordStage.{RecordStageTurn}
use Rattle.stamp_machines.specs.MachineState.{MachineState, Stage, OnLock, OnRecord, start}
use Rattle.stamp_machines.specs.Machine.{after_access, after_in, lock_turn, record_turn}
use Rattle.stamp_machines.specs.Script.{Scripted, IsSound, Suits, calls_of}
use Rattle.stamp_machines.specs.World.{World, opening, current, current_of, begun_call, shape_of}
use Rattle.stamp_machines.specs.World.{stamps_of, is_of, resolved, world_after, world_stepped, step, entry_of}
use Rattle.stamp_machines.specs.World.{execution_of, finished_calls}
use Rattle.stamp_machines.proofs.CurrentCall.{thread-within, call-suits}
use Rattle.stamp_machines.proofs.EntryOrder.{each_slot, slot_none}
use Rattle.stamp_machines.proofs.StateSteps.{stamps_of-append}

-- f of each number below n, added up
abbrev pub total : ℕ → (ℕ → ℕ) → ℕ
total zero f = 0
total (suc n) f = total n f + f n

abbrev pub one_where : Bool → ℕ
one_where true = 1
one_where false = 0

total_zero : (n : ℕ) → total n (λ t. 0) ≡ 0
total_zero zero = refl
total_zero (suc n) = omega (arith, total_zero n)

total_same : (n : ℕ) (f g : ℕ → ℕ) (k : ℕ) → ((t : ℕ) → f t ≡ g t + one_where (t == k)) → n ≤ k →
    total n f ≡ total n g
total_same zero f g k each below = refl
total_same (suc n) f g k each below =
    let other : (n == k) ≡ false = grind (arith, nat_tests) in
    let at : f n ≡ g n + 0 = each n ∙ ap (λ (b : Bool). g n + one_where b) other in
    omega (arith, at, total_same n f g k each (omega (arith, below)))

-- one more at one index below n is one more in all
total_more : (n : ℕ) (f g : ℕ → ℕ) (k : ℕ) → ((t : ℕ) → f t ≡ g t + one_where (t == k)) → k < n →
    total n f ≡ total n g + 1
total_more zero f g k each lt = absurd (omega (arith, lt))
total_more (suc n) f g k each lt = by (total_more n f g k each) (n == k) refl
  where
    by : (k < n → total n f ≡ total n g + 1) → (b : Bool) → (n == k) ≡ b →
        total n f + f n ≡ total n g + g n + 1
    by below true e =
        let same : n ≡ k = grind (arith, e) in
        let at : f n ≡ g n + 1 = each n ∙ ap (λ (b : Bool). g n + one_where b) e in
        omega (arith, at, total_same n f g k each (omega (arith, same)))
    by below false e =
        let apart : k < n = grind (arith, e, lt) in
        let at : f n ≡ g n + 0 = each n ∙ ap (λ (b : Bool). g n + one_where b) e in
        let rest = below apart in
        omega (arith, at, rest)

total_few : (n m : ℕ) (f : ℕ → ℕ) → ((t : ℕ) → f t ≤ m) → total n f ≤ n * m
total_few zero m f each = omega arith
total_few (suc n) m f each = let rest = total_few n m f each in let here = each n in
    grind (arith, rest, here)

-- how many entries a thread has
abbrev pub count_of : List Entry → ℕ → ℕ
count_of entries t = length (stamps_of t entries)

count_first : (e : Entry) (entries : List Entry) (t : ℕ) →
    count_of (e ∷ entries) t ≡ count_of entries t + one_where (t == e.thread)
count_first e entries t = by (t == e.thread)
  where
    by : (b : Bool) →
        length (map (λ (x : Entry). stamp_in x.reply) (if b then e ∷ filter (is_of t) entries
        else filter (is_of t) entries)) ≡ count_of entries t + one_where b
    by true = omega arith
    by false = omega arith

-- each entry is one of the threads below n
pub counted : (n : ℕ) (entries : List Entry) → All (λ (e : Entry). e.thread < n) entries →
    total n (count_of entries) ≡ length entries
counted n [] in_range = total_zero n
counted n (e ∷ entries) in_range =
    let more = total_more n (count_of (e ∷ entries)) (count_of entries) e.thread
    (count_first e entries) (All-head (λ (x : Entry). x.thread < n) e entries in_range) in
    omega (arith, more, counted n entries (All-tail (λ (x : Entry). x.thread < n) e entries in_range))

-- the call of a script's thread, resolved, suits the width as the script's does
words_suit : (width a : ℕ) → 0 < width → a ≡ width → (nat_lt 0 width && (a == width)) ≡ true
words_suit width a some same = grind (arith, nat_tests, some, same)

both_suit : (width a b : ℕ) → 0 < width → a ≡ width → b ≡ width →
    (nat_lt 0 width && (a == width) && (b == width)) ≡ true
both_suit width a b some same also = grind (arith, nat_tests, some, same, also)

resolved-suits : (stamps : ℕ → List ℕ) (width : ℕ) (c : ScriptCall) → Suits width c →
    IsTrue (call_suits width (resolved stamps c))
resolved-suits stamps width TryWrite s = refl
resolved-suits stamps width TryRead s = refl
resolved-suits stamps width WriteLock s = refl
resolved-suits stamps width ReadLock s = refl
resolved-suits stamps width Optimistic s = refl
resolved-suits stamps width (Validate a) s = refl
resolved-suits stamps width (UnlockWrite a) s = refl
resolved-suits stamps width (UnlockRead a) s = refl
resolved-suits stamps width (Unlock a) s = refl
resolved-suits stamps width (ToWrite a) s = refl
resolved-suits stamps width (ToRead a) s = refl
resolved-suits stamps width (ToOptimistic a) s = refl
resolved-suits stamps width TryUnlockWrite s = refl
resolved-suits stamps width TryUnlockRead s = refl
resolved-suits stamps width IsWriteLocked s = refl
resolved-suits stamps width IsReadLocked s = refl
resolved-suits stamps width ReadCount s = refl
resolved-suits stamps width Get s = grind (arith, nat_tests, s)
resolved-suits stamps width (Put a) s = words_suit width (length a) s.0 s.1
resolved-suits stamps width (PutIf a b) s = both_suit width (length a) (length b) s.0 s.1 s.2

-- a call that has begun is one of its thread's, and so not yet among those that have ended
abbrev pub IsOneOf : Scripted → List Entry → ℕ → Option Begun → Type 0
IsOneOf script entries t None = count_of entries t ≤ length (calls_of script t)
IsOneOf script entries t (Some b) =
    (t < length script.threads) × (count_of entries t < length (calls_of script t))
    × IsTrue (call_suits script.width b.machine.call)

pub record IsCounted (script : Scripted) (world : World) : Type 0 where
  pub in_range : All (λ (e : Entry). e.thread < length script.threads) world.entries
  pub suits : All (λ (e : Entry). IsTrue (call_suits script.width e.call)) world.entries
  pub begun : (t : ℕ) → IsOneOf script world.entries t (slice_index_or world.begun t None)

current-one : (script : Scripted) (world : World) (t : ℕ) (b : Begun) → IsSound script →
    IsCounted script world → current script world t ≡ Some b → IsOneOf script world.entries t (Some b)
current-one script world t b sound counts = by (slice_index_or world.begun t None) refl
  where
    begins : (c : Option ScriptCall) → slice_get (calls_of script t) (count_of world.entries t) ≡ c →
        begun_call (shape_of script) (λ k. stamps_of k world.entries) world.position c ≡ Some b →
        IsOneOf script world.entries t (Some b)
    begins None at e = cc
    begins (Some c) at e =
        let within : t < length script.threads =
        thread-within script.threads t (count_of world.entries t) c at in
        let suits : Suits script.width c =
        call-suits script.width (calls_of script t) (count_of world.entries t) c
        (sound.suited t [] within) at in
        let same : record {
          machine = start (shape_of script)
              (resolved (λ k. stamps_of k world.entries) c);
          first = world.position;
        } ≡ b = cc in (
          within,
          slice_get_within (calls_of script t) (count_of world.entries t) c at,
          subst (λ (x : Begun). IsTrue (call_suits script.width x.machine.call)) same
              (resolved-suits (λ k. stamps_of k world.entries) script.width c suits),
        )

    by : (slot : Option Begun) → slice_index_or world.begun t None ≡ slot →
        current_of script (λ k. stamps_of k world.entries) world.position t slot ≡ Some b →
        IsOneOf script world.entries t (Some b)
    by None at e = begins (slice_get (calls_of script t) (count_of world.entries t)) refl e
    by (Some c) at e = let same : c ≡ b =
        cc in subst (λ (x : Begun). IsOneOf script world.entries t (Some x)) same
        (subst (IsOneOf script world.entries t) at (counts.begun t))

at_most : (script : Scripted) (entries : List Entry) (t : ℕ) (slot : Option Begun) →
    IsOneOf script entries t slot → count_of entries t ≤ length (calls_of script t)
at_most script entries t None one = one
at_most script entries t (Some b) one = omega (arith, one.1)

count_last : (entries : List Entry) (e : Entry) (t : ℕ) →
    count_of (entries ++ e ∷ []) t ≡ count_of entries t + one_where (t == e.thread)
count_last entries e t = ap length (stamps_of-append t entries e) ∙ by (t == e.thread)
  where
    by : (b : Bool) →
        length (if b then stamps_of t entries ++ stamp_in e.reply ∷ [] else stamps_of t entries)
        ≡ count_of entries t + one_where b
    by true = length-append (stamps_of t entries) (stamp_in e.reply ∷ [])
    by false = omega arith

other-one : (script : Scripted) (entries : List Entry) (e : Entry) (t : ℕ) (slot : Option Begun) →
    (t == e.thread) ≡ false → IsOneOf script entries t slot → IsOneOf script (entries ++ e ∷ []) t slot
other-one script entries e t slot n one = by slot one
  where
    same : count_of (entries ++ e ∷ []) t ≡ count_of entries t + 0
    same = count_last entries e t ∙ ap (λ (b : Bool). count_of entries t + one_where b) n

    by : (slot : Option Begun) → IsOneOf script entries t slot →
        IsOneOf script (entries ++ e ∷ []) t slot
    by None one = omega (arith, same, one)
    by (Some b) one = (one.0, omega (arith, same, one.1), one.2)

-- an access keeps the call
abbrev pub IsStillOf : Call → Turn → Type 0
IsStillOf call (Going m) = m.call ≡ call
IsStillOf call (Done r) = Unit {0}

lock_same : (shape : Shape) (call : Call) (p : PhaseTurn) → IsStillOf call (lock_turn shape call p)
lock_same shape call (phases.Going seen) = refl
lock_same shape call (phases.Done r) = tt

record_same : (shape : Shape) (call : Call) (job : Job) (p : RecordStageTurn) →
    IsStillOf call (record_turn shape call job p)
record_same shape call job (on_record.Going stage) = refl
record_same shape call job (on_record.Done r) = tt

pub after_same : (s : MachineState) (found : ℕ) → IsStillOf s.call (after_access s found)
after_same s found = by s.stage
  where
    by : (stage : Stage) → IsStillOf s.call (after_in s.shape s.call found stage)
    by (OnLock last) = lock_same s.shape s.call _
    by (OnRecord job stage) = record_same s.shape s.call job _

lands-counted : (script : Scripted) (world : World) (t : ℕ) (b : Begun) (words : List ℕ)
    (turned : Turn) → IsCounted script world → IsOneOf script world.entries t (Some b) →
    IsStillOf b.machine.call turned → IsCounted script (world_after world t b words turned)
lands-counted script world t b words (Going m) counts one same = record {
  in_range = counts.in_range;
  suits = counts.suits;
  begun = each_slot (IsOneOf script world.entries) world.begun t
      (Some (record { machine = m; first = b.first })) (λ k n. counts.begun k)
      (one.0, one.1, subst (λ (x : Call). IsTrue (call_suits script.width x)) (sym same) one.2)
      (at_most script world.entries t (Some b) one);
}
lands-counted script world t b words (Done r) counts one same =
    let x : Entry = entry_of world t b r in
    let itself : (t == t) ≡ true = grind arith in
    let more : count_of (world.entries ++ x ∷ []) t ≡ count_of world.entries t + 1 =
    count_last world.entries x t
    ∙ ap (λ (b : Bool). count_of world.entries t + one_where b) itself in
    let room : count_of (world.entries ++ x ∷ []) t ≤ length (calls_of script t) =
    omega (arith, more, one.1) in
    record {
      in_range = All-push (λ (y : Entry). y.thread < length script.threads) world.entries x counts.in_range
          one.0;
      suits = All-push (λ (y : Entry). IsTrue (call_suits script.width y.call)) world.entries x
          counts.suits one.2;
      begun = each_slot (IsOneOf script (world.entries ++ x ∷ [])) world.begun t None
          (λ k n. other-one script world.entries x k _ n (counts.begun k)) room room;
    }

step-counted : (script : Scripted) (world : World) (t : ℕ) → IsSound script → IsCounted script world →
    IsCounted script (step script world t)
step-counted script world t sound counts = by (current script world t) refl
  where
    by : (c : Option Begun) → current script world t ≡ c → IsCounted script (world_stepped world t c)
    by None e = record { in_range = counts.in_range; suits = counts.suits; begun = counts.begun }
    by (Some b) e =
        lands-counted script world t b _ _ counts (current-one script world t b sound counts e)
        (after_same b.machine _)

opening-counted : (script : Scripted) → IsCounted script (opening script)
opening-counted script = record {
  in_range = All-nil (λ (e : Entry). e.thread < length script.threads);
  suits = All-nil (λ (e : Entry). IsTrue (call_suits script.width e.call));
  begun = λ t. rw (slot_none (length script.threads) t) (omega arith);
}

steps-counted : (script : Scripted) (world : World) (steps : List ℕ) → IsSound script →
    IsCounted script world → IsCounted script (fold (step script) world steps)
steps-counted script world [] sound counts = counts
steps-counted script world (t ∷ steps) sound counts =
    steps-counted script (step script world t) steps sound (step-counted script world t sound counts)

always-counted : (script : Scripted) (steps : List ℕ) → IsSound script →
    IsCounted script (execution_of script steps)
unfolding execution_of
always-counted script steps sound =
    steps-counted script (opening script) steps sound (opening-counted script)

calls_few : (threads : List (List ScriptCall)) (t : ℕ) →
    All (λ calls. length calls ≤ 10000) threads → length (slice_index_or threads t []) ≤ 10000
calls_few [] t short = omega arith
calls_few (x ∷ threads) zero short =
    All-head (λ (calls : List ScriptCall). length calls ≤ 10000) x threads short
calls_few (x ∷ threads) (suc t) short =
    calls_few threads t
    (All-tail (λ (calls : List ScriptCall). length calls ≤ 10000) x threads short)

-- what a schedule finishes can stand in a record
pub finished-recorded : (script : Scripted) (steps : List ℕ) → IsSound script →
    IsRecorded (record {
      limits = script.limits;
      width = script.width;
      entries = finished_calls script steps;
      report = [];
    })
finished-recorded script steps sound =
    let world : World = execution_of script steps in
    let counts : IsCounted script world = always-counted script steps sound in
    let all : total (length script.threads) (count_of world.entries) ≡ length world.entries =
    counted (length script.threads) world.entries counts.in_range in
    let few : total (length script.threads) (count_of world.entries) ≤ length script.threads * 10000 =
    total_few (length script.threads) 10000 (count_of world.entries)
    (λ t. let a = at_most script world.entries t _ (counts.begun t) in
    let b = calls_few script.threads t sound.short in omega (arith, a, b)) in
    let threads = sound.threads in
    record {
      width = sound.width;
      entries = omega (arith, all, few, threads);
      report = inl refl;
      suit = λ k d lt. record {
        thread = let n = counts.in_range k d lt in
            omega (arith, n, threads);
        call = counts.suits k d lt;
      };
    }
