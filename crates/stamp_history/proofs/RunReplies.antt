-- The finished calls of a script of program values are program values.
use Rattle.std.proofs.Common.{◌≡◌, ◌≤◌, ◌++◌, ℕ, zero, suc, List, [], ◌∷◌, length}
use Rattle.std.proofs.Common.{Option, Some, None, refl, subst, sym, arith, lit<, append-nil, append_assoc}
use Rattle.std.specs.Prelude.{filter, slice_get, slice_index, slice_index_or}
use Rattle.std.specs.List.{All}
use Rattle.std.proofs.lemmas.Option.{get_or_from_slice_get, slice_get_within}
use Rattle.std.proofs.lemmas.List.Elements.{All-nil, All-push, All-head, All-tail, All-filter, All-map}
use Rattle.std.proofs.lemmas.List.Elements.{All-replicate}
use Rattle.std.proofs.lemmas.List.{length-replicate, length-append}
use Rattle.stamp_core.specs.Content.{zeros}
use Rattle.stamp_core.specs.Decision.{stamp_in}
use Rattle.stamp_core.specs.declared.call.Call.{Call}
use Rattle.stamp_core.specs.declared.entry.Entry.{Entry}
use Rattle.stamp_core.specs.declared.reply.Reply.{Reply}
use Rattle.stamp_core.specs.declared.reply.Reply.TheVariants.{Stamp, Yes, No, Done, Mismatch, Count, Content}
use Rattle.stamp_core.proofs.WellFormedPush.{well_formed_none}
use Rattle.stamp_machines.specs.Script.{Scripted, IsSound, calls_of}
use Rattle.stamp_machines.specs.World.{World, current, current_of, begun_call, shape_of, stamps_of, is_of}
use Rattle.stamp_machines.specs.World.{number_of, resolved, world_after, world_stepped, step, entry_of}
use Rattle.stamp_machines.specs.World.{execution_of, finished_calls}
use Rattle.stamp_machines.specs.MachineState.{start}
use Rattle.stamp_machines.specs.declared.machine.Turn.{Turn}
use Rattle.stamp_machines.specs.declared.machine.Turn.TheVariants as turned
use Rattle.stamp_machines.specs.declared.script.Arg.{Arg}
use Rattle.stamp_machines.specs.declared.script.Arg.TheVariants.{Number, Of}
use Rattle.stamp_machines.specs.declared.script.ScriptCall.{ScriptCall}
use Rattle.stamp_machines.specs.declared.script.ScriptCall.TheVariants.{Validate, UnlockWrite, UnlockRead, Unlock}
use Rattle.stamp_machines.specs.declared.script.ScriptCall.TheVariants.{ToWrite, ToRead, ToOptimistic, Put, PutIf}
use Rattle.stamp_machines.specs.declared.state.Begun.{Begun}
use Rattle.stamp_machines.proofs.CurrentCall.{thread-within}
use Rattle.stamp_machines.proofs.EntryCount.{IsStillOf, after_same, finished-recorded}
use Rattle.stamp_machines.proofs.EntryOrder.{each_slot, slot_none}
use Rattle.stamp_machines.proofs.StepsKeep.{always-kept, execution_of-more}
use Rattle.stamp_history.specs.HistoryLaws.{IsU64, CallIsU64}
use Rattle.stamp_history.proofs.LegalReplies.{IsProgramReply, IsProgramContent, replies_are}

-- the numbers that a script gives its calls have 64 bits
abbrev pub ArgIsU64 : Arg → Type 0
ArgIsU64 (Number n) = IsU64 n
ArgIsU64 (Of thread index) = Unit {0}

abbrev pub ScriptCallIsU64 : ScriptCall → Type 0
ScriptCallIsU64 (Validate a) = ArgIsU64 a
ScriptCallIsU64 (UnlockWrite a) = ArgIsU64 a
ScriptCallIsU64 (UnlockRead a) = ArgIsU64 a
ScriptCallIsU64 (Unlock a) = ArgIsU64 a
ScriptCallIsU64 (ToWrite a) = ArgIsU64 a
ScriptCallIsU64 (ToRead a) = ArgIsU64 a
ScriptCallIsU64 (ToOptimistic a) = ArgIsU64 a
ScriptCallIsU64 (Put words) = All IsU64 words
ScriptCallIsU64 (PutIf expected words) = All IsU64 expected × All IsU64 words
ScriptCallIsU64 _ = Unit {0}

abbrev pub ThreadsAreU64 : List (List ScriptCall) → Type 0
ThreadsAreU64 threads = All (λ (calls : List ScriptCall). All ScriptCallIsU64 calls) threads

-- a thread's stamps, and any one of them
index_fits : (stamps : List ℕ) (i : ℕ) → All IsU64 stamps → IsU64 (slice_index stamps i)
index_fits [] i fit = lit< tt
index_fits (s ∷ stamps) zero fit = All-head IsU64 s stamps fit
index_fits (s ∷ stamps) (suc i) fit = index_fits stamps i (All-tail IsU64 s stamps fit)

stamp_fits : (r : Reply) → IsProgramReply r → IsU64 (stamp_in r)
stamp_fits (Stamp s) fits = fits.numbers
stamp_fits Yes fits = lit< tt
stamp_fits No fits = lit< tt
stamp_fits Done fits = lit< tt
stamp_fits Mismatch fits = lit< tt
stamp_fits (Count n) fits = lit< tt
stamp_fits (Content words) fits = lit< tt

abbrev pub EntryReplies : Entry → Type 0
EntryReplies e = IsProgramReply e.reply

stamps_fit : (t : ℕ) (entries : List Entry) → All EntryReplies entries → All IsU64 (stamps_of t entries)
stamps_fit t entries fit = All-map IsU64 (λ (e : Entry). stamp_in e.reply) (filter (is_of t) entries)
    (λ k d lt. stamp_fits _ (All-filter (is_of t) EntryReplies entries fit k d lt))

module _ (stamps : ℕ → List ℕ) (known : (t : ℕ) → All IsU64 (stamps t)) where
  number_fits : (a : Arg) → ArgIsU64 a → IsU64 (number_of stamps a)
  number_fits (Number n) fits = fits
  number_fits (Of thread index) fits = index_fits (stamps thread) index (known thread)

  resolved_fits : (c : ScriptCall) → ScriptCallIsU64 c → CallIsU64 (resolved stamps c)
  resolved_fits (Validate a) fits = number_fits a fits
  resolved_fits (UnlockWrite a) fits = number_fits a fits
  resolved_fits (UnlockRead a) fits = number_fits a fits
  resolved_fits (Unlock a) fits = number_fits a fits
  resolved_fits (ToWrite a) fits = number_fits a fits
  resolved_fits (ToRead a) fits = number_fits a fits
  resolved_fits (ToOptimistic a) fits = number_fits a fits
  resolved_fits (Put words) fits = fits
  resolved_fits (PutIf expected words) fits = fits
  resolved_fits _ fits = tt

-- the calls that have begun or ended are program values
abbrev BegunIsU64 : Option Begun → Type 0
BegunIsU64 None = Unit {0}
BegunIsU64 (Some b) = CallIsU64 b.machine.call

abbrev pub EntryCalls : Entry → Type 0
EntryCalls e = CallIsU64 e.call

record AreCallsU64 (world : World) : Type 0 where
  ended : All EntryCalls world.entries
  begun : (t : ℕ) → BegunIsU64 (slice_index_or world.begun t None)

-- the call of a script's thread
script_call_fits : (calls : List ScriptCall) (i : ℕ) (c : ScriptCall) → All ScriptCallIsU64 calls →
    slice_get calls i ≡ Some c → ScriptCallIsU64 c
script_call_fits calls i c fit e = subst ScriptCallIsU64 (get_or_from_slice_get calls i c c e)
    (fit i c (slice_get_within calls i c e))

current_fits : (script : Scripted) (world : World) (t : ℕ) (b : Begun) → ThreadsAreU64 script.threads →
    AreCallsU64 world → All EntryReplies world.entries → current script world t ≡ Some b → CallIsU64 b.machine.call
current_fits script world t b threads calls replies = by (slice_index_or world.begun t None) refl
  where
    stamps : ℕ → List ℕ
    stamps k = stamps_of k world.entries

    begins : (c : Option ScriptCall) → slice_get (calls_of script t) (length (stamps t)) ≡ c →
        begun_call (shape_of script) stamps world.position c ≡ Some b → CallIsU64 b.machine.call
    begins None at e = cc
    begins (Some c) at e =
        let within = thread-within script.threads t (length (stamps t)) c at in
        let fits = script_call_fits (calls_of script t) (length (stamps t)) c (threads t [] within) at in
        let same : record { machine = start (shape_of script) (resolved stamps c); first = world.position } ≡ b =
        cc in
        subst (λ (x : Begun). CallIsU64 x.machine.call) same
        (resolved_fits stamps (λ k. stamps_fit k world.entries replies) c fits)

    by : (slot : Option Begun) → slice_index_or world.begun t None ≡ slot →
        current_of script stamps world.position t slot ≡ Some b → CallIsU64 b.machine.call
    by None at e = begins (slice_get (calls_of script t) (length (stamps t))) refl e
    by (Some c) at e =
        let same : c ≡ b = cc in
        subst (λ (x : Begun). CallIsU64 x.machine.call) same (subst BegunIsU64 at (calls.begun t))

lands_fit : (world : World) (t : ℕ) (b : Begun) (words : List ℕ) (turn : Turn) → AreCallsU64 world →
    CallIsU64 b.machine.call → IsStillOf b.machine.call turn → AreCallsU64 (world_after world t b words turn)
lands_fit world t b words (turned.Going m) calls fits same = record {
  ended = calls.ended;
  begun = each_slot (λ k. BegunIsU64) world.begun t (Some (record { machine = m; first = b.first }))
      (λ k n. calls.begun k) (subst (λ (c : Call). CallIsU64 c) (sym same) fits) tt;
}
lands_fit world t b words (turned.Done r) calls fits same = record {
  ended = All-push EntryCalls world.entries (entry_of world t b r) calls.ended fits;
  begun = each_slot (λ k. BegunIsU64) world.begun t None (λ k n. calls.begun k) tt tt;
}

step_fits : (script : Scripted) (world : World) (t : ℕ) → ThreadsAreU64 script.threads → AreCallsU64 world →
    All EntryReplies world.entries → AreCallsU64 (step script world t)
step_fits script world t threads calls replies = by (current script world t) refl
  where
    by : (c : Option Begun) → current script world t ≡ c → AreCallsU64 (world_stepped world t c)
    by None e = record { ended = calls.ended; begun = calls.begun }
    by (Some b) e =
        lands_fit world t b _ _ calls (current_fits script world t b threads calls replies e) (after_same b.machine _)

zeros_held : (width : ℕ) → IsProgramContent width (zeros width)
zeros_held width = record { numbers = All-replicate IsU64 width 0 (lit< tt); each = length-replicate width 0 }

-- what the finished calls were answered
answered : (script : Scripted) (steps : List ℕ) → IsSound script → length steps ≤ 1000000 →
    AreCallsU64 (execution_of script steps) → All EntryReplies (finished_calls script steps)
answered script steps sound few calls =
    let known = finished-recorded script steps sound in
    replies_are script.limits script.width [] (zeros script.width) (finished_calls script steps) sound.range
    sound.width well_formed_none (zeros_held script.width)
    (λ k d lt. record { numbers = calls.ended k d lt; suits = (known.suit k d lt).call })
    (always-kept script steps sound few).legal

opening_fits : (script : Scripted) → AreCallsU64 (execution_of script [])
unfolding execution_of
opening_fits script =
    record { ended = All-nil EntryCalls; begun = λ t. rw (slot_none (length script.threads) t) tt }

-- after these steps, and then those
calls_fit : (script : Scripted) (made left : List ℕ) → IsSound script → ThreadsAreU64 script.threads →
    length (made ++ left) ≤ 1000000 → AreCallsU64 (execution_of script made) →
    AreCallsU64 (execution_of script (made ++ left))
calls_fit script made [] sound threads few calls =
    subst (λ (steps : List ℕ). AreCallsU64 (execution_of script steps)) (sym (append-nil made)) calls
calls_fit script made (t ∷ left) sound threads few calls =
    let all : (made ++ t ∷ []) ++ left ≡ made ++ t ∷ left = append_assoc made (t ∷ []) left in
    let here : length made ≤ 1000000 = omega (arith, length-append made (t ∷ left), few) in
    let next = step_fits script (execution_of script made) t threads calls (answered script made sound here calls) in
    subst (λ (steps : List ℕ). AreCallsU64 (execution_of script steps)) all
    (calls_fit script (made ++ t ∷ []) left sound threads
    (subst (λ (steps : List ℕ). length steps ≤ 1000000) (sym all) few)
    (subst AreCallsU64 (sym (execution_of-more script made t)) next))

pub record IsProgramRun (script : Scripted) : Type 0 where
  pub calls : All EntryCalls (finished_calls script script.steps)
  pub replies : All EntryReplies (finished_calls script script.steps)

pub program_run : (script : Scripted) → IsSound script → ThreadsAreU64 script.threads →
    length script.steps ≤ 1000000 → IsProgramRun script
program_run script sound threads few =
    let calls = calls_fit script [] script.steps sound threads few (opening_fits script) in
    record { calls = calls.ended; replies = answered script script.steps sound few calls }
