-- A schedule: one after another, each of these threads makes one access of its current call on the
-- common words.
use Rattle.std.specs.Prelude.{ℕ, ◌+◌, ◌==◌, Bool, List, [], ◌∷◌, ◌++◌, length, map, filter}
use Rattle.std.specs.Prelude.{replicate, Option, Some, None, slice_get, slice_index}
use Rattle.std.specs.Prelude.{slice_index_or, slice_set, fold}
use Rattle.stamp_core.specs.LockEvent.{counts}
use Rattle.stamp_core.specs.Limits.{Bounds, units}
use Rattle.stamp_core.specs.Word.{word_number}
use Rattle.stamp_core.specs.declared.call.Call.{Call}
use Rattle.stamp_core.specs.declared.call.Call.TheVariants as call
use Rattle.stamp_core.specs.declared.reply.Reply.{Reply}
use Rattle.stamp_machines.specs.declared.script.Arg.{Arg}
use Rattle.stamp_machines.specs.declared.script.Arg.TheVariants.{Number, Of}
use Rattle.stamp_machines.specs.declared.script.ScriptCall.{ScriptCall}
use Rattle.stamp_machines.specs.declared.script.ScriptCall.TheVariants.{TryWrite, TryRead}
use Rattle.stamp_machines.specs.declared.script.ScriptCall.TheVariants.{WriteLock, ReadLock}
use Rattle.stamp_machines.specs.declared.script.ScriptCall.TheVariants.{Optimistic, Validate}
use Rattle.stamp_machines.specs.declared.script.ScriptCall.TheVariants.{UnlockWrite, UnlockRead}
use Rattle.stamp_machines.specs.declared.script.ScriptCall.TheVariants.{Unlock, ToWrite, ToRead}
use Rattle.stamp_machines.specs.declared.script.ScriptCall.TheVariants.{ToOptimistic}
use Rattle.stamp_machines.specs.declared.script.ScriptCall.TheVariants.{TryUnlockWrite}
use Rattle.stamp_machines.specs.declared.script.ScriptCall.TheVariants.{TryUnlockRead}
use Rattle.stamp_machines.specs.declared.script.ScriptCall.TheVariants.{IsWriteLocked, IsReadLocked}
use Rattle.stamp_machines.specs.declared.script.ScriptCall.TheVariants.{ReadCount, Get, Put, PutIf}
use Rattle.stamp_core.specs.declared.entry.Entry.{Entry}
use Rattle.stamp_machines.specs.Access.{words_after, found_by}
use Rattle.stamp_core.specs.Decision.{stamp_in}
use Rattle.stamp_machines.specs.declared.state.Begun.{Begun}
use Rattle.stamp_machines.specs.declared.machine.Turn.{Turn}
use Rattle.stamp_machines.specs.declared.machine.Turn.TheVariants as turned
use Rattle.stamp_machines.specs.declared.shape.Shape.{Shape}
use Rattle.stamp_machines.specs.MachineState.{start}
use Rattle.stamp_machines.specs.Machine.{plan_of, after_access}
use Rattle.stamp_machines.specs.Script.{Scripted, calls_of}

-- the common words, each thread's call under way, the finished calls, and the
-- steps made
pub record World : Type 0 where
  pub words : List ℕ
  pub begun : List (Option Begun)
  pub entries : List Entry
  pub position : ℕ

-- the word of a lock that nothing has happened to
abbrev pub opening_word : Bounds → ℕ
opening_word limits = word_number (units limits) (counts [])

-- word 0 is the lock, word 1 the record's own lock, and the record's words come after them
abbrev pub opening_of : Bounds → ℕ → ℕ → World
opening_of limits width threads =
    record {
      words = opening_word limits ∷ opening_word limits ∷ replicate width 0;
      begun = replicate threads None;
      entries = [];
      position = 0;
    }

abbrev pub opening : Scripted → World
opening script = opening_of script.limits script.width (length script.threads)

abbrev pub is_of : ℕ → Entry → Bool
is_of thread e = thread == e.thread

-- the stamps that a thread's finished calls answered, zero for a call that answered none
abbrev pub stamps_of : ℕ → List Entry → List ℕ
stamps_of thread entries = map (λ (e : Entry). stamp_in e.reply) (filter (is_of thread) entries)

-- an argument's number: zero where it is of a call that has not finished or does not exist
abbrev pub number_of : (ℕ → List ℕ) → Arg → ℕ
number_of stamps (Number n) = n
number_of stamps (Of thread index) = slice_index (stamps thread) index

-- a script's call, with its argument's number
abbrev pub resolved : (ℕ → List ℕ) → ScriptCall → Call
resolved stamps TryWrite = call.TryWrite
resolved stamps TryRead = call.TryRead
resolved stamps WriteLock = call.WriteLock
resolved stamps ReadLock = call.ReadLock
resolved stamps Optimistic = call.Optimistic
resolved stamps (Validate a) = call.Validate (number_of stamps a)
resolved stamps (UnlockWrite a) = call.UnlockWrite (number_of stamps a)
resolved stamps (UnlockRead a) = call.UnlockRead (number_of stamps a)
resolved stamps (Unlock a) = call.Unlock (number_of stamps a)
resolved stamps (ToWrite a) = call.ToWrite (number_of stamps a)
resolved stamps (ToRead a) = call.ToRead (number_of stamps a)
resolved stamps (ToOptimistic a) = call.ToOptimistic (number_of stamps a)
resolved stamps TryUnlockWrite = call.TryUnlockWrite
resolved stamps TryUnlockRead = call.TryUnlockRead
resolved stamps IsWriteLocked = call.IsWriteLocked
resolved stamps IsReadLocked = call.IsReadLocked
resolved stamps ReadCount = call.ReadCount
resolved stamps Get = call.Get
resolved stamps (Put a) = call.Put a
resolved stamps (PutIf a b) = call.PutIf a b

abbrev pub begun_call : Shape → (ℕ → List ℕ) → ℕ → Option ScriptCall → Option Begun
begun_call shape stamps position None = None
begun_call shape stamps position (Some c) =
    Some (record { machine = start shape (resolved stamps c); first = position })

abbrev pub shape_of : Scripted → Shape
shape_of script = record { limits = script.limits; width = script.width }

-- the call after a thread's finished calls, which begins at this position
abbrev pub next_call : Scripted → (ℕ → List ℕ) → ℕ → ℕ → Option Begun
next_call script stamps position thread =
    begun_call (shape_of script) stamps position
    (slice_get (calls_of script thread) (length (stamps thread)))

abbrev pub current_of : Scripted → (ℕ → List ℕ) → ℕ → ℕ → Option Begun → Option Begun
current_of script stamps position thread (Some b) = Some b
current_of script stamps position thread None = next_call script stamps position thread

-- a thread's current call: its call under way, or else its next one
abbrev pub current : Scripted → World → ℕ → Option Begun
current script world thread =
    current_of script (λ t. stamps_of t world.entries) world.position thread
    (slice_index_or world.begun thread None)

abbrev pub entry_of : World → ℕ → Begun → Reply → Entry
entry_of world thread b reply =
    record {
      thread = thread;
      call = b.machine.call;
      reply = reply;
      first = b.first;
      point = world.position;
      last = world.position;
    }

-- the world after an access of the thread's call, which has left these words and led to this turn
abbrev pub world_after : World → ℕ → Begun → List ℕ → Turn → World
world_after world thread b words (turned.Going machine) =
    record {
      words = words;
      begun = slice_set world.begun thread (Some (record { machine = machine; first = b.first }));
      entries = world.entries;
      position = world.position + 1;
    }
world_after world thread b words (turned.Done reply) =
    record {
      words = words;
      begun = slice_set world.begun thread None;
      entries = world.entries ++ entry_of world thread b reply ∷ [];
      position = world.position + 1;
    }

abbrev pub world_stepped : World → ℕ → Option Begun → World
world_stepped world thread None = record world { position = world.position + 1 }
world_stepped world thread (Some b) =
    world_after world thread b (words_after (plan_of b.machine) world.words)
    (after_access b.machine (found_by (plan_of b.machine) world.words))

abbrev pub step : Scripted → World → ℕ → World
step script world thread = world_stepped world thread (current script world thread)

-- what a schedule of these steps does
unfoldable pub execution_of : Scripted → List ℕ → World
execution_of script steps = fold (step script) (opening script) steps

-- one entry for each call that they finish, by rising last step
abbrev pub finished_calls : Scripted → List ℕ → List Entry
finished_calls script steps = (execution_of script steps).entries
