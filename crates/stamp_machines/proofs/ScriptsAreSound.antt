-- What a script keeps to, of its threads as lists of calls.
use Rattle.std.proofs.Common.{ℕ, List, [], ◌∷◌, length, ◌≤◌}
use Rattle.std.specs.Prelude.{All, Vec, map}
use Rattle.std.specs.Global.{Global}
use Rattle.std.proofs.lemmas.List.{length-map}
use Rattle.std.proofs.lemmas.List.Elements.{All-nil, All-cons, All-head, All-tail}
use Rattle.stamp_machines.specs.declared.script.ScriptCall.{ScriptCall}
use Rattle.stamp_machines.specs.Script.{Suits, IsSound}
use Rattle.stamp_machines.specs.ScriptFields.{scripted_of, HasGoodFields}
use Rattle.stamp_machines.specs.declared.script.Script.TheInside.{Inside}
use Rattle.stamp_core.specs.Limits.{AreInRange}
use Rattle.stamp_machines.specs.ScriptFault.{thread_calls, AreOfWidth, AreShort}

pub suited-calls : (width : ℕ) (threads : List (Vec ScriptCall Global)) → AreOfWidth width threads →
    All (λ (calls : List ScriptCall). All (Suits width) calls) (map thread_calls threads)
suited-calls width [] h = All-nil (λ (calls : List ScriptCall). All (Suits width) calls)
suited-calls width (v ∷ threads) h =
    All-cons (λ (calls : List ScriptCall). All (Suits width) calls) (thread_calls v)
    (map thread_calls threads)
    (All-head (λ (calls : Vec ScriptCall Global). All (Suits width) calls.items) v threads h)
    (suited-calls width threads
    (All-tail (λ (calls : Vec ScriptCall Global). All (Suits width) calls.items) v threads h))

pub short-calls : (threads : List (Vec ScriptCall Global)) → AreShort threads →
    All (λ (calls : List ScriptCall). length calls ≤ 10000) (map thread_calls threads)
short-calls [] h = All-nil (λ (calls : List ScriptCall). length calls ≤ 10000)
short-calls (v ∷ threads) h =
    All-cons (λ (calls : List ScriptCall). length calls ≤ 10000) (thread_calls v) (map thread_calls threads)
    (All-head (λ (calls : Vec ScriptCall Global). length calls.items ≤ 10000) v threads h)
    (short-calls threads
    (All-tail (λ (calls : Vec ScriptCall Global). length calls.items ≤ 10000) v threads h))

pub sound : (s : Inside) → AreInRange s.limits → HasGoodFields s → IsSound (scripted_of s)
sound s range within = record {
  range = range;
  width = within.4;
  threads = rw (length-map s.threads.items thread_calls) within.0;
  short = short-calls s.threads.items within.1;
  suited = suited-calls s.width s.threads.items within.5;
}
