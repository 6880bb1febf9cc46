-- What a call of the lock of a guarded value finds and leaves of the value.
use Rattle.std.specs.Prelude.{◌≡◌, List, [], ◌∷◌, ◌++◌, Option, Some, None}
use mathlib.Core.List.{IsPrefix}
use Rattle.lent_table.specs.Table.{Me, Hold, none, reads, writes}
use Rattle.stamp_core.specs.Limits.{Bounds}
use Rattle.stamp_core.specs.LockEvent.{LockEvent}
use Rattle.stamp_core.specs.LockEvent.LockEvent.{WriteAcquired, WriteReleased, ReadAcquired, ReadReleased}
use Rattle.stamp_core.specs.Transition.{Transition}
use Rattle.stamp_core.specs.declared.call.Call.{Call}
use Rattle.stamp_core.specs.declared.reply.Reply.{Reply}
use Rattle.stamp_core.specs.declared.reply.Reply.TheVariants.{Stamp}
use Rattle.stamp_threads.specs.LockLog.{events_after, transition_after}
use Rattle.stamp_threads.specs.Made.{Made}
use Rattle.stamped_value.specs.declared.view.ValueView.{ValueView}
use Rattle.stamped_value.specs.declared.view.Held.{Held}
use Rattle.stamped_value.specs.declared.view.Held.TheVariants.{Free, Reading, Writing}
use Rattle.stamped_value.specs.Values.{HasValues, IsLastOf}
use Rattle.stamped_value.specs.Held.{Matches}

-- what a seat knows, and what it has of the value
abbrev pub Seen : Type 0 → Type 0
Seen T = Me T (ValueView T)

module _ {T : Type 0} where
  -- the seat then holds this mode, has this of the value, and knows these values
  abbrev pub Becomes : Held → Hold T → List T → Seen T → Type 0
  Becomes held hold values w = (w.0.held ≡ held) × (w.1 ≡ hold) × (w.0.values ≡ values)

  -- What the events of a call do to a seat, of which v was before and w is after. The call found these values. Who
  -- acquires a mode has the last of them; a writer leaves what it has written as one more; and a reader that becomes
  -- the writer has the value that it read
  abbrev pub Does : List LockEvent → Reply → Seen T → List T → Seen T → Type 0
  Does [] reply v values w = Becomes v.0.held v.1 values w
  Does (WriteAcquired ∷ []) (Stamp s) v values w = (x : T) × IsLastOf values x × Becomes (Writing s) (writes x) values w
  Does (ReadAcquired ∷ []) (Stamp s) v values w = (x : T) × IsLastOf values x × Becomes (Reading s) (reads x) values w
  Does (ReadReleased ∷ []) reply v values w = Becomes Free none values w
  Does (WriteReleased ∷ []) reply v values w = (y : T) × (v.1 ≡ writes y) × Becomes Free none (values ++ y ∷ []) w
  Does (ReadReleased ∷ WriteAcquired ∷ []) (Stamp s) v values w =
      (x : T) × IsLastOf values x × (v.1 ≡ reads x) × Becomes (Writing s) (writes x) values w
  Does (WriteReleased ∷ ReadAcquired ∷ []) (Stamp s) v values w =
      (y : T) × (v.1 ≡ writes y) × Becomes (Reading s) (reads y) (values ++ y ∷ []) w
  Does _ reply v values w = ⊥

  abbrev pub DoesBy : Option Transition → Seen T → List T → Seen T → Type 0
  DoesBy None v values w = Becomes v.0.held v.1 values w
  DoesBy (Some t) v values w = Does t.appended t.reply v values w

  -- The call was made on the lock, where the stamp that the seat held matched, and did this to the seat. It found
  -- values that go on from those that the seat knew
  pub record ValueMade (limits : Bounds) (call : Call) (reply : Reply) (v w : Seen T) : Type 0 where
    pub made : Made limits call reply v.0.pass w.0.pass
    pub matches : Matches limits (events_after limits made.log) v.0.held
    pub values : List T
    pub begins : IsPrefix v.0.values values
    pub are : HasValues limits made.log values
    pub does : DoesBy (transition_after limits made.log call) v values w
