-- The note of what is found of an observed history.
use Rattle.std.specs.Prelude.{ℕ, ◌≡◌, ◌++◌, List, [], ◌∷◌, Option, Some, None, Result, Ok, Err, String}
use Rattle.std.specs.Prelude.{codes, decimal, string_bytes}
use Rattle.std.specs.List.{flat_map}
use Rattle.std.specs.declared.alloc.AllocError.{AllocError}
use Rattle.std.specs.declared.alloc.Global.{Global}
use Rattle.stamp_core.specs.declared.call.Call.{Call}
use Rattle.stamp_core.specs.declared.reply.Reply.{Reply}
use Rattle.stamp_core.specs.Record.{Recorded}
use Rattle.stamp_core.specs.Texts.{call_text, reply_text}
use Rattle.stamp_explain.specs.declared.observed.Observation.{Observation}
use Rattle.stamp_explain.specs.Observed.{ObservedHistory, IsReturnAt}
use Rattle.stamp_observed.specs.Small.{ArePossibleAt}
use Rattle.stamped_explain.specs.declared.finding.Finding.{Finding}
use Rattle.stamped_explain.specs.declared.finding.Finding.TheVariants.{Explained, Stuck, StuckWithin}
use Rattle.stamped_explain.specs.declared.orders.Explaining.{Explaining}
use Rattle.stamped_explain.specs.declared.orders.Told as orders
use Rattle.stamped_explain.specs.declared.orders.Told.TheVariants.{Nothing, Trials}
use Rattle.stamped_explain.specs.Trials.{trials_text}

abbrev pub others_text : List Reply → List ℕ
others_text replies = flat_map (λ (r : Reply). codes ", " ++ reply_text r) replies

abbrev pub replies_text : List Reply → List ℕ
replies_text [] = codes "; no reply was possible, it would have waited"
replies_text (r ∷ replies) = codes "; possible: " ++ reply_text r ++ others_text replies

abbrev pub possible_text : Option (List Reply) → List ℕ
possible_text None = codes "; what was possible is undecided"
possible_text (Some replies) = replies_text replies

abbrev pub entry_text : ℕ → ℕ → List ℕ
entry_text i thread = codes "stamped_explain: entry " ++ (decimal i ++ (codes " of thread " ++ decimal thread))

abbrev pub answer_text : Call → Reply → List ℕ
answer_text call reply = codes ": " ++ (call_text call ++ (codes " answered " ++ reply_text reply))

-- what the call answered, and what was possible
abbrev pub stuck_text : ℕ → Observation → Reply → Option (List Reply) → List ℕ
stuck_text i e reply replies = entry_text i e.thread ++ answer_text e.call reply ++ possible_text replies

pub record IsStuckNote (h : ObservedHistory) (most i : ℕ) (text : List ℕ) : Type 0 where
  pub at : IsReturnAt h.entries i
  pub replies : Option (List Reply)
  pub possible : ArePossibleAt h most i replies
  pub says : text ≡ stuck_text i at.entry at.return.reply replies

-- the note where it is undecided from which return on
abbrev pub unexplained_text : List ℕ
unexplained_text = codes "stamped_explain: no order explains the history; from which return on is undecided"

-- the note of a recorded history that was found: what its calls tried, if that is to be told. In its place: memory was
-- refused
abbrev pub IsToldNote : orders.Told → Recorded → Result (Option (String Global)) AllocError → Type 0
IsToldNote Nothing made note = note ≡ Ok None
IsToldNote Trials made (Ok (Some text)) = string_bytes text ≡ trials_text made.entries
IsToldNote Trials made (Ok None) = ⊥
IsToldNote Trials made (Err e) = Unit {0}

-- the note of what was found: of a history that no order explains why, of one that is explained what is to be told. In
-- place of such a note: memory was refused. Of another there is none
abbrev pub IsNote : ObservedHistory → Explaining → Finding → Result (Option (String Global)) AllocError → Type 0
IsNote h asked (Explained made) note = IsToldNote asked.told made note
IsNote h asked (Stuck i) (Ok (Some text)) = IsStuckNote h asked.most i (string_bytes text)
IsNote h asked (Stuck i) (Ok None) = ⊥
IsNote h asked (Stuck i) (Err e) = Unit {0}
IsNote h asked (StuckWithin i j) (Ok (Some text)) = string_bytes text ≡ unexplained_text
IsNote h asked (StuckWithin i j) (Ok None) = ⊥
IsNote h asked (StuckWithin i j) (Err e) = Unit {0}
IsNote h asked found note = note ≡ Ok None
