-- Recorded histories, and which may be.
use Rattle.std.specs.Prelude.{ℕ, ◌≡◌, ◌≤◌, ◌<◌, ◌⊎◌, List, length, IsTrue}
use Rattle.std.specs.List.{All}
use Rattle.stamp_core.specs.Limits.{Bounds}
use Rattle.stamp_core.specs.declared.entry.Entry.{Entry}
use Rattle.stamp_core.specs.Call.{call_suits}
use Rattle.stamp_core.specs.declared.reply.Reply.{Reply}
use Rattle.stamp_core.specs.declared.reply.Reply.TheVariants.{Content}

-- the limits, the width of the guarded record (0 for none), the entries, and a report or none
pub record Recorded : Type 0 where
  pub limits : Bounds
  pub width : ℕ
  pub entries : List Entry
  pub report : List (ℕ × ℕ)

abbrev pub recorded : Bounds → ℕ → List Entry → List (ℕ × ℕ) → Recorded
recorded limits width entries report = record { limits = limits; width = width; entries = entries; report = report }

-- the thread is one of 64, and the call suits the width
pub record EntrySuits (width : ℕ) (entry : Entry) : Type 0 where
  pub thread : entry.thread < 64
  pub call : IsTrue (call_suits width entry.call)

-- at most 640,000 entries that suit a width of at most 16, and a report that is empty or has a pair for each
pub record IsRecorded (r : Recorded) : Type 0 where
  pub width : r.width ≤ 16
  pub entries : length r.entries ≤ 640000
  pub report : (length r.report ≡ 0) ⊎ (length r.report ≡ length r.entries)
  pub suit : All (EntrySuits r.width) r.entries

-- words are 1 to 16, as those of each program value are
abbrev pub HasFewWords : Reply → Type 0
HasFewWords (Content words) = (1 ≤ length words) × (length words ≤ 16)
HasFewWords _ = Unit {0}

abbrev pub RepliesFit : List Entry → Type 0
RepliesFit entries = All (λ (e : Entry). HasFewWords e.reply) entries
