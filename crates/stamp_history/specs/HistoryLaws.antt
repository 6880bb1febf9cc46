-- What is written of a recorded history reads as that history.
use Rattle.std.specs.Prelude.{ℕ, ◌≡◌, ◌<◌, ◌^◌, List, Ok, ⊤}
use Rattle.std.specs.List.{All}
use Rattle.stamp_core.specs.Limits.{AreInRange}
use Rattle.stamp_core.specs.Record.{Recorded, IsRecorded, RepliesFit}
use Rattle.stamp_core.specs.declared.call.Call.{Call}
use Rattle.stamp_core.specs.declared.call.Call.TheVariants.{Validate, UnlockWrite, UnlockRead}
use Rattle.stamp_core.specs.declared.call.Call.TheVariants.{Unlock, ToWrite, ToRead, ToOptimistic}
use Rattle.stamp_core.specs.declared.call.Call.TheVariants.{Put, PutIf}
use Rattle.stamp_core.specs.declared.entry.Entry.{Entry}
use Rattle.stamp_core.specs.declared.reply.Reply.{Reply}
use Rattle.stamp_core.specs.declared.reply.Reply.TheVariants.{Stamp, Count, Content}
use Rattle.stamp_machines.specs.RecordedRun.{recorded_run, reported_run}
use Rattle.stamp_machines.specs.Script.{Scripted}
use Rattle.stamp_history.specs.HistoryText.{history_text, history_line}
use Rattle.stamp_history.specs.History.{recorded_of}
use Rattle.stamp_history.specs.ScriptReading.{script_of}

-- a number of 64 bits
abbrev pub IsU64 : ℕ → Type 0
IsU64 n = n < 2 ^ 64

abbrev pub CallIsU64 : Call → Type 0
CallIsU64 (Validate stamp) = IsU64 stamp
CallIsU64 (UnlockWrite stamp) = IsU64 stamp
CallIsU64 (UnlockRead stamp) = IsU64 stamp
CallIsU64 (Unlock stamp) = IsU64 stamp
CallIsU64 (ToWrite stamp) = IsU64 stamp
CallIsU64 (ToRead stamp) = IsU64 stamp
CallIsU64 (ToOptimistic stamp) = IsU64 stamp
CallIsU64 (Put words) = All IsU64 words
CallIsU64 (PutIf expected words) = All IsU64 expected × All IsU64 words
CallIsU64 _ = ⊤

abbrev pub ReplyIsU64 : Reply → Type 0
ReplyIsU64 (Stamp stamp) = IsU64 stamp
ReplyIsU64 (Count count) = IsU64 count
ReplyIsU64 (Content words) = All IsU64 words
ReplyIsU64 _ = ⊤

pub record EntryIsU64 (e : Entry) : Type 0 where
  pub call : CallIsU64 e.call
  pub first : IsU64 e.first
  pub last : IsU64 e.last
  pub point : IsU64 e.point
  pub reply : ReplyIsU64 e.reply

abbrev pub PairIsU64 : ℕ × ℕ → Type 0
PairIsU64 pair = IsU64 pair.0 × IsU64 pair.1

-- the numbers of the entries and of the report have 64 bits, as those of each program value have
pub record AreU64 (r : Recorded) : Type 0 where
  pub entries : All EntryIsU64 r.entries
  pub report : All PairIsU64 r.report

abbrev pub HistoriesReadAgain : Type 0
HistoriesReadAgain = (r : Recorded) → AreInRange r.limits → IsRecorded r → RepliesFit r.entries → AreU64 r →
    recorded_of (history_text r) ≡ Ok r

abbrev pub LinesReadAgain : Type 0
LinesReadAgain = (r : Recorded) → AreInRange r.limits → IsRecorded r → RepliesFit r.entries → AreU64 r →
    recorded_of (history_line r) ≡ Ok r

-- what a script that was read is run to, without a report and with one, reads again from its line
abbrev pub RunsReadAgain : Type 0
RunsReadAgain = (bytes : List ℕ) (script : Scripted) → script_of bytes ≡ Ok script →
    (recorded_of (history_line (recorded_run script)) ≡ Ok (recorded_run script)) ×
    (recorded_of (history_line (reported_run script)) ≡ Ok (reported_run script))
