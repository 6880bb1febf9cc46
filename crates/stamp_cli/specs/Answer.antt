-- The line that answers a command, or why there is none.
use Rattle.std.specs.Prelude.{◌≡◌, ℕ, ◌<◌, ◌≤◌, ◌++◌, ◌∷◌, [], List, length, Option, Result, Ok, Err}
use Rattle.std.specs.Prelude.{Bool, true, false, if◌then◌else◌}
use Rattle.stamp_core.specs.Record.{Recorded}
use Rattle.stamp_core.specs.Replayed.{WaitsAt}
use Rattle.stamp_core.specs.declared.layout.Layout.{Layout}
use Rattle.stamp_core.specs.declared.layout.Layout.TheVariants.{One}
use Rattle.stamp_machines.specs.Script.{Scripted}
use Rattle.stamp_machines.specs.RecordedRun.{recorded_run, reported_run}
use Rattle.stamp_check.specs.Judgement.{IsJudgement}
use Rattle.stamp_check.specs.Migration.{CanMigrate, IsBadReply, migrated}
use Rattle.stamp_check.specs.declared.checking.Bad.{Bad}
use Rattle.stamp_history.specs.History.{recorded_of}
use Rattle.stamp_history.specs.HistoryText.{history_text}
use Rattle.stamp_history.specs.Replay.{Replay, replay_of}
use Rattle.stamp_history.specs.ReplayAnswer.{IsReplayedText}
use Rattle.stamp_history.specs.ScriptReading.{script_of}
use Rattle.stamp_history.specs.declared.read_error.ReadError.{ReadError}
use Rattle.stamp_cli.specs.declared.faults.ServeFault.{ServeFault}
use Rattle.stamp_cli.specs.declared.faults.ServeFault.TheVariants.{TooLong, Waits, BadReply}
use Rattle.stamp_cli.specs.declared.orders.Order.{Order}
use Rattle.stamp_cli.specs.declared.orders.Order.TheVariants as order
use Rattle.stamp_cli.specs.declared.line.Line as made
use Rattle.stamp_cli.specs.declared.line.Verdict.{Verdict}
use Rattle.stamp_cli.specs.declared.line.Verdict.TheVariants.{Accepted}
use Rattle.stamp_cli.specs.CheckText.{judgement_text, verdict_of}
use Rattle.stamp_cli.specs.Refusal.{refusal}
use Rattle.stamp_cli.specs.Source.{most_bytes, most_reads, most_taken, Reads, ReadsNone}
use Rattle.stamp_cli.specs.StampText.{IsStampText}

-- a line as contracts see it: its text, without the line feed, and what it says
pub record LineView : Type 0 where
  pub text : List ℕ
  pub verdict : Verdict

abbrev pub line_in : made.Line → LineView
line_in line = record { text = line.text.items; verdict = line.verdict }

-- a line as it is written
abbrev pub with_line_feed : LineView → List ℕ
with_line_feed line = line.text ++ 10 ∷ []

abbrev pub IsVerdictOf : LineView → Verdict → Type 0
IsVerdictOf line verdict = verdict ≡ line.verdict

-- a call waits, and the fault names it
pub record IsWaitFault (replay : Replay) (fault : ServeFault) : Type 0 where
  pub call : ℕ
  pub waits : WaitsAt replay.limits replay.calls call
  pub named : fault ≡ Waits call

-- the answer to what an input reads as, if that is a replay
abbrev pub IsReplayAnswer : Result Replay ReadError → Result (List ℕ) ServeFault → Type 0
IsReplayAnswer (Ok replay) (Ok line) = IsReplayedText replay line
IsReplayAnswer (Ok replay) (Err fault) = IsWaitFault replay fault
IsReplayAnswer (Err e) answer = answer ≡ Err (refusal e)

-- and if that is a script: the text of the recorded history that it is run to
abbrev pub script_answer : (Scripted → Recorded) → Result Scripted ReadError → Result (List ℕ) ServeFault
script_answer record_of (Ok script) = Ok (history_text (record_of script))
script_answer record_of (Err e) = Err (refusal e)

-- a history has this judgement, which the line says
pub record SaysJudgement (history : Recorded) (line : LineView) : Type 0 where
  pub found : Result ℕ Bad
  pub is : IsJudgement history found
  pub says : line.text ≡ judgement_text found
  pub verdict : line.verdict ≡ verdict_of found

-- and if that is a history: its judgement
abbrev pub IsCheckAnswer : Result Recorded ReadError → Result LineView ServeFault → Type 0
IsCheckAnswer (Ok history) (Ok line) = SaysJudgement history line
IsCheckAnswer (Ok history) (Err fault) = ⊥
IsCheckAnswer (Err e) answer = answer ≡ Err (refusal e)

-- layout 2 can't spell an entry's stamp, and the fault names the first such
pub record IsBadReplyFault (history : Recorded) (fault : ServeFault) : Type 0 where
  pub entry : ℕ
  pub foreign : IsBadReply history entry
  pub named : fault ≡ BadReply entry

-- or its text in layout 2
abbrev pub IsMigrateAnswer : Result Recorded ReadError → Result (List ℕ) ServeFault → Type 0
IsMigrateAnswer (Ok history) (Ok text) = CanMigrate history × (text ≡ history_text (migrated history))
IsMigrateAnswer (Ok history) (Err fault) = IsBadReplyFault history fault
IsMigrateAnswer (Err e) answer = answer ≡ Err (refusal e)

-- the answer to an input: it is too long, or it is answered so
pub record IsInputAnswer {A : Type 0} (IsSo : List ℕ → Result A ServeFault → Type 0) (input : List ℕ)
    (answer : Result A ServeFault) : Type 0 where
  pub too_long : most_bytes < length input → answer ≡ Err TooLong
  pub read : length input ≤ most_bytes → IsSo input answer

-- the answers to the bytes of a replay, of a script that is run, without a report and with one, and of a history
abbrev pub AnswersReplay : List ℕ → Result (List ℕ) ServeFault → Type 0
AnswersReplay input answer = IsReplayAnswer (replay_of input) answer

abbrev pub AnswersRun : List ℕ → Result (List ℕ) ServeFault → Type 0
AnswersRun input answer = answer ≡ script_answer recorded_run (script_of input)

abbrev pub AnswersReportedRun : List ℕ → Result (List ℕ) ServeFault → Type 0
AnswersReportedRun input answer = answer ≡ script_answer reported_run (script_of input)

abbrev pub AnswersCheck : List ℕ → Result LineView ServeFault → Type 0
AnswersCheck input answer = IsCheckAnswer (recorded_of input) answer

abbrev pub AnswersMigrate : List ℕ → Result (List ℕ) ServeFault → Type 0
AnswersMigrate input answer = IsMigrateAnswer (recorded_of input) answer

-- the answer to a number
pub record IsStampAnswer (layout : Layout) (n : ℕ) (answer : Result (List ℕ) ServeFault) : Type 0 where
  pub line : List ℕ
  pub text : IsStampText layout n line
  pub is : answer ≡ Ok line

-- a text that is accepted, or a refusal
abbrev pub IsAccepted : (Result (List ℕ) ServeFault → Type 0) → Result LineView ServeFault → Type 0
IsAccepted IsSo (Ok line) = IsSo (Ok line.text) × (line.verdict ≡ Accepted)
IsAccepted IsSo (Err fault) = IsSo (Err fault)

-- the answer to a command by an input that is not too long, without the line feed
abbrev pub AnswersOrder : Order → List ℕ → Result LineView ServeFault → Type 0
AnswersOrder order.Replay input answer = IsAccepted (AnswersReplay input) answer
AnswersOrder order.Run input answer = IsAccepted (AnswersRun input) answer
AnswersOrder order.RunReported input answer = IsAccepted (AnswersReportedRun input) answer
AnswersOrder order.Check input answer = AnswersCheck input answer
AnswersOrder order.Migrate input answer = IsAccepted (AnswersMigrate input) answer
AnswersOrder (order.Stamp n) input answer = IsAccepted (IsStampAnswer One n) answer
AnswersOrder (order.StampIn layout n) input answer = IsAccepted (IsStampAnswer layout n) answer

-- the answer to a command by any input; that of a stamp is empty, and so never too long
abbrev pub IsOrderAnswer : Order → List ℕ → Result LineView ServeFault → Type 0
IsOrderAnswer order input answer = IsInputAnswer (AnswersOrder order) input answer

-- a stamp has its input in the command; the others read theirs
abbrev pub reads_input : Order → Bool
reads_input (order.Stamp n) = false
reads_input (order.StampIn layout n) = false
reads_input _ = true

-- input is what a command reads of a source, or is empty where it reads none
abbrev pub ReadsIf : Bool → Option (List ℕ) → Option (List ℕ) → List ℕ → Type 0
ReadsIf true old new input = Reads old new input
ReadsIf false old new input = ReadsNone old new input

abbrev pub OrderReads : Order → Option (List ℕ) → Option (List ℕ) → List ℕ → Type 0
OrderReads order old new input = ReadsIf (reads_input order) old new input

-- it makes no read then
abbrev pub most_reads_of : Order → ℕ
most_reads_of order = if reads_input order then most_reads else 0

-- and takes nothing
abbrev pub most_taken_of : Order → ℕ
most_taken_of order = if reads_input order then most_taken else 0

-- input was read so, by reads that took this many bytes, and all of them are answered so
pub record AnswersRead {A : Type 0} (WasRead : List ℕ → Type 0) (IsAnswer : List ℕ → A → Type 0) (taken : ℕ)
    (answer : A) : Type 0 where
  pub input : List ℕ
  pub reads : WasRead input
  pub whole : length input ≡ taken
  pub is : IsAnswer input answer

-- a source was read as far as the command asks, and this is the answer
abbrev pub AnswersSource : Order → Option (List ℕ) → Option (List ℕ) → ℕ → Result LineView ServeFault → Type 0
AnswersSource order old new taken answer = AnswersRead (OrderReads order old new) (IsOrderAnswer order) taken answer
