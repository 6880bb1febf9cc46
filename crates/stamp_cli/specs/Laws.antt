-- Laws of the program's answers.
use Rattle.std.specs.Prelude.{◌≡◌, ◌⊎◌, ◌↔◌, ◌≤◌, ℕ, List, length, Result, Ok}
use Rattle.stamp_core.specs.Linearized.{IsLinearized}
use Rattle.stamp_core.specs.Record.{Recorded}
use Rattle.stamp_machines.specs.Script.{Scripted}
use Rattle.stamp_machines.specs.World.{finished_calls}
use Rattle.stamp_check.specs.Migration.{migrated}
use Rattle.stamp_history.specs.History.{recorded_of}
use Rattle.stamp_history.specs.HistoryText.{history_text}
use Rattle.stamp_history.specs.ScriptReading.{script_of}
use Rattle.stamp_cli.specs.declared.faults.ServeFault.{ServeFault}
use Rattle.stamp_cli.specs.declared.line.Verdict.TheVariants.{Accepted}
use Rattle.stamp_cli.specs.declared.orders.Order.{Order}
use Rattle.stamp_cli.specs.declared.orders.Order.TheVariants as order
use Rattle.stamp_cli.specs.Answer.{LineView, IsOrderAnswer, with_line_feed}
use Rattle.stamp_cli.specs.CheckText.{ok_text}
use Rattle.stamp_cli.specs.Source.{most_bytes}

-- a command and an input have one answer: one line, or one refusal
abbrev pub OneAnswer : Type 0
OneAnswer = (order : Order) (input : List ℕ) (a b : Result LineView ServeFault) → IsOrderAnswer order input a →
    IsOrderAnswer order input b → a ≡ b

-- this is an answer to the command and the input, and the only one
abbrev pub AnswersAlone : Order → List ℕ → Result LineView ServeFault → Type 0
AnswersAlone order input answer = (a : Result LineView ServeFault) → IsOrderAnswer order input a ↔ (a ≡ answer)

-- the line by which a history of n entries is accepted
abbrev pub ok_line : ℕ → LineView
ok_line n = record { text = ok_text n; verdict = Accepted }

-- the input is a script, and `check` accepts the line, with as many entries as calls that the script finishes
pub record IsAcceptedRun (input : List ℕ) (line : LineView) : Type 0 where
  pub script : Scripted
  pub read : script_of input ≡ Ok script
  pub checked : AnswersAlone order.Check (with_line_feed line)
      (Ok (ok_line (length (finished_calls script script.steps))))

-- so it is with each line of `run`, without a report or with one, that is no longer than an input may be
abbrev pub RunLinesAreAccepted : Type 0
RunLinesAreAccepted = (input : List ℕ) (line : LineView) →
    IsOrderAnswer order.Run input (Ok line) ⊎ IsOrderAnswer order.RunReported input (Ok line) →
    length (with_line_feed line) ≤ most_bytes → IsAcceptedRun input line

-- the line by which a history is migrated: its text in layout 2
abbrev pub migrated_line : Recorded → LineView
migrated_line history = record { text = history_text (migrated history); verdict = Accepted }

-- the input is a linearized history, and `migrate` answers the line by which that is migrated
pub record IsMigrated (input : List ℕ) : Type 0 where
  pub history : Recorded
  pub read : recorded_of input ≡ Ok history
  pub linearized : IsLinearized history
  pub answered : AnswersAlone order.Migrate input (Ok (migrated_line history))

-- so it is with each input that `check` accepts
abbrev pub AcceptedMigrates : Type 0
AcceptedMigrates = (input : List ℕ) (line : LineView) → IsOrderAnswer order.Check input (Ok line) →
    line.verdict ≡ Accepted → IsMigrated input

-- a check answers the line of a migration as it answers the input, where that line is short enough to be one
abbrev pub MigrationKeepsLines : Type 0
MigrationKeepsLines = (input : List ℕ) (line written : LineView) → IsOrderAnswer order.Check input (Ok line) →
    IsOrderAnswer order.Migrate input (Ok written) → length (with_line_feed written) ≤ most_bytes →
    AnswersAlone order.Check (with_line_feed written) (Ok line)
