-- The line of a run is accepted.
use Rattle.std.proofs.Common.{◌≡◌, ◌≤◌, ◌<◌, ◌⊎◌, ◌∙◌, ◌∷◌, ◌++◌, [], ℕ, List, length, refl, sym, ap, subst, inl, inr}
use Rattle.std.proofs.Common.{arith, Result, Ok, Err}
use Rattle.stamp_core.specs.Linearized.{IsLinearized}
use Rattle.stamp_core.specs.Record.{Recorded}
use Rattle.stamp_machines.specs.RecordedRun.{recorded_run, reported_run}
use Rattle.stamp_machines.specs.Script.{Scripted}
use Rattle.stamp_machines.proofs.EntryOrder.{always-in-order}
use Rattle.stamp_history.specs.History.{recorded_of}
use Rattle.stamp_history.specs.HistoryText.{history_text, history_line}
use Rattle.stamp_history.specs.ScriptReading.{script_of}
use Rattle.stamp_history.specs.declared.read_error.ReadError.{ReadError}
use Rattle.stamp_history.proofs.RunsReadAgain.{runs_read_again}
use Rattle.stamp_history.proofs.ScriptNumbers.{program_script}
use Rattle.stamp_cli.specs.declared.faults.ServeFault.{ServeFault}
use Rattle.stamp_cli.specs.declared.orders.Order.TheVariants as order
use Rattle.stamp_cli.specs.Answer.{LineView, IsOrderAnswer, IsInputAnswer, IsAccepted, IsCheckAnswer}
use Rattle.stamp_cli.specs.Answer.{script_answer, with_line_feed}
use Rattle.stamp_cli.specs.Laws.{AnswersAlone, ok_line, RunLinesAreAccepted}
use Rattle.stamp_cli.specs.Source.{most_bytes}
use Rattle.stamp_cli.proofs.OneAnswer.{long_or_not, ok_inj, ok_not_err, alone}

-- what the lines of either command have in common: the script that was read, and its run as this history
record RunAs (record_of : Scripted → Recorded) (input : List ℕ) (line : LineView) : Type 0 where
  script : Scripted
  read : script_of input ≡ Ok script
  text : line.text ≡ history_text (record_of script)

run_as : (record_of : Scripted → Recorded) (input : List ℕ) (line : LineView) →
    IsInputAnswer (λ bytes. IsAccepted (λ a. a ≡ script_answer record_of (script_of bytes))) input (Ok line) →
    RunAs record_of input line
run_as record_of input line answer = by_length (long_or_not most_bytes (length input))
  where
    by_script : (r : Result Scripted ReadError) → script_of input ≡ r → Ok line.text ≡ script_answer record_of r →
        RunAs record_of input line
    by_script (Ok script) read e = record { script = script; read = read; text = ok_inj e }
    by_script (Err fault) read e = absurd (ok_not_err e)

    by_length : (most_bytes < length input) ⊎ (length input ≤ most_bytes) → RunAs record_of input line
    by_length (inl long) = absurd (ok_not_err (answer.too_long long))
    by_length (inr fits) = by_script (script_of input) refl (answer.read fits).0

-- a linearized history that the line reads as
accepted : (line : LineView) (history : Recorded) → recorded_of (with_line_feed line) ≡ Ok history →
    IsLinearized history → length (with_line_feed line) ≤ most_bytes →
    AnswersAlone order.Check (with_line_feed line) (Ok (ok_line (length history.entries)))
accepted line history read linearized fits = alone order.Check (with_line_feed line) answer is
  where
    answer : Result LineView ServeFault
    answer = Ok (ok_line (length history.entries))

    says : IsCheckAnswer (Ok history) answer
    says = record { found = Ok (length history.entries); is = (linearized, refl); says = refl; verdict = refl }

    is : IsOrderAnswer order.Check (with_line_feed line) answer
    is = record {
      too_long = λ long. absurd (omega (arith, long, fits));
      read = λ _. subst (λ (r : Result Recorded ReadError). IsCheckAnswer r answer) (sym read) says;
    }

read_line : (line : LineView) (history : Recorded) → line.text ≡ history_text history →
    recorded_of (history_line history) ≡ Ok history → recorded_of (with_line_feed line) ≡ Ok history
read_line line history is read = ap (λ (text : List ℕ). recorded_of (text ++ 10 ∷ [])) is ∙ read

pub run_lines_are_accepted : RunLinesAreAccepted
run_lines_are_accepted input line (inl answer) fits =
    let run = run_as recorded_run input line answer in
    let is = program_script input run.script run.read in
    record {
      script = run.script;
      read = run.read;
      checked = accepted line (recorded_run run.script)
          (read_line line (recorded_run run.script) run.text (runs_read_again input run.script run.read).0)
          (always-in-order run.script run.script.steps is.sound is.few).linearized fits;
    }
run_lines_are_accepted input line (inr answer) fits =
    let run = run_as reported_run input line answer in
    let is = program_script input run.script run.read in
    record {
      script = run.script;
      read = run.read;
      checked = accepted line (reported_run run.script)
          (read_line line (reported_run run.script) run.text (runs_read_again input run.script run.read).1)
          (always-in-order run.script run.script.steps is.sound is.few).linearized fits;
    }
