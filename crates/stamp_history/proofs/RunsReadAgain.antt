-- What a script that was read is run to reads again from its line.
use Rattle.std.proofs.Common.{◌≤◌, ◌+◌, ◌==◌, ℕ, List, [], ◌∷◌, length, take, get_or, Bool}
use Rattle.std.proofs.Common.{true}
use Rattle.std.proofs.Common.{false, arith, inr}
use Rattle.std.specs.Prelude.{if◌then◌else◌}
use Rattle.std.specs.List.{All}
use Rattle.std.proofs.lemmas.List.{length-take, length-drop, length-map}
use Rattle.std.proofs.lemmas.List.Elements.{All-nil, All-map}
use Rattle.std.proofs.lemmas.List.Sums.{count_by-le-length}
use Rattle.stamp_core.specs.Record.{IsRecorded, RepliesFit}
use Rattle.stamp_core.specs.declared.entry.Entry.{Entry}
use Rattle.stamp_machines.specs.Interference.{cost, steps_during, interferes}
use Rattle.stamp_machines.specs.Interference.{changes_by_others}
use Rattle.stamp_machines.specs.RecordedRun.{recorded_run, reported_run}
use Rattle.stamp_machines.specs.Script.{Scripted, IsSound}
use Rattle.stamp_machines.specs.World.{World, step, execution_of, finished_calls}
use Rattle.stamp_machines.proofs.EntryCount.{finished-recorded}
use Rattle.stamp_machines.proofs.EntryOrder.{always-in-order}
use Rattle.stamp_machines.proofs.StepsKeep.{execution-position}
use Rattle.stamp_history.specs.HistoryLaws.{IsU64, EntryIsU64, PairIsU64, AreU64, RunsReadAgain}
use Rattle.stamp_history.proofs.HistoryReadsAgain.{lines_read_again}
use Rattle.stamp_history.proofs.RunReplies.{IsProgramRun, program_run}
use Rattle.stamp_history.proofs.ScriptNumbers.{program_script}

-- a number of steps of a schedule
few_fits : (n : ℕ) → n ≤ 1000000 → IsU64 n
few_fits n few = omega arith

entries_fit : (script : Scripted) → IsSound script → length script.steps ≤ 1000000 → IsProgramRun script →
    All EntryIsU64 (finished_calls script script.steps)
entries_fit script sound few run k d lt =
    let ordered = always-in-order script script.steps sound few in
    let position = execution-position script script.steps in
    let ended = ordered.ended k d lt in
    let point = ordered.points k d lt in
    let within = ordered.linearized.within k d lt in
    let begun = within.begun in
    record {
      call = run.calls k d lt;
      first = few_fits _ (omega (arith, begun, point, ended, position, few));
      last = few_fits _ (omega (arith, ended, position, few));
      point = few_fits _ (omega (arith, point, ended, position, few));
      reply = (run.replies k d lt).numbers;
    }

words_fit : (script : Scripted) → IsProgramRun script → RepliesFit (finished_calls script script.steps)
words_fit script run k d lt = (run.replies k d lt).words

one_change : (b : Bool) → (if b then 1 else 0) ≤ 1
one_change true = omega arith
one_change false = omega arith

changes_few : (script : Scripted) (thread : ℕ) (world : World) (steps : List ℕ) →
    changes_by_others script thread world steps ≤ length steps
changes_few script thread world [] = omega arith
changes_few script thread world (by ∷ steps) =
    let here = one_change (interferes script thread world by) in
    let rest = changes_few script thread (step script world by) steps in
    omega (arith, here, rest)

during_few : (steps : List ℕ) (e : Entry) → length (steps_during steps e) ≤ length steps
during_few steps e =
    omega (arith, length-drop e.first (take (e.last + 1) steps), length-take (e.last + 1) steps)

cost_fits : (script : Scripted) (e : Entry) → length script.steps ≤ 1000000 → PairIsU64 (cost script script.steps e)
cost_fits script e few =
    let during = steps_during script.steps e in
    let short = during_few script.steps e in
    let own = count_by-le-length (λ (by : ℕ). by == e.thread) during in
    let others = changes_few script e.thread (execution_of script (take e.first script.steps)) during in (
      few_fits _ (omega (arith, own, short, few)),
      few_fits _ (omega (arith, others, short, few)),
    )

run_fits : (script : Scripted) → IsProgramRun script → IsSound script → length script.steps ≤ 1000000 →
    AreU64 (recorded_run script) × AreU64 (reported_run script)
run_fits script run sound few =
    let entries = entries_fit script sound few run in (
      record { entries = entries; report = All-nil PairIsU64 },
      record {
        entries = entries;
        report = All-map PairIsU64 (cost script script.steps) (finished_calls script script.steps)
            (λ k d lt. cost_fits script (get_or (finished_calls script script.steps) k d) few);
      },
    )

reported_recorded : (script : Scripted) → IsSound script → IsRecorded (reported_run script)
reported_recorded script sound =
    let known = finished-recorded script script.steps sound in
    record {
      width = known.width;
      entries = known.entries;
      report = inr (length-map (finished_calls script script.steps) (cost script script.steps));
      suit = known.suit;
    }

pub runs_read_again : RunsReadAgain
runs_read_again bytes script e =
    let is = program_script bytes script e in
    let run = program_run script is.sound is.threads is.few in
    let fits = run_fits script run is.sound is.few in (
      lines_read_again (recorded_run script) is.sound.range (finished-recorded script script.steps is.sound)
          (words_fit script run) fits.0,
      lines_read_again (reported_run script) is.sound.range (reported_recorded script is.sound)
          (words_fit script run) fits.1,
    )
