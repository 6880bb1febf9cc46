use Rattle.std.proofs.Common.{◌≤◌, length, arith, subst}
use Rattle.std.specs.List.{All}
use Rattle.std.proofs.lemmas.List.{take_all}
use Rattle.std.proofs.lemmas.Grind.{common_steps}
use Rattle.stamp_observed.specs.inner.ProgramValue.{ObservationIsProgramValue}
use Rattle.stamp_observed.specs.ObservedText.{observation_data}
use Rattle.stamp_history.proofs.ItemByItem.{next_left, all_and_next}
use Rattle.stamp_history.proofs.ItemsText.{item_written}
use Rattle.stamp_observed.proofs.observed_writing.push_observations.Goals as goal

pub loop-index-preserved : goal.loop-index-preserved
loop-index-preserved c =
    let xs = c.args.entries.now in
    let i = c.loop-index.index in
    let x = c.index-entries-index.result in
    let is = c.index-entries-index.is in
    record {
      text = item_written observation_data xs i x _ _ _ _ (next_left xs i x x c.loop-index-test.true is)
          c.in_ok-push_comma.ensures c.in_ok-push_observation.ensures.text c.loop-index.invariant.text;
      program_value = all_and_next ObservationIsProgramValue xs i x x c.loop-index-test.true is
          c.loop-index.invariant.program_value c.in_ok-push_observation.ensures.program_value;
    }

pub returns-clause-program_value : goal.returns-clause-program_value
returns-clause-program_value c =
    let xs = c.args.entries.now in
    let end : length xs ≤ c.loop-index.index = grind (arith, common_steps) in
    subst (All ObservationIsProgramValue) (take_all c.loop-index.index xs end) c.loop-index.invariant.program_value
