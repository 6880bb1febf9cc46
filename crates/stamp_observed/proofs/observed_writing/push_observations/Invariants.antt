use Rattle.std.proofs.Common.{◌≡◌, ◌++◌, take}
use Rattle.std.specs.List.{All}
use Rattle.serde_json.specs.Written.{compact_text}
use Rattle.stamp_observed.specs.inner.ProgramValue.{ObservationIsProgramValue}
use Rattle.stamp_observed.specs.ObservedText.{observation_data, observations_data}
use Rattle.stamp_history.proofs.ItemsText.{items_left}
use Rattle.stamp_observed.proofs.observed_writing.push_observations.Given as goal

abbrev pub invariant-loop-index : goal.invariant-loop-index
invariant-loop-index l = record {
  text : l.text.items ++ items_left observation_data l.index l.entries ≡ l.fn.text.items ++
      compact_text (observations_data l.entries);
  program_value : All ObservationIsProgramValue (take l.index l.entries);
}
