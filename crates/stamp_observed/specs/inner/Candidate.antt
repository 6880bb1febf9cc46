-- The history of what may be a small one.
use Rattle.std.specs.Prelude.{◌++◌, ◌∷◌, [], Some}
use Rattle.stamp_core.specs.Layout.{Units}
use Rattle.stamp_core.specs.Limits.{units}
use Rattle.stamp_explain.specs.declared.observed.Observation.{Observation}
use Rattle.stamp_explain.specs.declared.observed.Returned.{Returned}
use Rattle.stamp_explain.specs.Observed.{ObservedHistory}
use Rattle.stamp_observed.specs.declared.fault.Fault.{Fault}
use Rattle.stamp_observed.specs.declared.candidate.Candidate.{Candidate}
use Rattle.stamp_observed.specs.Renumbering.{renumbered_call, renumbered_reply}

-- the call that stands for that of the fault, and its return
abbrev pub return_in : Units → Fault → Candidate → Returned
return_in u fault c = record { last = c.last; reply = renumbered_reply u c.versions fault.returned.reply }

abbrev pub stand_in : Units → Fault → Candidate → Observation
stand_in u fault c = record {
  thread = fault.call.thread;
  call = renumbered_call u c.versions fault.call.call;
  first = c.first;
  returned = Some (return_in u fault c);
}

-- it comes behind the others
abbrev pub history_of : ObservedHistory → Fault → Candidate → ObservedHistory
history_of h fault c = record h { entries = c.others.items ++ stand_in (units h.limits) fault c ∷ [] }
