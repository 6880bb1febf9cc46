-- What two passes know of the one history.
use Rattle.std.specs.Prelude.{◌≢◌, ◌⊎◌, Bool, List}
use mathlib.Core.List.{IsPrefix}
use Rattle.stamp_threads.specs.declared.pass_view.LogEntry.{LogEntry}
use Rattle.stamp_threads.specs.declared.pass_view.PassView.{PassView}
use Rattle.stamp_threads.specs.PassView.{IsPart, made_by}

-- one of the two lists begins the other
abbrev pub AreOrdered : {A : Type 0} → List A → List A → Type 0
AreOrdered xs ys = IsPrefix xs ys ⊎ IsPrefix ys xs

-- Both know a part of one legal history, under names of their own. So what they know is ordered,
-- and what either knows of the other's calls are the first of these.
pub record Agree {E P : Type 0} (is_call : E → Bool) (IsLegal : List (LogEntry E) → Type 0)
    (v w : PassView E P) : Type 0 where
  pub log : List (LogEntry E)
  pub legal : IsLegal log
  pub first : IsPart is_call log v
  pub second : IsPart is_call log w
  pub apart : v.name ≢ w.name
  pub ordered : AreOrdered v.known w.known
  pub first_calls : IsPrefix (made_by is_call v.name w.known) v.own
  pub second_calls : IsPrefix (made_by is_call w.name v.known) w.own
