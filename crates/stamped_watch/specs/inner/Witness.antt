-- What is found by the events that a judge keeps.
use Rattle.std.specs.Prelude.{ℕ, ◌≡◌, Result, Ok, Err, Some}
use Rattle.stamp_explain.specs.Observed.{ObservedHistory}
use Rattle.stamp_observed.specs.declared.behind.SearchEnd.{SearchEnd}
use Rattle.stamp_observed.specs.declared.behind.SearchEnd.TheVariants as search
use Rattle.stamp_observed.specs.declared.opening.State.{State}
use Rattle.stamp_watch.specs.declared.ended_call.EndedCall.{EndedCall}
use Rattle.stamp_watch.specs.declared.online.Judge.{Judge}
use Rattle.stamp_watch.specs.Start.{word_of}
use Rattle.stamped_watch.specs.declared.run_judge.RunJudge.{RunJudge}
use Rattle.stamped_watch.specs.declared.witness.NoWitness.{NoWitness}
use Rattle.stamped_watch.specs.Witness.{IsLackingHere, IsSoughtFrom, IsWitnessOf, state_at, width_told}

-- lock and record are in this state at the start
pub record IsStateAt (run : RunJudge) (judge : Judge) (start : ℕ) (state : State) : Type 0 where
  pub word : ℕ
  pub of_start : word_of judge.course.base start ≡ Some word
  pub state_is : state ≡ state_at run judge start word

-- what is found from this start
abbrev pub IsSearchedFrom : RunJudge → Judge → ℕ → EndedCall → ℕ → ℕ → SearchEnd → Type 0
IsSearchedFrom run judge number ended most start (search.Small small) =
    IsWitnessOf judge.course.base.limits (width_told run.width) ended small
IsSearchedFrom run judge number ended most start (search.NotFound sought) =
    IsSoughtFrom run judge number ended most start sought

-- what is found from all starts
abbrev pub IsSearchedHere : RunJudge → Judge → ℕ → EndedCall → ℕ → Result ObservedHistory NoWitness → Type 0
IsSearchedHere run judge number ended most (Ok small) =
    IsWitnessOf judge.course.base.limits (width_told run.width) ended small
IsSearchedHere run judge number ended most (Err why) = IsLackingHere run judge number ended most why
