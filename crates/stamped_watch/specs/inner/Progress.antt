-- What was told so far.
use Rattle.std.specs.Prelude.{ℕ, ◌≡◌, ◌≤◌, Bool, true, false, not, List, length, Option}
use Rattle.std.specs.Prelude.{None}
use Rattle.std.specs.List.{list_any}
use Rattle.stamp_cli.specs.Results.{Results}
use Rattle.stamp_cli.specs.TakesNone.{takes_none}
use Rattle.stamped_watch.specs.declared.stream_judge.StreamJudge.{StreamJudge}
use Rattle.stamped_watch.specs.declared.telling.Telling.{Telling}
use Rattle.stamped_watch.specs.Progress.{IsLineOf, IsWritten}
use Rattle.stamped_watch.specs.StreamJudge.{IsFed}

-- the same, but for whether each line was written whole
pub record IsSameButWhole (old new : Telling) : Type 0 where
  pub asked_is : new.asked ≡ old.asked
  pub missing_is : new.missing ≡ old.missing

-- a line was written, whole or not; or it was not, since one before it wasn't written whole
pub record IsWrittenSo (line : List ℕ) (sent sent' : Option (List ℕ)) (old new : Results) (is_whole : Bool) : Type 0
  where
    pub written : IsWritten line sent sent' old new
    pub told : list_any takes_none written.made ≡ not is_whole

pub record IsNotWritten (sent sent' : Option (List ℕ)) (old new : Results) (is_whole : Bool) : Type 0 where
  pub sent_is : sent' ≡ sent
  pub new_is : new ≡ old
  pub whole_is : is_whole ≡ false

abbrev pub WritesLine : List ℕ → Option (List ℕ) → Option (List ℕ) → Results → Results → Bool → Bool → Type 0
WritesLine line sent sent' old new true is_whole = IsWrittenSo line sent sent' old new is_whole
WritesLine line sent sent' old new false is_whole = IsNotWritten sent sent' old new is_whole

-- so it is with the line of what was fed
pub record IsOneLineMore (ahead : ℕ) (fed : List ℕ) (sent sent' : Option (List ℕ)) (old new : Results)
    (was_whole is_whole : Bool) : Type 0 where
  pub line : List ℕ
  pub is : IsLineOf ahead fed line
  pub writes : WritesLine line sent sent' old new was_whole is_whole

-- a judge has found nothing of a header, and of what may come behind it
pub record IsBehindHeader (judge : StreamJudge) : Type 0 where
  pub most : ℕ
  pub ahead : ℕ
  pub fed : List ℕ
  pub is : IsFed most ahead fed judge
  pub none : judge.found ≡ None
  pub many : 24 ≤ length fed
