-- How a program ends.
use Rattle.std.specs.Prelude.{◌≡◌, ℕ, List, length, Option, None, Result, Ok, Err, IfOk, IfErr, OnErr, is_err}
use Rattle.std.specs.Io.KnownBytes.{Appends}
use Rattle.stamp_cli.specs.Results.{Results, Makes, any_since, taken_since}
use Rattle.stamp_cli.specs.Sink.{AppendsFront}
use Rattle.stamp_cli.specs.TakesNone.{takes_none}
use Rattle.stamp_cli.specs.Answer.{LineView}
use Rattle.stamp_cli.specs.Serving.{HasRead, HasWritten, WritesAnswer, RefusesAsDue, WritesFront}
use Rattle.stamp_cli.specs.declared.line.Verdict.{Verdict}
use Rattle.stamp_cli.specs.declared.line.Verdict.TheVariants.{Accepted, Bad}
use Rattle.stamp_cli.specs.declared.shell.Answered as shell
use Rattle.stamp_cli.specs.declared.shell.Ending.{Ending}
use Rattle.stamp_cli.specs.declared.shell.Ending.TheVariants.{BadCommandLine, Unopened, Answered, Refused}

-- a source and a sink as contracts see them: the bytes that are left and that went out, where they are known, and the
-- results of all reads and writes so far
pub record EndsView : Type 0 where
  pub left : Option (List ℕ)
  pub reads : Results
  pub sent : Option (List ℕ)
  pub writes : Results

-- a sink
pub record SinkView : Type 0 where
  pub sent : Option (List ℕ)
  pub writes : Results

-- all ends of a program: its source and its sink, and the sinks for what it tells on the way and for a witness
pub record ProgramView : Type 0 where
  pub ends : EndsView
  pub told : SinkView
  pub witness : SinkView

abbrev pub verdict_status : Verdict → ℕ
verdict_status Accepted = 0
verdict_status Bad = 1

-- the exit status: 0 of an answer that accepts, 2 of a bad command line, and else 1
abbrev pub status_after : {F : Type 0} → Ending F → ℕ
status_after BadCommandLine = 2
status_after Unopened = 1
status_after (Answered answered) = verdict_status answered.verdict
status_after (Refused fault) = 1

-- it ends so after an answer that may be given
abbrev pub IsEndingOf : {F : Type 0} → (Result shell.Answered F → Type 0) → Ending F → Type 0
IsEndingOf May BadCommandLine = ⊥
IsEndingOf May Unopened = ⊥
IsEndingOf May (Answered answered) = May (Ok answered)
IsEndingOf May (Refused fault) = May (Err fault)

-- this verdict was answered, and nothing beside it
pub record IsAlone (verdict : Verdict) (answered : shell.Answered) : Type 0 where
  pub verdict_is : answered.verdict ≡ verdict
  pub no_note : answered.note ≡ Ok None
  pub not_lacking : answered.no_witness ≡ None

-- what was answered is the verdict of this line, without a note
abbrev pub IsWithoutNote : LineView → shell.Answered → Type 0
IsWithoutNote line answered = IsAlone line.verdict answered

-- an order was served as its answer says: the reads, the answer written, the refusal that is due, and the writes
pub record HasServed {A F : Type 0} (read_fault write_fault memory : F)
    (IsAnswer : Option (List ℕ) → Option (List ℕ) → ℕ → Result A F → Type 0) (IsOf : A → shell.Answered → Type 0)
    (text_of : A → List ℕ) (most bytes : ℕ) (old new : EndsView) (result : Result shell.Answered F) : Type 0 where
  pub reads : HasRead read_fault memory old.left new.left old.reads new.reads most bytes result
  pub ok : WritesAnswer (IsAnswer old.left new.left (taken_since old.reads new.reads)) IsOf text_of
      old.sent new.sent old.writes new.writes result
  pub refused : RefusesAsDue read_fault write_fault memory
      (IsAnswer old.left new.left (taken_since old.reads new.reads)) result
  pub writes : HasWritten write_fault old.sent new.sent old.writes new.writes result
  pub front : WritesFront write_fault (IsAnswer old.left new.left (taken_since old.reads new.reads)) text_of
      old.sent new.sent old.writes new.writes result

-- it did so between a source and a sink, and nothing at the other ends
pub record ServesEnds {F : Type 0} (IsServed : EndsView → EndsView → Result shell.Answered F → Type 0)
    (old new : ProgramView) (result : Result shell.Answered F) : Type 0 where
  pub served : IsServed old.ends new.ends result
  pub told : new.told ≡ old.told
  pub witness : new.witness ≡ old.witness

-- it told how it is called: it read nothing, and wrote this text, which accepts; or a write failed, and a front of the
-- text was written, not all
pub record HasHelped {F : Type 0} (write_fault : F) (help : List ℕ) (old new : EndsView)
    (result : Result shell.Answered F) : Type 0 where
  pub left_is : new.left ≡ old.left
  pub reads_are : new.reads ≡ old.reads
  pub answered : IfOk result (IsAlone Accepted)
  pub ok : IfOk result (λ answered. Appends old.sent new.sent help × Makes old.writes new.writes (length help))
  pub refused : IfErr result (λ e. e ≡ write_fault)
  pub front : OnErr result (AppendsFront old.sent new.sent help)
  pub failed : any_since takes_none old.writes new.writes ≡ is_err result
