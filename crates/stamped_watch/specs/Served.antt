-- How the program serves an order.
use Rattle.std.specs.Prelude.{ℕ, ◌≡◌, ◌-◌, ◌++◌, ◌⊎◌, List, [], ◌∷◌, length, take, Option, None, Result, Ok, Err, OnErr}
use Rattle.std.specs.declared.io.Error.{Error}
use Rattle.std.specs.Io.KnownBytes.{Consumes, IsAtEnd}
use Rattle.stamp_cli.specs.Results.{Results, EachTakes, FailsWithARead, LastTakesNone, taken_since}
use Rattle.stamp_cli.specs.Serving.{HasWritten, WritesAnswer, RefusesAsDue, WritesFront}
use Rattle.stamp_cli.specs.Shell.{HasHelped, ProgramView, ServesEnds, SinkView}
use Rattle.stamp_cli.specs.declared.faults.ServeFault.{ServeFault}
use Rattle.stamp_cli.specs.declared.faults.ServeFault.TheVariants.{Memory, ReadFault, WriteFault}
use Rattle.stamp_cli.specs.declared.shell.Answered.{Answered}
use Rattle.stamped_watch.specs.declared.finding.Finding.{Finding}
use Rattle.stamped_watch.specs.declared.orders.Watching.{Watching}
use Rattle.stamped_watch.specs.declared.orders.WatchOrder.{WatchOrder}
use Rattle.stamped_watch.specs.declared.orders.WatchOrder.TheVariants.{Help, Watch}
use Rattle.stamped_watch.specs.declared.serving.Watched.{Watched}
use Rattle.stamped_watch.specs.Finding.{IsFindingOf, IsFoundOf, IsSoFar}
use Rattle.stamped_watch.specs.FindingText.{finding_text, finding_verdict}
use Rattle.stamped_watch.specs.Note.{IsNote}
use Rattle.stamped_watch.specs.Progress.{HasTold}
use Rattle.stamped_watch.specs.Witness.{HasShown, lack_of}

-- reads were made, none after one that took no byte, and these are the bytes that they took. It ended in the fault of
-- reading exactly where a read failed
pub record HasReadOn {A E : Type 0} (read_fault : E) (left left' : Option (List ℕ)) (old new : Results)
    (result : Result A E) : Type 0 where
  pub made : Results
  pub added : new ≡ old ++ made
  pub to_end : EachTakes (take (length made - 1) made)
  pub bytes : List ℕ
  pub took : Consumes left left' bytes
  pub count : length bytes ≡ taken_since old new
  pub failed : FailsWithARead read_fault old new result

-- this is found of all bytes, and the source came to its end
pub record IsFoundAtEnd (asked : Watching) (left : Option (List ℕ)) (old new : Results) (bytes : List ℕ)
    (finding : Finding) : Type 0 where
  pub last : LastTakesNone old new
  pub at_end : IsAtEnd left
  pub found : IsFindingOf asked.most asked.ahead bytes finding

-- before the last read nothing was found of the bytes: they were part of a header, or all but their last events were
-- explained
pub record IsReadInNeed (asked : Watching) (old new : Results) (bytes : List ℕ) : Type 0 where
  pub earlier : Results
  pub last : Result ℕ Error
  pub reads_are : new ≡ earlier ++ last ∷ []
  pub before : List ℕ
  pub after : List ℕ
  pub bytes_are : bytes ≡ before ++ after
  pub count : length before ≡ taken_since old earlier
  pub so_far : IsSoFar asked.most asked.ahead before None

-- this is found of the bytes that the reads took, whatever comes later, or at the end; each read was made in need
pub record IsFoundOfSource (asked : Watching) (left left' : Option (List ℕ)) (old new : Results)
    (finding : Finding) : Type 0 where
  pub bytes : List ℕ
  pub took : Consumes left left' bytes
  pub count : length bytes ≡ taken_since old new
  pub needed : IsReadInNeed asked old new bytes
  pub found : IsFoundOf asked.most asked.ahead bytes finding ⊎ IsFoundAtEnd asked left' old new bytes finding

-- so it is answered, and nothing is refused but for memory and the ends
abbrev pub AnswersStream : Watching → Option (List ℕ) → Option (List ℕ) → Results → Results →
    Result Finding ServeFault → Type 0
AnswersStream asked left left' old new (Ok finding) = IsFoundOfSource asked left left' old new finding
AnswersStream asked left left' old new (Err fault) = ⊥

-- the line as it is written
abbrev pub line_of : Finding → List ℕ
line_of finding = finding_text finding ++ 10 ∷ []

-- the verdict and the note are of this finding, and the witness that is due was written, or there is none
pub record IsAnsweredBy (asked : Watching) (left left' : Option (List ℕ)) (old new : Results)
    (shown shown' : SinkView) (finding : Finding) (watched : Watched) : Type 0 where
  pub verdict : watched.verdict ≡ finding_verdict finding
  pub bytes : List ℕ
  pub took : Consumes left left' bytes
  pub count : length bytes ≡ taken_since old new
  pub note : IsNote asked bytes finding watched.note
  pub witness : HasShown asked bytes finding shown shown' watched.shown

-- this is told beside the line, of the finding that was answered so
pub record IsToldOf (asked : Watching) (old new : ProgramView) (finding : Finding) (answered : Answered) : Type 0
  where
    pub watched : Watched
    pub of_it : IsAnsweredBy asked old.ends.left new.ends.left old.ends.reads new.ends.reads old.witness new.witness
        finding watched
    pub verdict : answered.verdict ≡ watched.verdict
    pub note : answered.note ≡ watched.note
    pub lack : answered.no_witness ≡ lack_of watched.shown

-- a stream was judged: the reads, the line written, no refusal but for memory and the ends, and the writes; the lines
-- of how far it was judged were told, and no refusal writes a witness
pub record HasWatched (asked : Watching) (old new : ProgramView) (result : Result Answered ServeFault) : Type 0
  where
    pub reads : HasReadOn ReadFault old.ends.left new.ends.left old.ends.reads new.ends.reads result
    pub ok : WritesAnswer (AnswersStream asked old.ends.left new.ends.left old.ends.reads new.ends.reads)
        (IsToldOf asked old new) line_of old.ends.sent new.ends.sent old.ends.writes new.ends.writes result
    pub refused : RefusesAsDue ReadFault WriteFault Memory
        (AnswersStream asked old.ends.left new.ends.left old.ends.reads new.ends.reads) result
    pub writes : HasWritten WriteFault old.ends.sent new.ends.sent old.ends.writes new.ends.writes result
    pub front : WritesFront WriteFault
        (AnswersStream asked old.ends.left new.ends.left old.ends.reads new.ends.reads) line_of
        old.ends.sent new.ends.sent old.ends.writes new.ends.writes result
    pub told : HasTold asked old.ends.left new.ends.left old.ends.reads new.ends.reads
        old.told.sent new.told.sent old.told.writes new.told.writes result
    pub silent : OnErr result (new.witness ≡ old.witness)

-- it tells how it is called by this text
abbrev pub IsServed : List ℕ → WatchOrder → ProgramView → ProgramView → Result Answered ServeFault → Type 0
IsServed help Help old new result = ServesEnds (HasHelped WriteFault help) old new result
IsServed help (Watch asked) old new result = HasWatched asked old new result
