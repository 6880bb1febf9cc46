-- The lines that tell how far a stream is judged.
use Rattle.std.specs.Prelude.{ℕ, ◌≡◌, ◌+◌, ◌*◌, ◌<◌, ◌≤◌, ◌++◌, Bool, true, false, List, [], length, take, codes}
use Rattle.std.specs.Prelude.{◌-◌, decimal, not, Option, Some, None, Result, Ok, IfOk}
use Rattle.std.specs.declared.alloc.AllocError.{AllocError}
use Rattle.std.specs.Io.KnownBytes.{Appends, Consumes}
use Rattle.std.specs.List.{list_any}
use Rattle.stamp_runs.specs.declared.event.Event.{Event}
use Rattle.stamp_cli.specs.Results.{EachTakes, Results, taken_since}
use Rattle.stamp_cli.specs.Sink.{AppendsFront}
use Rattle.stamp_cli.specs.TakesNone.{takes_none}
use Rattle.stamp_cli.specs.declared.faults.ServeFault.{ServeFault}
use Rattle.stamp_watch.specs.SoFar.{IsExplainedUpTo, open_calls}
use Rattle.stamped_watch.specs.declared.finding.Finding.{Finding}
use Rattle.stamped_watch.specs.declared.header.Header.{Header}
use Rattle.stamped_watch.specs.declared.orders.Watching.{Watching}
use Rattle.stamped_watch.specs.declared.so_far.SoFar.{SoFar}
use Rattle.stamped_watch.specs.declared.stream_judge.StreamJudge.{StreamJudge}
use Rattle.stamped_watch.specs.declared.telling.Telling.{Telling}
use Rattle.stamped_watch.specs.Finding.{IsFoundOf, calls_in}
use Rattle.stamped_watch.specs.Stream.{IsPartOfEvent, IsRunIn}
use Rattle.stamped_watch.specs.StreamJudge.{IsFed}

abbrev pub progress_text : ℕ → ℕ → ℕ → List ℕ
progress_text calls explained under_way = codes "stamped_watch: " ++ (decimal calls ++
    (codes " calls, explained up to event " ++ (decimal explained ++ (codes ", " ++ (decimal under_way ++
    codes " open\n")))))

-- a stream of these bytes is judged so far: it is a header and events, and a part of one. So many calls began and were
-- not withdrawn, so many are open, and the events are explained up to the one of this number
pub record IsSoFarOf (ahead : ℕ) (bytes : List ℕ) (so_far : SoFar) : Type 0 where
  pub header : Header
  pub run : List Event
  pub rest : List ℕ
  pub stream : IsRunIn bytes header run rest
  pub short : IsPartOfEvent header.width rest
  pub calls_are : so_far.calls ≡ calls_in run
  pub explained_is : IsExplainedUpTo header.limits run (2 * ahead + 64) so_far.explained
  pub under_way_are : so_far.under_way ≡ open_calls run

-- the line of that
pub record IsLineOf (ahead : ℕ) (bytes line : List ℕ) : Type 0 where
  pub so_far : SoFar
  pub is : IsSoFarOf ahead bytes so_far
  pub text : line ≡ progress_text so_far.calls so_far.explained so_far.under_way

-- behind the first 16 bytes and n times 2^28: without data, behind the header and n times 2^24 events
abbrev pub mark : ℕ → ℕ
mark n = 16 + n * 268435456

-- the lines of the first n marks, each of the bytes up to its mark
pub data AreLines (ahead : ℕ) (bytes : List ℕ) : ℕ → List ℕ → Type 0 where
  no_line : AreLines ahead bytes 0 []
  one_more : {n : ℕ} {text line : List ℕ} → AreLines ahead bytes n text → mark (n + 1) ≤ length bytes →
      IsLineOf ahead (take (mark (n + 1)) bytes) line → AreLines ahead bytes (n + 1) (text ++ line)

-- the text was written where each write took a byte, and else a front of it, and not all; no write was made after one
-- that took none
pub record IsWritten (text : List ℕ) (sent sent' : Option (List ℕ)) (old new : Results) : Type 0 where
  pub made : Results
  pub added : new ≡ old ++ made
  pub whole : list_any takes_none made ≡ false → Appends sent sent' text
  pub front : list_any takes_none made ≡ true → AppendsFront sent sent' text
  pub to_end : EachTakes (take (length made - 1) made)

-- the lines of so many marks were written, if they are asked for; and else no write was made
pub record Tells (asked : Watching) (bytes : List ℕ) (sent sent' : Option (List ℕ)) (old new : Results) : Type 0 where
  pub marks : ℕ
  pub text : List ℕ
  pub lines : AreLines asked.ahead bytes marks text
  pub written : IsWritten text sent sent' old new
  pub not_asked : asked.progress ≡ false → (marks ≡ 0) × (new ≡ old)

-- something is found of the stream, whatever comes later
abbrev pub IsFoundBy : Watching → List ℕ → Type 0
IsFoundBy asked bytes = (finding : Finding) × IsFoundOf asked.most asked.ahead bytes finding

-- where they are asked for there is one for each mark that is reached before something is found
abbrev pub TellsAll : Watching → ℕ → List ℕ → Type 0
TellsAll asked marks bytes =
    asked.progress ≡ true → mark (marks + 1) ≤ length bytes → IsFoundBy asked (take (mark (marks + 1)) bytes)

-- the lines of the bytes that the reads took were written, and where the stream was judged to its end, all of them
pub record HasTold {A : Type 0} (asked : Watching) (left left' : Option (List ℕ)) (reads reads' : Results)
    (sent sent' : Option (List ℕ)) (writes writes' : Results) (result : Result A ServeFault) : Type 0 where
  pub bytes : List ℕ
  pub took : Consumes left left' bytes
  pub count : length bytes ≡ taken_since reads reads'
  pub tells : Tells asked bytes sent sent' writes writes'
  pub all : IfOk result (λ _. TellsAll asked tells.marks bytes)

-- the telling of a stream of which nothing has come
pub record IsNewTelling (asked : Bool) (telling : Telling) : Type 0 where
  pub asked_is : telling.asked ≡ asked
  pub missing_is : telling.missing ≡ mark 1
  pub whole_is : telling.is_whole ≡ true

-- a judge has found nothing of what it was fed, and so many bytes come before the next mark
pub record IsBeforeMark (judge : StreamJudge) (telling : Telling) : Type 0 where
  pub most : ℕ
  pub ahead : ℕ
  pub fed : List ℕ
  pub is : IsFed most ahead fed judge
  pub none : judge.found ≡ None
  pub marks : ℕ
  pub place : telling.asked ≡ true → length fed + telling.missing ≡ mark (marks + 1)
  pub missing : 0 < telling.missing

-- the lines of all marks that were reached were told
pub record HasToldSoFar (asked : Watching) (bytes : List ℕ) (telling : Telling) (sent sent' : Option (List ℕ))
    (old new : Results) : Type 0 where
  pub tells : Tells asked bytes sent sent' old new
  pub asked_is : telling.asked ≡ asked.progress
  pub place : asked.progress ≡ true → length bytes + telling.missing ≡ mark (tells.marks + 1)
  pub missing : 0 < telling.missing
  pub whole : list_any takes_none tells.written.made ≡ not telling.is_whole

-- so it is once more bytes were fed; or something was found, and there is a line for each mark before that
pub record HasToldThen (asked : Watching) (bytes : List ℕ) (telling : Telling) (sent sent' : Option (List ℕ))
    (old new : Results) (result : Result (Option Finding) AllocError) : Type 0 where
  pub tells : Tells asked bytes sent sent' old new
  pub going : result ≡ Ok None → HasToldSoFar asked bytes telling sent sent' old new
  pub found : (finding : Finding) → result ≡ Ok (Some finding) → TellsAll asked tells.marks bytes
