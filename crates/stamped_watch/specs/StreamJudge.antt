-- What a judge knows of a stream whose bytes come.
use Rattle.std.specs.Prelude.{ℕ, ◌≡◌, ◌++◌, List, [], Option, Some, None, MatchOption, ⊤}
use Rattle.std.specs.List.{count_by}
use Rattle.stamp_runs.specs.declared.event.Event.{Event}
use Rattle.stamp_watch.specs.declared.ended_call.EndedCall.{EndedCall}
use Rattle.stamp_watch.specs.declared.late.LateJudge.{LateJudge}
use Rattle.stamp_watch.specs.Course.{KeepsEnd}
use Rattle.stamp_watch.specs.EndedCall.{IsEndedAt, ended_from}
use Rattle.stamp_watch.specs.LateJudge.{HasFoundNothingLater, IsLateJudge}
use Rattle.stamped_watch.specs.declared.finding.Finding.{Finding}
use Rattle.stamped_watch.specs.declared.finding.Finding.TheVariants.{Stuck}
use Rattle.stamped_watch.specs.declared.header.Header.{Header}
use Rattle.stamped_watch.specs.declared.run_judge.RunJudge.{RunJudge}
use Rattle.stamped_watch.specs.declared.stream_judge.StreamJudge.{StreamJudge}
use Rattle.stamped_watch.specs.Finding.{IsFoundOf, is_beginning, is_withdrawal}
use Rattle.stamped_watch.specs.Header.{IsShortHeader}
use Rattle.stamped_watch.specs.Possible.{KeepsOf}
use Rattle.stamped_watch.specs.Stream.{IsPartOfEvent, IsRunBy}
use Rattle.std.specs.Prelude.{ℕ, ◌≡◌, ◌+◌, ◌^◌, ◌≤◌, ◌⊎◌, ◌++◌, true, List, [], ◌∷◌, length}
use Rattle.std.specs.Prelude.{Option, Some, None, IfSome, option_map}
use Rattle.stamp_core.specs.Content.{zeros}
use Rattle.stamp_core.specs.Limits.{Bounds}
use Rattle.stamp_runs.specs.declared.event.Event.TheVariants.{Begins, Returns, Withdraws}
use Rattle.stamp_runs.specs.BothRun.{AreExplained}
use Rattle.stamp_runs.specs.Names.{EachOfCall, EachOfReply, call_by, reply_by}
use Rattle.stamp_runs.specs.OneWord.{is_small_call, is_small_reply}
use Rattle.stamp_watch.specs.declared.late_verdict.LateVerdict.{LateVerdict}
use Rattle.stamp_watch.specs.EndedCall.{IsEndedAt}
use Rattle.stamp_watch.specs.Late.{IsLateFound, IsLateVerdict}
use Rattle.stamp_watch.specs.Names.{IsEventBy, IsGrown, IsNamed, StaysWide, name_in}
use Rattle.stamp_watch.specs.PossibleLate.{KeepsLater}
use Rattle.stamp_watch.specs.Verdict.{AreOfLanes}
use Rattle.stamped_watch.specs.declared.finding.Finding.TheVariants as found
use Rattle.stamped_watch.specs.declared.misplaced.Misplaced.{Misplaced}
use Rattle.stamped_watch.specs.EventBytes.{HasBytes}
use Rattle.stamped_watch.specs.Finding.{IsMisplaced, verdict_of}
use Rattle.stamped_watch.specs.Stream.{words_of_record}

-- the contents of an event have one word each
abbrev pub IsSmallEvent : Event → Type 0
IsSmallEvent (Begins lane call) = is_small_call call ≡ true
IsSmallEvent (Returns lane reply) = is_small_reply reply ≡ true
IsSmallEvent (Withdraws lane) = Unit {0}

-- a verdict on this run is found, which holds whatever comes later
pub record IsFoundSo (limits : Bounds) (run : List Event) (most ahead : ℕ) (finding : Finding) : Type 0 where
  pub verdict : LateVerdict
  pub is : verdict_of finding ≡ Some verdict
  pub holds : IsLateFound limits run most ahead verdict

-- a verdict is found on this run as it ends here
pub record IsVerdictHere (limits : Bounds) (run : List Event) (most ahead : ℕ) (finding : Finding) : Type 0 where
  pub verdict : LateVerdict
  pub is : verdict_of finding ≡ Some verdict
  pub holds : IsLateVerdict limits run most ahead verdict

-- the run is explained, and the event with this number may not come behind it
pub record IsMisplacedAt (limits : Bounds) (run : List Event) (e : Event) (k : ℕ) (why : Misplaced) : Type 0 where
  pub place : k ≡ length run
  pub whole : AreOfLanes run
  pub explained : AreExplained limits run
  pub misplaced : IsMisplaced run e why

-- what is found of a run that goes on with this event
abbrev pub IsFoundWith : Bounds → ℕ → ℕ → List Event → Event → Finding → Type 0
IsFoundWith limits most ahead run e found.Full = 2 ^ 64 ≤ length run + 1
IsFoundWith limits most ahead run e (found.Misplaced k why) = IsMisplacedAt limits run e k why
IsFoundWith limits most ahead run e finding = IsFoundSo limits (run ++ e ∷ []) most ahead finding

-- nothing was found, and the judge was given the event
pub record IsGoingOn (limits : Bounds) (most ahead : ℕ) (run : List Event) (judge : LateJudge) : Type 0 where
  pub judge_of : IsLateJudge limits most ahead run judge
  pub none : HasFoundNothingLater judge

-- what comes of the event
abbrev pub IsGivenOne : Bounds → ℕ → ℕ → List Event → Event → LateJudge → Option Finding → Type 0
IsGivenOne limits most ahead run e judge None = IsGoingOn limits most ahead (run ++ e ∷ []) judge
IsGivenOne limits most ahead run e judge (Some finding) = IsFoundWith limits most ahead run e finding

-- what the judge keeps is of the run, and for it as many positions are too many, and calls begin later, as before
pub record KeepsRun (limits : Bounds) (run : List Event) (old new : LateJudge) : Type 0 where
  pub keeps : KeepsLater limits run new
  pub most_is : new.delay.judge.most ≡ old.delay.judge.most
  pub window : new.delay.ahead ≡ old.delay.ahead

-- so it is of the run, or of the run with the event
abbrev pub KeepsSoFar : Event → LateJudge → LateJudge → Type 0
KeepsSoFar e old new = (limits : Bounds) (most ahead : ℕ) (run : List Event) → IsLateJudge limits most ahead run old →
    KeepsRun limits run old new ⊎ KeepsRun limits (run ++ e ∷ []) old new

-- it keeps what is of the run
abbrev pub KeepsStill : LateJudge → LateJudge → Type 0
KeepsStill old new = (limits : Bounds) (most ahead : ℕ) (run : List Event) → IsLateJudge limits most ahead run old →
    KeepsRun limits run old new

-- the run is explained, and this is found; or a verdict is
pub record IsExplainedRun (limits : Bounds) (run : List Event) : Type 0 where
  pub whole : AreOfLanes run
  pub explained : AreExplained limits run

abbrev pub IsFoundUnless : Bounds → ℕ → ℕ → List Event → Finding → Finding → Type 0
IsFoundUnless limits most ahead run explained finding =
    (IsExplainedRun limits run × (finding ≡ explained)) ⊎ IsVerdictHere limits run most ahead finding

-- the judge of a stream with this header, of which no event has come
pub record IsNewRunJudge (header : Header) (most ahead : ℕ) (inner : RunJudge) : Type 0 where
  pub judge_of : IsLateJudge header.limits most ahead [] inner.judge
  pub none : HasFoundNothingLater inner.judge
  pub names_are : inner.names ≡ zeros (words_of_record header.width) ∷ []
  pub width_is : inner.width ≡ header.width

-- the same judge, but for more contents
pub record IsSameButNames (old new : RunJudge) : Type 0 where
  pub judge_is : new.judge ≡ old.judge
  pub width_is : new.width ≡ old.width
  pub grows : IsGrown old.names new.names
  pub wide : StaysWide old.names new.names

-- the event that has these bytes, by the numbers of its contents
pub record IsToldEvent (old new : RunJudge) (front behind : List ℕ) (small : Event) : Type 0 where
  pub event : Event
  pub has : HasBytes old.width event (front ++ behind)
  pub told : IsEventBy new.names event small
  pub same : IsSameButNames old new

-- the call that ends, by the numbers of its contents
pub record IsEndBy (contents : List (List ℕ)) (told small : EndedCall) : Type 0 where
  pub lane_is : told.lane ≡ small.lane
  pub call_is : call_by (name_in contents) told.call ≡ small.call
  pub call_named : EachOfCall (IsNamed contents) told.call
  pub reply_is : option_map (reply_by (name_in contents)) told.reply ≡ small.reply
  pub reply_named : IfSome told.reply (EachOfReply (IsNamed contents))

-- these bytes are a header and events, which were given to this judge by the numbers of their contents; nothing was
-- found of them, and so many calls began and were withdrawn
pub record IsUnderWay (most ahead : ℕ) (taken : List ℕ) (begun withdrawn : ℕ) (inner : RunJudge) : Type 0 where
  pub header : Header
  pub run : List Event
  pub stream : IsRunBy inner.names taken header run []
  pub width_is : inner.width ≡ header.width
  pub judge_of : IsLateJudge header.limits most ahead run inner.judge
  pub none : HasFoundNothingLater inner.judge
  pub begun_is : begun ≡ count_by is_beginning run
  pub withdrawn_is : withdrawn ≡ count_by is_withdrawal run

-- nothing came yet, and nothing was counted
pub record IsFresh (taken : List ℕ) (begun withdrawn : ℕ) : Type 0 where
  pub nothing : taken ≡ []
  pub begun_is : begun ≡ 0
  pub withdrawn_is : withdrawn ≡ 0

-- the call that the event with this number ends, if it begins among the events that are kept
abbrev pub ended_of : LateJudge → ℕ → Option EndedCall
ended_of judge number = ended_from judge.delay.judge.course.first judge.delay.judge.course.events.items number

-- the call that is kept as the one which ends where the run is stuck ends there in the run
abbrev pub EndsInRunOf : List Event → LateJudge → Finding → Type 0
EndsInRunOf run inner finding = (k : ℕ) → finding ≡ found.Stuck k → (ended : EndedCall) →
    ended_of inner k ≡ Some ended → IsEndedAt run k ended

-- the event of this number is kept, with the beginning of the call that it ends
abbrev pub KeepsEndAt : Option RunJudge → ℕ → Type 0
KeepsEndAt None k = ⊥
KeepsEndAt (Some inner) k = KeepsEnd inner.judge.delay.judge.course k

-- so is the event at which the stream is stuck
abbrev pub KeepsCallOf : LateJudge → Finding → Type 0
KeepsCallOf judge (Stuck k) = KeepsEnd judge.delay.judge.course k
KeepsCallOf judge finding = Unit {0}

abbrev pub KeepsCall : Option RunJudge → Finding → Type 0
KeepsCall judge (Stuck k) = KeepsEndAt judge k
KeepsCall judge finding = Unit {0}

-- the event of this number ends the call in the run
pub record EndsInRun (inner : RunJudge) (bytes : List ℕ) (k : ℕ) (ended : EndedCall) : Type 0 where
  pub header : Header
  pub run : List Event
  pub rest : List ℕ
  pub stream : IsRunBy inner.names bytes header run rest
  pub width_is : inner.width ≡ header.width
  pub ends : IsEndedAt run k ended

-- the call that is kept as the one which ends where the stream is stuck ends there
abbrev pub EndsInStream : List ℕ → Option RunJudge → Finding → Type 0
EndsInStream bytes None finding = Unit {0}
EndsInStream bytes (Some inner) finding = (k : ℕ) → finding ≡ Stuck k → (ended : EndedCall) →
    ended_of inner.judge k ≡ Some ended → EndsInRun inner bytes k ended

-- the bytes end within a header, or an event
abbrev pub IsPart : Option RunJudge → List ℕ → Type 0
IsPart judge bytes = MatchOption judge (IsShortHeader bytes) (λ inner. IsPartOfEvent inner.width bytes)

-- it has taken these bytes: what it found holds whatever comes later
pub record HasTaken (most ahead : ℕ) (taken : List ℕ) (judge : StreamJudge) : Type 0 where
  pub most_is : judge.most ≡ most
  pub ahead_is : judge.ahead ≡ ahead
  pub state : MatchOption judge.found (MatchOption judge.judge (IsFresh taken judge.begun judge.withdrawn)
      (λ inner. IsUnderWay most ahead taken judge.begun judge.withdrawn inner))
      (λ finding. IsFoundOf most ahead taken finding)
  pub kept : MatchOption judge.judge ⊤ (λ inner. KeepsOf most ahead taken inner)
  pub tells : MatchOption judge.found ⊤ (KeepsCall judge.judge)
  pub there : MatchOption judge.found ⊤ (EndsInStream taken judge.judge)

-- it was fed these bytes: some of them it has taken, and it keeps those behind them, if nothing was found
pub record IsFed (most ahead : ℕ) (fed : List ℕ) (judge : StreamJudge) : Type 0 where
  pub taken : List ℕ
  pub later : List ℕ
  pub parts : fed ≡ taken ++ later
  pub has_taken : HasTaken most ahead taken judge
  pub keeps : judge.found ≡ None → judge.part.items ≡ later
  pub part : IsPart judge.judge judge.part.items

-- so it is of some bytes
pub record IsFedSome (judge : StreamJudge) : Type 0 where
  pub most : ℕ
  pub ahead : ℕ
  pub fed : List ℕ
  pub is : IsFed most ahead fed judge

-- what its judge keeps is of these bytes
abbrev pub KeepsFed : ℕ → ℕ → List ℕ → StreamJudge → Type 0
KeepsFed most ahead fed judge = MatchOption judge.judge ⊤ (λ inner. KeepsOf most ahead fed inner)

pub record KeepsFedSome (judge : StreamJudge) : Type 0 where
  pub most : ℕ
  pub ahead : ℕ
  pub fed : List ℕ
  pub keeps : KeepsFed most ahead fed judge
