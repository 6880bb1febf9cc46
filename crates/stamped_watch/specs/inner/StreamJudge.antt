-- How a stream's bytes are taken, event by event.
use Rattle.std.specs.Prelude.{ℕ, ◌≡◌, ◌+◌, ◌≤◌, ◌⊎◌, ◌++◌, List, [], length}
use Rattle.std.specs.Prelude.{Option, Some, None}
use Rattle.stamp_core.specs.Limits.{Bounds}
use Rattle.stamp_runs.specs.declared.event.Event.{Event}
use Rattle.stamp_runs.specs.declared.event.Event.TheVariants.{Begins, Returns, Withdraws}
use Rattle.stamp_watch.specs.declared.ended_call.EndedCall.{EndedCall}
use Rattle.stamp_watch.specs.Names.{IsEventBy}
use Rattle.stamped_watch.specs.declared.event_bytes.BadEvent.{BadEvent}
use Rattle.stamped_watch.specs.declared.event_bytes.Front.{Front}
use Rattle.stamped_watch.specs.declared.finding.Finding.TheVariants as found
use Rattle.stamped_watch.specs.declared.header.BadHeader.TheVariants.{Width}
use Rattle.stamped_watch.specs.declared.header.Header.{Header}
use Rattle.stamped_watch.specs.declared.run_judge.RunJudge.{RunJudge}
use Rattle.stamped_watch.specs.declared.stream_judge.StreamJudge.{StreamJudge}
use Rattle.stamped_watch.specs.EventBytes.{HasBytes, IsNoEvent}
use Rattle.stamped_watch.specs.Header.{HasWidth}
use Rattle.stamped_watch.specs.EventBytes.{IsFrontIn}
use Rattle.stamped_watch.specs.StreamJudge.{HasTaken, IsPart, ended_of}
use Rattle.std.specs.Prelude.{ℕ, ◌≡◌, ◌++◌, List, [], Option, Some, None}
use Rattle.stamped_watch.specs.declared.finding.Finding.TheVariants.{Stuck}
use Rattle.stamped_watch.specs.StreamJudge.{ended_of}
use Rattle.stamped_watch.specs.StreamJudge.{IsNewRunJudge}

abbrev pub ended_in : Option RunJudge → ℕ → Option EndedCall
ended_in None number = None
ended_in (Some inner) number = ended_of inner.judge number

-- a judge has taken some bytes
pub record HasTakenSome (judge : StreamJudge) : Type 0 where
  pub most : ℕ
  pub ahead : ℕ
  pub taken : List ℕ
  pub has : HasTaken most ahead taken judge

-- it has taken these bytes besides
abbrev pub IsOneMore : List ℕ → StreamJudge → StreamJudge → Type 0
IsOneMore bytes old new = (most ahead : ℕ) (taken : List ℕ) → HasTaken most ahead taken old →
    HasTaken most ahead (taken ++ bytes) new

-- it has taken a front of these bytes, and keeps none; the rest is to come
pub record HasTakenFront (bytes rest : List ℕ) (old new : StreamJudge) : Type 0 where
  pub front : List ℕ
  pub parts : bytes ≡ front ++ rest
  pub more : IsOneMore front old new
  pub some : HasTakenSome new
  pub empty : new.part.items ≡ []

-- it has taken the bytes of a header or an event, and these are left; or they end within it, and nothing has changed
pub record HasTakenOne (bytes rest : List ℕ) (old new : StreamJudge) : Type 0 where
  pub unit : List ℕ
  pub some : 1 ≤ length unit
  pub parts : bytes ≡ unit ++ rest
  pub more : IsOneMore unit old new

pub record HasTakenNone (bytes : List ℕ) (old new : StreamJudge) : Type 0 where
  pub is_part : IsPart old.judge bytes
  pub same : new ≡ old

-- the bytes that it keeps are the same
abbrev pub KeepsPart : StreamJudge → StreamJudge → Type 0
KeepsPart old new = new.part ≡ old.part

-- so many more calls began, and were withdrawn
pub record Counts (begun withdrawn : ℕ) (old new : StreamJudge) : Type 0 where
  pub begun_is : new.begun ≡ old.begun + begun
  pub withdrawn_is : new.withdrawn ≡ old.withdrawn + withdrawn
  pub others : (new.most ≡ old.most) × (new.ahead ≡ old.ahead) × (new.part ≡ old.part) × (new.judge ≡ old.judge) ×
      (new.found ≡ old.found)

abbrev pub AreCounted : Event → StreamJudge → StreamJudge → Type 0
AreCounted (Begins lane call) old new = Counts 1 0 old new
AreCounted (Returns lane reply) old new = Counts 0 0 old new
AreCounted (Withdraws lane) old new = Counts 0 1 old new

-- the judge of the run was made by this header
pub record IsOpened (header : Header) (old new : StreamJudge) : Type 0 where
  pub inner : RunJudge
  pub is : IsNewRunJudge header old.most old.ahead inner
  pub new_is : new ≡ record old { judge = Some inner }

-- the last eight bytes of a header are taken: they say how many words the record has, or not
pub record HasTakenWidth (limits : Bounds) (bytes rest : List ℕ) (old new : StreamJudge) : Type 0 where
  pub unit : List ℕ
  pub many : length unit ≡ 8
  pub parts : bytes ≡ unit ++ rest
  pub then_is : ((width : ℕ) × HasWidth width unit × IsOpened (record { limits = limits; width = Some width }) old
      new) ⊎
      (((width : ℕ) → ¬ HasWidth width unit) × (new ≡ record old { found = Some (found.BadHeader Width) }))

-- the bytes of an event are taken once this one, which is the same by the numbers of its contents, was given to the
-- judge
abbrev pub TakesEvent : Event → StreamJudge → StreamJudge → Type 0
TakesEvent small old new = (inner : RunJudge) (e : Event) (bytes : List ℕ) → old.judge ≡ Some inner →
    HasBytes inner.width e bytes → IsEventBy inner.names e small → IsOneMore bytes old new

-- so are 16 that are no event's first ones
abbrev pub TakesNoEvent : BadEvent → StreamJudge → StreamJudge → Type 0
TakesNoEvent fault old new = (inner : RunJudge) (bytes : List ℕ) → old.judge ≡ Some inner → length bytes ≡ 16 →
    IsNoEvent inner.width fault bytes → IsOneMore bytes old new

-- the bytes are the first ones of events of the stream
abbrev pub IsFrontFor : Option RunJudge → List ℕ → Front → Type 0
IsFrontFor None bytes told = ⊥
IsFrontFor (Some inner) bytes told = IsFrontIn inner.width bytes told
