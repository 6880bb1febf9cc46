-- Which replies were possible where a stream is stuck.
use Rattle.std.specs.Prelude.{ℕ, ◌≡◌, ◌≤◌, ◌-◌, ◌++◌, List, [], ◌∷◌, Option, Some, None, Vec, codes}
use Rattle.std.specs.List.{flat_map}
use Rattle.std.specs.declared.alloc.Global.{Global}
use Rattle.stamp_core.specs.Texts.{reply_text}
use Rattle.stamp_core.specs.declared.call.Call.{Call}
use Rattle.stamp_core.specs.declared.reply.Reply.{Reply}
use Rattle.stamp_runs.specs.declared.event.Event.{Event}
use Rattle.stamp_sets.specs.declared.small_call.SmallReply.{SmallReply}
use Rattle.stamp_watch.specs.declared.ended_call.EndedCall.{EndedCall}
use Rattle.stamp_watch.specs.Possible.{ArePossibleAmong, AreTooManyWith, plain_replies}
use Rattle.stamp_watch.specs.PossibleLate.{KeepsLater}
use Rattle.stamp_watch.specs.Verdict.{IsOpenFor}
use Rattle.stamped_watch.specs.declared.header.Header.{Header}
use Rattle.stamped_watch.specs.declared.run_judge.RunJudge.{RunJudge}
use Rattle.stamped_watch.specs.Stream.{IsRunBy, IsRunIn}

-- the bytes are a header, events and a rest; what the judge of the run keeps is of those. More than so many positions
-- are too many for it, and a call begins later that is open for all but 64 of so many events
pub record KeepsOf (most ahead : ℕ) (bytes : List ℕ) (inner : RunJudge) : Type 0 where
  pub header : Header
  pub run : List Event
  pub rest : List ℕ
  pub stream : IsRunBy inner.names bytes header run rest
  pub width_is : inner.width ≡ header.width
  pub keeps : KeepsLater header.limits run inner.judge
  pub most_is : inner.judge.delay.judge.most ≡ most
  pub window : inner.judge.delay.ahead ≡ ahead - 64

-- of all replies that the call may be given these are the possible ones, at the event of this number in the stream
pub record ArePossibleAt (bytes : List ℕ) (k : ℕ) (call : Call) (found : List Reply) : Type 0 where
  pub header : Header
  pub run : List Event
  pub rest : List ℕ
  pub stream : IsRunIn bytes header run rest
  pub tried : List SmallReply
  pub are : plain_replies header.limits call ≡ Some tried
  pub among : ArePossibleAmong header.limits run k tried found

-- the call is given stamps
pub record IsGivenStamps (bytes : List ℕ) (call : Call) : Type 0 where
  pub header : Header
  pub run : List Event
  pub rest : List ℕ
  pub stream : IsRunIn bytes header run rest
  pub not_plain : plain_replies header.limits call ≡ None

-- a call that begins no later than at the event of this number is open for all but 64 of so many events: it began late
pub record BeganLate (ahead : ℕ) (bytes : List ℕ) (k : ℕ) : Type 0 where
  pub header : Header
  pub run : List Event
  pub rest : List ℕ
  pub stream : IsRunIn bytes header run rest
  pub first : ℕ
  pub by : first ≤ k
  pub open_for : IsOpenFor run first (ahead - 64)

-- with one of the replies that the call may be given more than so many positions are possible
pub record AreTooManyAt (most : ℕ) (bytes : List ℕ) (k : ℕ) (call : Call) : Type 0 where
  pub header : Header
  pub run : List Event
  pub rest : List ℕ
  pub stream : IsRunIn bytes header run rest
  pub tried : List SmallReply
  pub are : plain_replies header.limits call ≡ Some tried
  pub too_many : AreTooManyWith header.limits run k most tried

-- why no replies are told of the call that ends at the event of this number
pub data AreUntold (most ahead : ℕ) (bytes : List ℕ) (k : ℕ) (ended : EndedCall) : Type 0 where
  given_stamps : IsGivenStamps bytes ended.call → AreUntold most ahead bytes k ended
  withdrawn : ended.reply ≡ None → AreUntold most ahead bytes k ended
  began_late : BeganLate ahead bytes k → AreUntold most ahead bytes k ended
  too_many : AreTooManyAt most bytes k ended.call → AreUntold most ahead bytes k ended

-- the replies that it could have had are told, or there is a cause that they aren't
abbrev pub AreToldOf : ℕ → ℕ → List ℕ → ℕ → EndedCall → Option (List Reply) → Type 0
AreToldOf most ahead bytes k ended None = AreUntold most ahead bytes k ended
AreToldOf most ahead bytes k ended (Some found) = ArePossibleAt bytes k ended.call found

abbrev pub items_in : Option (Vec Reply Global) → Option (List Reply)
items_in None = None
items_in (Some replies) = Some replies.items

abbrev pub others_text : List Reply → List ℕ
others_text replies = flat_map (λ (r : Reply). codes ", " ++ reply_text r) replies

-- what is told of them
abbrev pub possible_text : Option (List Reply) → List ℕ
possible_text None = []
possible_text (Some []) = codes "; no reply was found possible"
possible_text (Some (r ∷ replies)) = codes "; possible: " ++ (reply_text r ++ others_text replies)
