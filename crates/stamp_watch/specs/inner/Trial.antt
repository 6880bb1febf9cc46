-- How other replies are tried at a return of an observed history.
use Rattle.std.specs.Prelude.{ℕ, ◌≡◌, ◌≢◌, ◌⊎◌, ◌<◌, ◌≤◌, ◌==◌, ◌↔◌, ◌++◌, true}
use Rattle.std.specs.Prelude.{false, Bool, IsTrue, List, [], ◌∷◌}
use Rattle.std.specs.Prelude.{Option, Some, None, MatchOption, drop, length, map, slice_get, take, if◌then◌else◌}
use Rattle.std.specs.List.{All, AllPairs, AllZip, Contains}
use Rattle.stamp_core.specs.Limits.{Bounds}
use Rattle.stamp_core.specs.declared.reply.Reply.{Reply}
use Rattle.stamp_explain.specs.Observed.{ObservedHistory, IsObserved, IsReturnAt}
use Rattle.stamp_explain.specs.Possible.{IsPossible}
use Rattle.stamp_runs.specs.BothRun.{AreExplained}
use Rattle.stamp_runs.specs.Names.{EachOfEvent, EachOfReply, event_by, reply_by}
use Rattle.stamp_runs.specs.declared.event.Event.{Event}
use Rattle.stamp_runs.specs.declared.event.Event.TheVariants.{Begins, Returns, Withdraws}
use Rattle.stamp_sets.specs.SmallCall.{reply_of}
use Rattle.stamp_sets.specs.declared.small_call.SmallReply.{SmallReply}
use Rattle.stamp_watch.specs.AsEvents.{AreMomentsOf, IsEventAt, return_of}
use Rattle.stamp_watch.specs.Form.{is_busy_after}
use Rattle.stamp_watch.specs.Judging.{IsJudging}
use Rattle.stamp_watch.specs.Names.{AreContents, IsNamed, IsWide, name_in}
use Rattle.stamp_watch.specs.ReplyLaws.{IsContentOf}
use Rattle.stamp_watch.specs.Verdict.{AreOfLanes, IsTooManyAt}
use Rattle.stamp_watch.specs.declared.moments.Moment.{Moment}
use Rattle.stamp_watch.specs.declared.trial.Base.{Base}
use Rattle.stamp_watch.specs.declared.trial.Trial.{Trial}

-- how many words the names are for; without a record they are for one
abbrev pub words_beside : ℕ → ℕ
words_beside width = if width == 0 then 1 else width

-- a return tells a reply whose content the record may hold; other events tell none
abbrev pub TellsKnown : ℕ → Event → Type 0
TellsKnown width (Begins lane call) = Unit {0}
TellsKnown width (Returns lane reply) = EachOfReply (IsContentOf width) reply
TellsKnown width (Withdraws lane) = Unit {0}

-- a content has a number here; without a record there is none
pub record IsTold (width : ℕ) (contents : List (List ℕ)) (words : List ℕ) : Type 0 where
  pub some : 1 ≤ width
  pub named : IsNamed contents words

-- the events at these moments, by the numbers of their contents
pub record AreNumbered (h : ObservedHistory) (moments : List Moment) (contents : List (List ℕ)) (run : List Event) :
    Type 0 where
  pub events : List Event
  pub are : AllZip (IsEventAt h.entries) moments events
  pub told : All (EachOfEvent (IsTold h.width contents)) events
  pub run_is : run ≡ map (event_by (name_in contents)) events

-- the event is a return with a content of another width than the record's
abbrev pub IsForeign : ℕ → Event → Type 0
IsForeign width (Begins lane call) = ⊥
IsForeign width (Returns lane reply) = ¬ EachOfReply (IsWide width) reply
IsForeign width (Withdraws lane) = ⊥

-- the events at the first of these moments, by the numbers of their contents; at the next, if there is one, a call
-- returns with a content of another width
pub record AreNumberedSoFar (h : ObservedHistory) (moments : List Moment) (contents : List (List ℕ))
    (run : List Event) : Type 0 where
  pub numbered : AreNumbered h (take (length run) moments) contents run
  pub foreign : (m : Moment) (event : Event) → slice_get moments (length run) ≡ Some m →
      IsEventAt h.entries m event → IsForeign h.width event

-- at one of these moments a call returns with such a content
pub record HasForeign (h : ObservedHistory) (moments : List Moment) : Type 0 where
  pub index : ℕ
  pub at : IsReturnAt h.entries index
  pub there : Contains moments (return_of index at.return)
  pub foreign : ¬ EachOfReply (IsWide h.width) at.return.reply

-- at this place the call of the entry returns, or begins
pub record IsPlaceOf (moments : List Moment) (i : ℕ) (is_return : Bool) (k : ℕ) : Type 0 where
  pub moment : Moment
  pub there : slice_get moments k ≡ Some moment
  pub its_entry : moment.entry ≡ i
  pub its_kind : moment.is_return ≡ is_return

abbrev pub HasPlaceOf : List Moment → ℕ → Bool → Type 0
HasPlaceOf moments i is_return = (k : ℕ) × IsPlaceOf moments i is_return k

-- the call of this lane may return behind the run
pub record MayReturn (run : List Event) (lane : ℕ) : Type 0 where
  pub whole : AreOfLanes run
  pub taken : is_busy_after run lane ≡ true
  pub low : lane < 64

-- a watch behind so many of the events, none or all before the place
pub record IsBaseOf (limits : Bounds) (events : List Event) (place : ℕ) (base : Base) : Type 0 where
  pub where_is : (base.place ≡ 0) ⊎ (base.place ≡ place)
  pub judging : IsJudging limits base.place (take base.place events) (drop base.place events) base.watch

-- so many of the events were seen, and the call of the lane may return behind all with any reply
pub record IsTrial (limits : Bounds) (trial : Trial) : Type 0 where
  pub may : MayReturn trial.events.items trial.lane
  pub within : trial.first ≤ length trial.events.items
  pub free : is_busy_after (take trial.first trial.events.items) trial.lane ≡ false
  pub judging : IsJudging limits trial.first (take trial.first trial.events.items)
      (drop trial.first trial.events.items) trial.base

abbrev pub IsTrialOfSome : Trial → Type 0
IsTrialOfSome trial = (limits : Bounds) × IsTrial limits trial

-- the run with this reply at its end
abbrev pub with_return : Trial → SmallReply → List Event
with_return trial reply = trial.events.items ++ Returns trial.lane (reply_of reply) ∷ []

-- whether it is explained, or that too many positions are possible before some event
abbrev pub IsTried : Bounds → Trial → SmallReply → Option Bool → Type 0
IsTried limits trial reply (Some b) = IsTrue b ↔ AreExplained limits (with_return trial reply)
IsTried limits trial reply None = (place : ℕ) × IsTooManyAt limits (with_return trial reply) trial.most place

-- the run up to the return of this entry, by these numbers of contents
pub record IsTrialAt (h : ObservedHistory) (i most : ℕ) (contents : List (List ℕ)) (trial : Trial) : Type 0 where
  pub observed : IsObserved h
  pub at : IsReturnAt h.entries i
  pub moments : List Moment
  pub moments_are : AreMomentsOf h.entries moments
  pub place : ℕ
  pub there : slice_get moments place ≡ Some (return_of i at.return)
  pub contents_are : AreContents (words_beside h.width) contents
  pub numbered : AreNumbered h (take place moments) contents trial.events.items
  pub trial_is : IsTrial h.limits trial
  pub its_lane : trial.lane ≡ at.entry.thread
  pub its_most : trial.most ≡ most

-- so it is for some entry
abbrev pub IsTrialOf : ObservedHistory → List (List ℕ) → Trial → Type 0
IsTrialOf h contents trial = (i : ℕ) × (most : ℕ) × IsTrialAt h i most contents trial

-- or no reply is possible there
abbrev pub IsTrialOrNone : ObservedHistory → ℕ → ℕ → List (List ℕ) → Option Trial → Type 0
IsTrialOrNone h i most contents trial =
    MatchOption trial ((reply : Reply) → ¬ IsPossible h i reply) (IsTrialAt h i most contents)

-- the reply has this number among the contents
pub record IsReplyIn (h : ObservedHistory) (contents : List (List ℕ)) (reply : Reply) (small : SmallReply) : Type 0
  where
    pub told : EachOfReply (IsTold h.width contents) reply
    pub small_is : reply_of small ≡ reply_by (name_in contents) reply

-- the reply with this number that is possible; or none is
pub record IsFoundReply (h : ObservedHistory) (i : ℕ) (contents : List (List ℕ)) (small : SmallReply)
    (reply : Reply) : Type 0 where
  pub possible : IsPossible h i reply
  pub its_number : IsReplyIn h contents reply small

abbrev pub IsFoundOrNone : ObservedHistory → ℕ → List (List ℕ) → SmallReply → Option Reply → Type 0
IsFoundOrNone h i contents small found =
    MatchOption found ((reply : Reply) → IsReplyIn h contents reply small → ¬ IsPossible h i reply)
    (IsFoundReply h i contents small)

-- a reply with one of these numbers that is possible
abbrev pub IsFoundIn : ObservedHistory → ℕ → List (List ℕ) → List SmallReply → Reply → Type 0
IsFoundIn h i contents tried reply =
    (small : SmallReply) × (Contains tried small × IsFoundReply h i contents small reply)

-- of the replies with one of these numbers the possible ones are found, each once if the numbers are all different
pub record AreFound (h : ObservedHistory) (i : ℕ) (contents : List (List ℕ)) (tried : List SmallReply)
    (found : List Reply) : Type 0 where
  pub only : All (IsFoundIn h i contents tried) found
  pub whole : (small : SmallReply) → Contains tried small → (reply : Reply) → IsReplyIn h contents reply small →
      IsPossible h i reply → Contains found reply
  pub once : AllPairs (λ (a b : SmallReply). a ≢ b) tried → AllPairs (λ (a b : Reply). a ≢ b) found
