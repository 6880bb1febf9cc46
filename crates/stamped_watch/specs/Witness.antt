-- Witnesses: small histories that are stuck where a run is.
use Rattle.std.specs.Prelude.{ℕ, ◌≡◌, ◌+◌, ◌-◌, ◌++◌, ◌∷◌, [], List, length, map, take, min, slice_get, unwrap_or}
use Rattle.std.specs.Prelude.{Bool, true, Option, Some, None, option_and_then}
use Rattle.std.specs.Prelude.{Result, Ok, Err, Vec}
use Rattle.std.specs.declared.alloc.Global.{Global}
use Rattle.stamp_cli.specs.Shell.{SinkView}
use Rattle.stamp_cli.specs.declared.shell.Lack.{Lack}
use Rattle.stamp_cli.specs.declared.shell.Lack.TheVariants as told
use Rattle.stamp_core.specs.Limits.{Bounds}
use Rattle.stamp_core.specs.Word.{word_at}
use Rattle.stamp_core.specs.declared.reply.Reply.{Reply}
use Rattle.stamp_explain.specs.declared.observed.Observation.{Observation}
use Rattle.stamp_explain.specs.declared.observed.Returned.{Returned}
use Rattle.stamp_explain.specs.Observed.{ObservedHistory}
use Rattle.stamp_observed.specs.Behind.{IsSought, IsStuckWith}
use Rattle.stamp_observed.specs.declared.behind.Sought.{Sought}
use Rattle.stamp_observed.specs.declared.opening.State.{State}
use Rattle.stamp_observed.specs.ObservedText.{observed_text}
use Rattle.stamp_watch.specs.declared.ended_call.EndedCall.{EndedCall}
use Rattle.stamp_watch.specs.declared.online.Judge.{Judge}
use Rattle.stamp_watch.specs.Names.{words_in}
use Rattle.stamp_watch.specs.Start.{content_of, starts_of, waiting_of, word_of}
use Rattle.stamped_watch.specs.Calls.{Told, observation_by, told_along, told_beside, told_end}
use Rattle.stamped_watch.specs.declared.finding.Finding.{Finding}
use Rattle.stamped_watch.specs.declared.finding.Finding.TheVariants.{Stuck}
use Rattle.stamped_watch.specs.declared.orders.Watching.{Watching}
use Rattle.stamped_watch.specs.declared.run_judge.RunJudge.{RunJudge}
use Rattle.stamped_watch.specs.declared.witness.NoWitness.{NoWitness}
use Rattle.stamped_watch.specs.declared.witness.NoWitness.TheVariants as lack
use Rattle.stamped_watch.specs.declared.witness.Shown.{Shown}
use Rattle.stamped_watch.specs.declared.witness.Shown.TheVariants.{NotDue, Given}
use Rattle.stamped_watch.specs.Note.{EndsThere}
use Rattle.stamped_watch.specs.Possible.{BeganLate, KeepsOf}
use Rattle.stamped_watch.specs.Progress.{IsWritten}
use Rattle.stamped_watch.specs.StreamJudge.{IsEndBy, ended_of}

-- so many starts are tried at most
abbrev pub most_starts : ℕ
most_starts = 64

-- so many positions are kept at most where one is sought
abbrev pub most_searched : ℕ
most_searched = 16384

-- the observed call is the one that ended, by a return
pub record IsCallOf (ended : EndedCall) (e : Observation) : Type 0 where
  pub thread : e.thread ≡ ended.lane
  pub call : e.call ≡ ended.call
  pub return : Returned
  pub returned : e.returned ≡ Some return
  pub reply : ended.reply ≡ Some return.reply

-- the history is stuck at the return of the call that ended, with stamps renumbered
pub record IsWitnessOf (limits : Bounds) (width : ℕ) (ended : EndedCall) (small : ObservedHistory) : Type 0 where
  pub call : Observation
  pub call_is : IsCallOf ended call
  pub stuck : IsStuckWith limits width call small

-- the text of such a one, with a line feed
pub record IsWitnessText (limits : Bounds) (width : ℕ) (ended : EndedCall) (text : List ℕ) : Type 0 where
  pub small : ObservedHistory
  pub witness : IsWitnessOf limits width ended small
  pub text_is : text ≡ observed_text small ++ 10 ∷ []

-- how many words the record has that an observed history tells of; with none it tells of no record
abbrev pub width_told : Option ℕ → ℕ
width_told width = unwrap_or width 0

-- what is told of the calls up to the event of this number, from a start on
abbrev pub told_before : Judge → ℕ → ℕ → Told
told_before judge number start =
    told_along (waiting_of judge.course.base start) (take (number - judge.course.first) judge.course.events.items)

-- what the record holds at a start, in words; of a stream without data that isn't told
abbrev pub content_at : RunJudge → Judge → ℕ → Option (List ℕ)
content_at run judge start = option_and_then (λ (width : ℕ).
    option_and_then (λ (number : ℕ). slice_get run.names number) (content_of judge.course.base start)) run.width

abbrev pub state_at : RunJudge → Judge → ℕ → ℕ → State
state_at run judge start word =
    record { word = word_at judge.course.base.limits word; content = content_at run judge start }

-- a small history was sought that is stuck at the call that ended there, behind lock and record at this start, of all
-- other calls that are told from there on, in words, where no more than so many positions are kept
pub record IsSoughtFrom (run : RunJudge) (judge : Judge) (number : ℕ) (ended : EndedCall) (most start : ℕ)
    (sought : Sought) : Type 0 where
  pub word : ℕ
  pub of_start : word_of judge.course.base start ≡ Some word
  pub reply : Reply
  pub reply_is : ended.reply ≡ Some reply
  pub so : IsSought judge.course.base.limits (width_told run.width) (state_at run judge start word)
      (map (observation_by (words_in run.names)) (told_beside ended.lane (told_before judge number start)))
      (told_end ended reply (told_before judge number start)) most sought

-- so it was from each start, of which the first has this number
abbrev pub AreSoughtOn : RunJudge → Judge → ℕ → EndedCall → ℕ → ℕ → List Sought → Type 0
AreSoughtOn run judge number ended most start [] = Unit {0}
AreSoughtOn run judge number ended most start (sought ∷ others) =
    IsSoughtFrom run judge number ended most start sought ×
    AreSoughtOn run judge number ended most (start + 1) others

-- none was found from the first 64 starts, or from all
pub record AreInVain (run : RunJudge) (judge : Judge) (number : ℕ) (ended : EndedCall) (most : ℕ)
    (sought : List Sought) : Type 0 where
  pub each : AreSoughtOn run judge number ended most 0 sought
  pub all : length sought ≡ min (starts_of judge.course.base) most_starts

-- why there is no witness of the call that ended at the event of this number
abbrev pub IsLackingHere : RunJudge → Judge → ℕ → EndedCall → ℕ → NoWitness → Type 0
IsLackingHere run judge number ended most lack.BeganLate = ⊥
IsLackingHere run judge number ended most lack.Withdrawn = ended.reply ≡ None
IsLackingHere run judge number ended most (lack.NotFound sought) =
    AreInVain run judge number ended most sought.items
IsLackingHere run judge number ended most lack.Memory = Unit {0}

-- the text of a witness of the call that ended, or why there is none
abbrev pub IsTextHere : RunJudge → Judge → ℕ → EndedCall → ℕ → Result (Vec ℕ Global) NoWitness → Type 0
IsTextHere run judge number ended most (Ok text) =
    IsWitnessText judge.course.base.limits (width_told run.width) ended text.items
IsTextHere run judge number ended most (Err why) = IsLackingHere run judge number ended most why

-- the text of a witness of the call that the event with this number ends in the stream of these bytes
pub record IsTextIn (bytes : List ℕ) (number : ℕ) (text : List ℕ) : Type 0 where
  pub ended : EndedCall
  pub there : EndsThere bytes number ended
  pub text_is : IsWitnessText there.header.limits (width_told there.header.width) ended text

-- what the judge keeps is of these bytes, with the call that ends at the event of this number, by the numbers of its
-- contents: a witness was sought from its starts, and none was found
pub record IsSoughtInVain (asked : Watching) (bytes : List ℕ) (k : ℕ) (sought : List Sought) : Type 0 where
  pub inner : RunJudge
  pub keeps : KeepsOf asked.most asked.ahead bytes inner
  pub small : EndedCall
  pub kept : ended_of inner.judge k ≡ Some small
  pub ended : EndedCall
  pub by_number : IsEndBy inner.names ended small
  pub there : EndsThere bytes k ended
  pub in_vain : AreInVain inner inner.judge.delay.judge k ended (min asked.most most_searched) sought

-- the call that ends there was withdrawn
pub record IsWithdrawnAt (bytes : List ℕ) (k : ℕ) : Type 0 where
  pub ended : EndedCall
  pub there : EndsThere bytes k ended
  pub no_reply : ended.reply ≡ None

-- why there is no witness that the stream is stuck at the event of this number
abbrev pub IsLacking : Watching → List ℕ → ℕ → NoWitness → Type 0
IsLacking asked bytes k lack.BeganLate = BeganLate asked.ahead bytes k
IsLacking asked bytes k lack.Withdrawn = IsWithdrawnAt bytes k
IsLacking asked bytes k (lack.NotFound sought) = IsSoughtInVain asked bytes k sought.items
IsLacking asked bytes k lack.Memory = Unit {0}

-- the text of one, or why there is none
abbrev pub IsText : Watching → List ℕ → ℕ → Result (Vec ℕ Global) NoWitness → Type 0
IsText asked bytes k (Ok text) = IsTextIn bytes k text.items
IsText asked bytes k (Err why) = IsLacking asked bytes k why

-- the text of a witness was written
pub record HasGiven (bytes : List ℕ) (k : ℕ) (old new : SinkView) : Type 0 where
  pub text : List ℕ
  pub is : IsTextIn bytes k text
  pub written : IsWritten text old.sent new.sent old.writes new.writes

-- where a witness is due
abbrev pub HasShownAt : Watching → List ℕ → ℕ → SinkView → SinkView → Result Shown NoWitness → Type 0
HasShownAt asked bytes k old new (Ok NotDue) = ⊥
HasShownAt asked bytes k old new (Ok Given) = HasGiven bytes k old new
HasShownAt asked bytes k old new (Err why) = (new ≡ old) × IsLacking asked bytes k why

-- one is due if it is asked for and the stream is stuck
abbrev pub HasShownIf : Bool → Watching → List ℕ → Finding → SinkView → SinkView → Result Shown NoWitness → Type 0
HasShownIf true asked bytes (Stuck k) old new shown = HasShownAt asked bytes k old new shown
HasShownIf on asked bytes finding old new shown = (new ≡ old) × (shown ≡ Ok NotDue)

abbrev pub HasShown : Watching → List ℕ → Finding → SinkView → SinkView → Result Shown NoWitness → Type 0
HasShown asked bytes finding old new shown = HasShownIf asked.witness asked bytes finding old new shown

-- what is told of why there is no witness
abbrev pub lack_of : Result Shown NoWitness → Option Lack
lack_of (Ok shown) = None
lack_of (Err lack.BeganLate) = Some told.BeganLate
lack_of (Err lack.Withdrawn) = Some told.Withdrawn
lack_of (Err (lack.NotFound sought)) = Some told.NotFound
lack_of (Err lack.Memory) = Some told.Memory
