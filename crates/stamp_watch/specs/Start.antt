-- Where the events begin that a judge keeps, and whether a judge of late calls has the events up to one as they came.
use Rattle.std.specs.Prelude.{ℕ, ◌≡◌, ◌≤◌, ◌*◌, ◌/◌, ◌%◌, ◌==◌, ◌&&◌, not, nat_lt, length, MatchOption}
use Rattle.std.specs.Prelude.{Option, Some, None, if◌then◌else◌, option_map, option_and_then}
use Rattle.stamp_core.specs.declared.call.Call.{Call}
use Rattle.stamp_sets.specs.declared.watch.Watch.{Watch}
use Rattle.stamp_sets.specs.Positions as sets
use Rattle.stamp_sets.specs.SmallCall.{call_of}
use Rattle.stamp_watch.specs.declared.late.LateJudge.{LateJudge}
use Rattle.stamp_watch.specs.declared.online.Judge.{Judge}
use Rattle.stamp_watch.specs.declared.start.Start.{Start}

abbrev pub words_of : Watch → ℕ
words_of watch = length watch.lock.positions.items

abbrev pub contents_of : Watch → ℕ
contents_of watch = length watch.record.positions.items

-- a start is a position of the lock with one of the record
abbrev pub starts_of : Watch → ℕ
starts_of watch = contents_of watch * words_of watch

-- their places at the start with this number, if there is such a start
abbrev pub place_of : Watch → ℕ → Option Start
place_of watch start = if not (words_of watch == 0) && nat_lt (start / words_of watch) (contents_of watch)
    then Some (record { word = start % words_of watch; content = start / words_of watch })
    else None

abbrev pub word_of : Watch → ℕ → Option ℕ
word_of watch start = option_and_then (λ (at : Start). sets.word_of watch at.word) (place_of watch start)

abbrev pub content_of : Watch → ℕ → Option ℕ
content_of watch start = option_and_then (λ (at : Start). sets.content_of watch at.content) (place_of watch start)

abbrev pub waiting_of : Watch → ℕ → ℕ → Option Call
waiting_of watch start lane = option_map call_of (option_and_then
    (λ (at : Start). sets.waiting_of watch at.word at.content lane) (place_of watch start))

-- a call that begins no later than at the event with this number was put aside
abbrev pub BeganLateBy : LateJudge → ℕ → Type 0
BeganLateBy judge number = MatchOption judge.delay.first_late ⊥ (λ (first : ℕ). first ≤ number)

-- it is the judge inside, and none was
pub record IsJudgeUpTo (judge : LateJudge) (number : ℕ) (inner : Judge) : Type 0 where
  pub is : inner ≡ judge.delay.judge
  pub none : ¬ BeganLateBy judge number
