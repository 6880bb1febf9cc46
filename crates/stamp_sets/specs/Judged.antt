-- Objects whose states, calls and replies are told by numbers: the lock, and the record that it guards.
use Rattle.std.specs.Prelude.{ℕ, ◌≡◌, Bool, true, false, List, [], ◌∷◌, Option, Some, None}
use Rattle.stamp_core.specs.LockEvent.{LockEvent}
use Rattle.stamp_core.specs.Limits.{Bounds}
use Rattle.stamp_core.specs.Word.{Represents, word_at}
use Rattle.stamp_runs.specs.Object.{LockStep, Object, RecordStep}
use Rattle.stamp_core.specs.declared.lock_decision.LockReply.TheVariants.{Done}
use Rattle.stamp_sets.specs.declared.ending.Ending.{Ending}
use Rattle.stamp_sets.specs.declared.ending.Ending.TheVariants.{Returns, Withdraws, Never}
use Rattle.stamp_sets.specs.declared.object.Object as judging
use Rattle.stamp_sets.specs.declared.object.Object.TheVariants.{Lock, Record}
use Rattle.stamp_sets.specs.declared.open_call.OpenCall.{OpenCall}
use Rattle.stamp_sets.specs.declared.small_call.SmallCall.{SmallCall}
use Rattle.stamp_sets.specs.declared.small_call.SmallCall.TheVariants.{Put}
use Rattle.stamp_sets.specs.declared.small_call.SmallReply.TheVariants.{OfLock}

-- how it answers, what it is at first, and which numbers tell a state; the number of the state that an open call leaves
-- wherever it takes effect, if it leaves one; and whether any call does so
pub record Judged (S : Type 0) : Type 1 where
  pub step : Object S
  pub start : S
  pub holds : ℕ → S → Type 0
  pub overwrites : OpenCall → Option ℕ
  pub frees : Bool

-- the lock, by the numbers of its words
abbrev pub lock : Bounds → Judged (List LockEvent)
lock limits = record {
  step = LockStep limits;
  start = [];
  holds = λ number events. Represents limits (word_at limits number) events;
  overwrites = λ begun. None;
  frees = false;
}

-- it may be answered done
abbrev pub may_be_done : Ending → Bool
may_be_done (Returns (OfLock Done) place) = true
may_be_done (Returns _ place) = false
may_be_done Withdraws = false
may_be_done Never = true

-- the number that a put leaves, if it may be answered
abbrev pub left_by : SmallCall → Bool → Option ℕ
left_by (Put number) true = Some number
left_by _ _ = None

-- a guarded record, by the numbers of its contents: each is one word
abbrev pub guarded : Judged (List ℕ)
guarded = record {
  step = RecordStep;
  start = 0 ∷ [];
  holds = λ number content. content ≡ number ∷ [];
  overwrites = λ begun. left_by begun.asks (may_be_done begun.ends);
  frees = true;
}

-- the states of a lock are its events so far, and those of a record its contents
abbrev pub state_of : judging.Object → Type 0
state_of (Lock limits) = List LockEvent
state_of Record = List ℕ

abbrev pub judged : (object : judging.Object) → Judged (state_of object)
judged (Lock limits) = lock limits
judged Record = guarded
