-- A call whose reply tells that it changes nothing changes nothing.
use Rattle.std.proofs.Common.{◌≡◌, ℕ, ◌<◌, ◌≤◌, ◌==◌, true, List, [], refl, ◌∙◌, ap, arith}
use Rattle.std.specs.Prelude.{◌||◌, ◌++◌}
use Rattle.std.proofs.lemmas.List.{append-nil}
use Rattle.std.proofs.lemmas.Bool.Decides.{nat_tests}
use Rattle.std.proofs.lemmas.Bool.{false≢true}
use Rattle.stamp_core.specs.LockEvent.{LockEvent, Counts, counts}
use Rattle.stamp_core.specs.Layout.{Units, units_of}
use Rattle.stamp_core.specs.Limits.{Bounds, units}
use Rattle.stamp_core.specs.Transition.{row}
use Rattle.stamp_core.specs.History.{appended_by, Replies}
use Rattle.stamp_core.specs.declared.layout.Layout.{Layout}
use Rattle.stamp_core.specs.declared.call.Call.{Call}
use Rattle.stamp_core.specs.declared.call.Call.TheVariants.{TryWrite, TryRead, WriteLock, ReadLock}
use Rattle.stamp_core.specs.declared.call.Call.TheVariants.{UnlockWrite, UnlockRead, Unlock, ToWrite}
use Rattle.stamp_core.specs.declared.call.Call.TheVariants.{ToRead, ToOptimistic, TryUnlockWrite, TryUnlockRead}
use Rattle.stamp_core.specs.declared.call.Call.TheVariants.{Get, Put, PutIf}
use Rattle.stamp_core.specs.declared.reply.Reply.{Reply}
use Rattle.stamp_core.specs.declared.reply.Reply.TheVariants.{Stamp, No, Mismatch}
use Rattle.stamp_core.proofs.TwoLayouts.{either_layout}
use Rattle.stamp_runs.specs.Object.{LockStep}
use Rattle.stamp_sets.specs.Unchanging.{changes_nothing}

-- what the units are to one another
record AreLaidOut (u : Units) : Type 0 where
  writer : 1 ≤ u.writer
  readers : u.readers < u.writer
  version : u.writer < u.version

laid_out : (l : Layout) → AreLaidOut (units_of l)
laid_out l = omega (arith, either_layout l)

-- where it has this reply, the call appends nothing: stamps that are acquired are not 0, and a conversion changes to
-- a stamp of another number
Stays : Bounds → Counts → Call → Reply → Type 0
Stays l c call reply = Replies (row l c call) reply → appended_by (row l c call) ≡ []

module _ (l : Bounds) (c : Counts) where
  try_write_stays : (s : ℕ) → AreLaidOut (units l) → (s == 0) ≡ true → Stays l c TryWrite (Stamp s)
  unfolding Stays
  try_write_stays s are h replies = grind (arith, nat_tests)

  try_read_stays : (s : ℕ) → AreLaidOut (units l) → (s == 0) ≡ true → Stays l c TryRead (Stamp s)
  unfolding Stays
  try_read_stays s are h replies = grind (arith, nat_tests)

  write_lock_stays : (s : ℕ) → AreLaidOut (units l) → (s == 0) ≡ true → Stays l c WriteLock (Stamp s)
  unfolding Stays
  write_lock_stays s are h replies = grind (arith, nat_tests)

  to_write_stays : (s r : ℕ) → AreLaidOut (units l) → ((r == 0) || (r == s)) ≡ true → Stays l c (ToWrite s) (Stamp r)
  unfolding Stays
  to_write_stays s r are h replies = grind (arith, nat_tests)

  to_read_stays : (s r : ℕ) → AreLaidOut (units l) → ((r == 0) || (r == s)) ≡ true → Stays l c (ToRead s) (Stamp r)
  unfolding Stays
  to_read_stays s r are h replies = grind (arith, nat_tests)

  to_optimistic_stays : (s r : ℕ) → AreLaidOut (units l) → ((r == 0) || (r == s)) ≡ true →
      Stays l c (ToOptimistic s) (Stamp r)
  unfolding Stays
  to_optimistic_stays s r are h replies = grind (arith, nat_tests)

  row_stays : (call : Call) (reply : Reply) → AreLaidOut (units l) → changes_nothing call reply ≡ true →
      Stays l c call reply
  unfolding Stays
  row_stays TryWrite (Stamp s) are h = try_write_stays s are h
  row_stays TryWrite _ are h = absurd (false≢true h)
  row_stays TryRead (Stamp s) are h = try_read_stays s are h
  row_stays TryRead _ are h = absurd (false≢true h)
  row_stays WriteLock (Stamp s) are h = write_lock_stays s are h
  row_stays WriteLock _ are h = absurd (false≢true h)
  row_stays ReadLock _ are h = absurd (false≢true h)
  row_stays (UnlockWrite s) Mismatch are h = λ replies. grind (arith, nat_tests)
  row_stays (UnlockWrite s) _ are h = absurd (false≢true h)
  row_stays (UnlockRead s) Mismatch are h = λ replies. grind (arith, nat_tests)
  row_stays (UnlockRead s) _ are h = absurd (false≢true h)
  row_stays (Unlock s) Mismatch are h = λ replies. grind (arith, nat_tests)
  row_stays (Unlock s) _ are h = absurd (false≢true h)
  row_stays (ToWrite s) (Stamp r) are h = to_write_stays s r are h
  row_stays (ToWrite s) _ are h = absurd (false≢true h)
  row_stays (ToRead s) (Stamp r) are h = to_read_stays s r are h
  row_stays (ToRead s) _ are h = absurd (false≢true h)
  row_stays (ToOptimistic s) (Stamp r) are h = to_optimistic_stays s r are h
  row_stays (ToOptimistic s) _ are h = absurd (false≢true h)
  row_stays TryUnlockWrite No are h = λ replies. grind (arith, nat_tests)
  row_stays TryUnlockWrite _ are h = absurd (false≢true h)
  row_stays TryUnlockRead No are h = λ replies. grind (arith, nat_tests)
  row_stays TryUnlockRead _ are h = absurd (false≢true h)
  row_stays Get _ are h = absurd (false≢true h)
  row_stays (Put words) _ are h = absurd (false≢true h)
  row_stays (PutIf expected words) _ are h = absurd (false≢true h)
  row_stays _ _ are h = λ replies. refl

pub unchanging_stays : (limits : Bounds) (call : Call) (reply : Reply) → changes_nothing call reply ≡ true →
    (u v : List LockEvent) → LockStep limits u call reply v → v ≡ u
unfolding Stays
unchanging_stays limits call reply still u v step = step.appends ∙
    ap (λ (more : List LockEvent). u ++ more)
    (row_stays limits (counts u) call reply (laid_out limits.layout) still step.replies) ∙ append-nil u
