-- What explains a history up to the return at which it is stuck.
use Rattle.std.proofs.Common.{◌≡◌, ◌≢◌, ◌+◌, ℕ, List, [], ◌∷◌, Option, None, Some, Err, Vec, refl, sym, ◌∙◌, ap, subst}
use Rattle.std.proofs.Common.{arith}
use Rattle.std.specs.Prelude.{slice_get}
use Rattle.std.specs.declared.alloc.Global.{Global}
use Rattle.std.proofs.lemmas.Option.{same_Some}
use Rattle.stamp_core.specs.declared.reply.Reply.{Reply}
use Rattle.stamp_explain.specs.Cut.{IsStuck, cut_before}
use Rattle.stamp_explain.specs.Explained.{IsExplained}
use Rattle.stamp_explain.specs.Observed.{ObservedHistory, IsObserved, IsReturnAt}
use Rattle.stamp_explain.specs.Possible.{AreAllPossible, IsPossible, IsSeenUntil}
use Rattle.stamp_explain.specs.declared.observed.Observation.{Observation}
use Rattle.stamp_explain.specs.declared.observed.Returned.{Returned}
use Rattle.stamp_explain.proofs.Cutting.{cuts_stay_explained, explained_is_not_stuck}
use Rattle.stamp_explain.proofs.Replying.{possible_is_seen}
use Rattle.stamp_explain.proofs.Seeing.{seen_explains_as_much}
use Rattle.stamp_watch.specs.History.{IsAnswer}
use Rattle.stamp_watch.specs.declared.history.ExplainError.{ExplainError}
use Rattle.stamp_watch.specs.declared.history.ExplainError.TheVariants.{Stuck, StuckWithin, Undecided, Memory}
use Rattle.stamped_picture.specs.Explanation.{ArePossibleAt, GivesNoOrder, first_of}
use Rattle.stamped_picture.specs.inner.Explanation.{IsExplainedUntil}

-- one return is meant
same_return : {es : List Observation} {i : ℕ} (a b : IsReturnAt es i) → a.return ≡ b.return
same_return a b = same_Some a.return b.return (sym a.returned ∙ ap (λ (e : Observation). e.returned)
    (same_Some a.entry b.entry (sym a.is_entry ∙ b.is_entry)) ∙ b.returned)

-- before the return at which it is stuck it is explained
explained_before : {h : ObservedHistory} {i : ℕ} → IsObserved h → IsStuck h i → IsExplainedUntil h i None
explained_before {h} {i} observed stuck seen is = subst IsExplained (sym is.is)
    ((seen_explains_as_much h is.at.return.last i observed).1.0 (subst (λ (r : Returned). IsExplained (cut_before r i h))
    (same_return stuck.at is.at) stuck.explained))

-- and with a possible reply
explained_with : {h : ObservedHistory} {i : ℕ} (reply : Reply) → IsObserved h → IsPossible h i reply →
    IsExplainedUntil h i (Some reply)
explained_with reply observed possible seen is = subst IsExplained (sym is.is) (possible_is_seen is.at.entry
    is.at.return is.at.is_entry is.at.returned observed possible)

with_first : {h : ObservedHistory} {i : ℕ} (replies : List Reply) → IsObserved h → IsStuck h i →
    AreAllPossible h i replies → IsExplainedUntil h i (slice_get replies 0)
with_first [] observed stuck are = explained_before observed stuck
with_first (reply ∷ replies) observed stuck are = explained_with reply observed (are.each 0 reply (omega arith))

-- so it is with the first reply that was possible, or with none
pub explained_until : {h : ObservedHistory} {i : ℕ} (most : ℕ) (possible : Option (Vec Reply Global)) → IsObserved h →
    IsStuck h i → ArePossibleAt h most i possible → IsExplainedUntil h i (first_of possible)
explained_until most None observed stuck are = explained_before observed stuck
explained_until most (Some replies) observed stuck are = with_first replies.items observed stuck are

-- what is explained is refused only where that is undecided
pub gives_no_order : {h : ObservedHistory} {most : ℕ} (refused : ExplainError) → IsExplained h → refused ≢ Memory →
    IsAnswer h most (Err refused) → GivesNoOrder h most
gives_no_order {h} (Stuck i) explained not is = absurd (explained_is_not_stuck h i explained is)
gives_no_order {h} (StuckWithin i j) explained not is =
    absurd (is.stuck (cuts_stay_explained h is.then.at.return.last (j + 1) explained))
gives_no_order (Undecided i) explained not is = record { entry = i; is = is }
gives_no_order Memory explained not is = absurd (not refl)
