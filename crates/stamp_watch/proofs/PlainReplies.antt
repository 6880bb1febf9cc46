-- Calls whose replies are neither stamps nor contents have each reply once.
use Rattle.std.proofs.Common.{◌≡◌, ◌≢◌, ◌+◌, ◌<◌, ℕ, zero, suc, List, [], ◌∷◌, Some, refl, sym, ◌∙◌, subst, arith}
use Rattle.std.specs.Prelude.{map}
use Rattle.std.specs.List.{All, AllPairs}
use Rattle.std.proofs.lemmas.List.{map-append}
use Rattle.std.proofs.lemmas.List.Elements.{All-nil, All-push, All-weaker}
use Rattle.std.proofs.lemmas.List.Kept.{AllPairs-cons}
use Rattle.std.proofs.lemmas.List.Quantifiers.{all_pairs_push}
use Rattle.std.proofs.lemmas.Option.{none-some, same_Some}
use Rattle.stamp_core.specs.Limits.{Bounds}
use Rattle.stamp_core.specs.declared.call.Call.{Call}
use Rattle.stamp_core.specs.declared.call.Call.TheVariants.{Validate, UnlockWrite, UnlockRead, Unlock, TryUnlockWrite}
use Rattle.stamp_core.specs.declared.call.Call.TheVariants.{TryUnlockRead, IsWriteLocked, IsReadLocked, ReadCount}
use Rattle.stamp_core.specs.declared.call.Call.TheVariants.{Put, PutIf}
use Rattle.stamp_core.specs.declared.lock_decision.LockReply.TheVariants as own
use Rattle.stamp_core.specs.declared.reply.Reply.{Reply}
use Rattle.stamp_core.specs.declared.reply.Reply.TheVariants.{Count, Done, Mismatch, No, Yes}
use Rattle.stamp_sets.specs.SmallCall.{reply_of}
use Rattle.stamp_sets.specs.declared.small_call.SmallReply.{SmallReply}
use Rattle.stamp_sets.specs.declared.small_call.SmallReply.TheVariants.{OfLock}
use Rattle.stamp_watch.specs.Possible.{counts_below, done_or_not, plain_replies, yes_or_no}

abbrev Differ : List Reply → Type 0
Differ replies = AllPairs (λ (a b : Reply). a ≢ b) replies

none_differ : Differ []
none_differ i j d less within = absurd (omega (arith, within))

one_differs : (a : Reply) → Differ (a ∷ [])
one_differs a = AllPairs-cons (λ (x y : Reply). x ≢ y) a [] (All-nil (λ (y : Reply). a ≢ y)) none_differ

two_differ : (a b : Reply) → a ≢ b → Differ (a ∷ b ∷ [])
two_differ a b apart = AllPairs-cons (λ (x y : Reply). x ≢ y) a (b ∷ [])
    (All-push (λ (y : Reply). a ≢ y) [] b (All-nil (λ (y : Reply). a ≢ y)) apart) (one_differs b)

yes_is_not_no : Yes ≢ No
yes_is_not_no same = cc

done_is_not_mismatch : Done ≢ Mismatch
done_is_not_mismatch same = cc

same_count : {m n : ℕ} → Count m ≡ Count n → m ≡ n
same_count same = cc

-- the counts below a number
abbrev IsBelow : ℕ → Reply → Type 0
IsBelow n reply = (m : ℕ) × (m < n) × (reply ≡ Count m)

all_below : (n : ℕ) → All (IsBelow n) (map reply_of (counts_below n))
all_below zero = All-nil (IsBelow 0)
all_below (suc n) = subst (All (IsBelow (suc n)))
    (sym (map-append reply_of (counts_below n) (OfLock (own.Count n) ∷ [])))
    (All-push (IsBelow (suc n)) (map reply_of (counts_below n)) (Count n)
    (All-weaker (IsBelow n) (IsBelow (suc n))
    (λ reply is. (is.0, (let less : is.0 < n = is.1 in omega (arith, less)), is.2)) (map reply_of (counts_below n))
    (all_below n)) (n, omega arith, refl))

counts_differ : (n : ℕ) → Differ (map reply_of (counts_below n))
counts_differ zero = none_differ
counts_differ (suc n) = subst Differ (sym (map-append reply_of (counts_below n) (OfLock (own.Count n) ∷ [])))
    (all_pairs_push (λ (a b : Reply). a ≢ b) (map reply_of (counts_below n)) (Count n) (counts_differ n)
    (λ k d less same. let is = all_below n k d less in let below : is.0 < n = is.1 in
    let count : is.0 ≡ n = same_count (sym is.2 ∙ same) in omega (arith, below, count)))

as_listed : (listed rs : List SmallReply) → Some listed ≡ Some rs → Differ (map reply_of listed) →
    Differ (map reply_of rs)
as_listed listed rs same = subst (λ (xs : List SmallReply). Differ (map reply_of xs)) (same_Some listed rs same)

pub plain_differ : (limits : Bounds) (call : Call) (rs : List SmallReply) → plain_replies limits call ≡ Some rs →
    AllPairs (λ (a b : Reply). a ≢ b) (map reply_of rs)
plain_differ limits (Validate s) rs is = as_listed yes_or_no rs is (two_differ Yes No yes_is_not_no)
plain_differ limits TryUnlockWrite rs is = as_listed yes_or_no rs is (two_differ Yes No yes_is_not_no)
plain_differ limits TryUnlockRead rs is = as_listed yes_or_no rs is (two_differ Yes No yes_is_not_no)
plain_differ limits IsWriteLocked rs is = as_listed yes_or_no rs is (two_differ Yes No yes_is_not_no)
plain_differ limits IsReadLocked rs is = as_listed yes_or_no rs is (two_differ Yes No yes_is_not_no)
plain_differ limits (PutIf expected words) rs is = as_listed yes_or_no rs is (two_differ Yes No yes_is_not_no)
plain_differ limits (UnlockWrite s) rs is = as_listed done_or_not rs is (two_differ Done Mismatch done_is_not_mismatch)
plain_differ limits (UnlockRead s) rs is = as_listed done_or_not rs is (two_differ Done Mismatch done_is_not_mismatch)
plain_differ limits (Unlock s) rs is = as_listed done_or_not rs is (two_differ Done Mismatch done_is_not_mismatch)
plain_differ limits ReadCount rs is = as_listed (counts_below (limits.readers + 1)) rs is
    (counts_differ (limits.readers + 1))
plain_differ limits (Put words) rs is = as_listed (OfLock own.Done ∷ []) rs is (one_differs Done)
plain_differ limits _ rs is = absurd (none-some rs is)
