-- Calls and replies in few bytes have one word in each content.
use Rattle.std.proofs.Common.{◌≡◌, true, refl}
use Rattle.stamp_core.specs.declared.lock_decision.LockReply.TheVariants as own
use Rattle.stamp_runs.specs.OneWord.{is_small_reply}
use Rattle.stamp_sets.specs.SmallCall.{reply_of}
use Rattle.stamp_sets.specs.declared.small_call.SmallReply.{SmallReply}
use Rattle.stamp_sets.specs.declared.small_call.SmallReply.TheVariants as given

pub small_reply_is : (reply : SmallReply) → is_small_reply (reply_of reply) ≡ true
small_reply_is (given.OfLock (own.Stamp s)) = refl
small_reply_is (given.OfLock own.Yes) = refl
small_reply_is (given.OfLock own.No) = refl
small_reply_is (given.OfLock own.Done) = refl
small_reply_is (given.OfLock own.Mismatch) = refl
small_reply_is (given.OfLock (own.Count n)) = refl
small_reply_is (given.Content n) = refl
