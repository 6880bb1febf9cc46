-- Calls and replies whose contents have one word each: their numbers.
use Rattle.std.specs.Prelude.{ℕ, ◌==◌, ◌&&◌, Bool, true, List, length}
use Rattle.stamp_core.specs.declared.call.Call.{Call}
use Rattle.stamp_core.specs.declared.call.Call.TheVariants.{Put, PutIf}
use Rattle.stamp_core.specs.declared.reply.Reply.{Reply}
use Rattle.stamp_core.specs.declared.reply.Reply.TheVariants.{Content}

abbrev pub has_one_word : List ℕ → Bool
has_one_word words = length words == 1

abbrev pub is_small_call : Call → Bool
is_small_call (Put words) = has_one_word words
is_small_call (PutIf expected words) = has_one_word expected && has_one_word words
is_small_call _ = true

abbrev pub is_small_reply : Reply → Bool
is_small_reply (Content words) = has_one_word words
is_small_reply _ = true
