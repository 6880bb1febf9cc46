use Rattle.std.specs.Prelude.{◌≡◌, take, string_bytes}
use Rattle.stamped_watch.specs.Possible.{others_text}
use Rattle.stamped_watch.proofs.possible.others_text.Given as goal

abbrev pub invariant-loop-reply : goal.invariant-loop-reply
invariant-loop-reply l = string_bytes l.text ≡ others_text (take l.reply-index l.replies)
