use Rattle.std.proofs.Common.{◌≡◌, map, take}
use Rattle.stamp_core.specs.Layout.{units_of}
use Rattle.stamp_observed.specs.Renumbering.{renumbered_reply}
use Rattle.stamp_observed.proofs.renumbering.renumbered_replies.Given as goal

abbrev pub invariant-loop-reply : goal.invariant-loop-reply
invariant-loop-reply l =
    l.made.items ≡ map (renumbered_reply (units_of l.layout) l.versions) (take l.reply-index l.replies)
