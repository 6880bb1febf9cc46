use Rattle.std.proofs.Common.{take}
use Rattle.stamp_observed.proofs.Following.{AreFree}
use Rattle.stamp_observed.proofs.spans.follow.Given as goal

abbrev pub invariant-loop-span : goal.invariant-loop-span
invariant-loop-span l = AreFree (take l.span-index l.spans) l.free
