use Rattle.std.proofs.lemmas.Bool.{false≢true}
use Rattle.stamp_observed.proofs.Following.{none_kept, next_follows, next_is_kept}
use Rattle.stamp_observed.proofs.spans.follow.Goals as goal

pub loop-span-init : goal.loop-span-init
loop-span-init c = none_kept

pub returns-then-span-free : goal.returns-then-span-free
returns-then-span-free c = (
  λ no. absurd (false≢true no),
  λ pairs. absurd (next_is_kept c.args.spans.now c.loop-span.free c.loop-span.span-index _ c.loop-span-test.true
      c.loop-span.invariant (c.requires.threads c.loop-span.span-index _ c.loop-span-test.true) c.if-span-free.true
      pairs),
)

pub loop-span-preserved : goal.loop-span-preserved
loop-span-preserved c =
    next_follows c.args.spans.now c.loop-span.free c.loop-span.span-index _ c.loop-span-test.true
    c.loop-span.invariant (c.requires.threads c.loop-span.span-index _ c.loop-span-test.true)
    (c.requires.rising c.loop-span.span-index _ c.loop-span-test.true) c.if-span-free.false
