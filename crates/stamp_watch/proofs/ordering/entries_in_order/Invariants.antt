use Rattle.std.proofs.Common.{ℕ, ◌≤◌, ◌<◌, length, get_or, take}
use Rattle.stamp_sets.specs.declared.order.EffectAt.{EffectAt}
use Rattle.stamp_watch.specs.inner.Ordering.{AreLastBegun}
use Rattle.stamp_watch.proofs.LastBegun.{AreLastAt}
use Rattle.stamp_watch.proofs.ordering.entries_in_order.Given as goal

abbrev pub invariant-loop-effect : goal.invariant-loop-effect
invariant-loop-effect l = record {
  within : l.seen ≤ length l.moments;
  low : (j : ℕ) (d : EffectAt) → l.effect-index ≤ j → j < length l.effects → l.seen ≤ (get_or l.effects j d).point;
  last : AreLastBegun l.observed.entries (take l.seen l.moments) l.last;
  found : AreLastAt l.observed.entries l.moments (take l.effect-index l.effects) l.indices.items;
}
