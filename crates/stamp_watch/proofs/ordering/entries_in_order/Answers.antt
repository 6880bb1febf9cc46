use Rattle.std.proofs.Common.{◌-◌, ◌≤◌, ℕ, List, [], get_or, take, sym, subst, arith}
use Rattle.std.proofs.lemmas.List.{get_or_default, length-replicate, take_all, take_more}
use Rattle.indexmap.proofs.SetLemmas.{AllZip-push}
use Rattle.stamp_watch.specs.declared.moments.Moment.{Moment}
use Rattle.stamp_sets.specs.declared.order.EffectAt.{EffectAt}
use Rattle.stamp_watch.specs.AsEvents.{IsMomentOf, cut_to}
use Rattle.stamp_watch.specs.inner.Ordering.{AreLastBegun}
use Rattle.stamp_watch.proofs.EntriesOf.{among, cut_begins, entries_are, further, whole_begins}
use Rattle.stamp_watch.proofs.LastBegun.{AreLastAt, IsLastAt, none_begun}
use Rattle.stamp_watch.proofs.ordering.entries_in_order.Goals as goal
use Rattle.stamp_watch.proofs.ordering.entries_in_order.Goals.{After-loop-effect, In_ok-push}

pub loop-effect-init : goal.loop-effect-init
loop-effect-init c = record {
  within = omega arith;
  low = λ j d le less. omega arith;
  last = none_begun c.args.observed.now.entries _ (length-replicate {A = ℕ} 64 0);
  found = subst (λ (is : List ℕ). AreLastAt c.args.observed.now.entries c.args.moments.now [] is)
      (sym c.new-indices.ensures.items) tt;
}

pub slice_bounds-pass-count : goal.slice_bounds-pass-count
slice_bounds-pass-count c = c.loop-effect.invariant.low c.loop-effect.effect-index _ (omega arith)
    c.loop-effect-test.true

pub pass-requires-clause-of : goal.pass-requires-clause-of
pass-requires-clause-of c = among (IsMomentOf c.args.observed.now.entries) c.args.moments.now c.loop-effect.seen
    ((get_or c.args.effects.now c.loop-effect.effect-index (record { lane = 0; point = 0 })).point - c.loop-effect.seen)
    c.requires.moments.each

-- the last entries at the point of the next effect
last_there : (c : In_ok-push) → AreLastBegun c.args.observed.now.entries
    (take (get_or c.args.effects.now c.loop-effect.effect-index (record { lane = 0; point = 0 })).point
    c.args.moments.now) c.pass.new.last
last_there c = subst (λ (ms : List Moment). AreLastBegun c.args.observed.now.entries ms c.pass.new.last)
    (further c.args.moments.now c.loop-effect.seen
    (get_or c.args.effects.now c.loop-effect.effect-index (record { lane = 0; point = 0 })).point
    (c.loop-effect.invariant.low c.loop-effect.effect-index (record { lane = 0; point = 0 }) (omega arith)
    c.loop-effect-test.true) c.loop-effect.invariant.within)
    (c.pass.ensures (take c.loop-effect.seen c.args.moments.now) c.loop-effect.invariant.last)

pub loop-effect-preserved : goal.loop-effect-preserved
loop-effect-preserved c = record {
  within = c.requires.along.within c.loop-effect.effect-index (record { lane = 0; point = 0 }) c.loop-effect-test.true;
  low = λ j d le less. subst (λ (x : EffectAt). x.point ≤ (get_or c.args.effects.now j d).point)
      (get_or_default c.args.effects.now c.loop-effect.effect-index d (record { lane = 0; point = 0 })
      c.loop-effect-test.true) (c.requires.along.rising c.loop-effect.effect-index j d (omega (arith, le)) less);
  last = last_there c;
  found = rw (
    take_more c.args.effects.now c.loop-effect.effect-index (record { lane = 0; point = 0 })
        c.loop-effect-test.true,
    c.in_ok-push.ensures.items,
  )
      (AllZip-push (IsLastAt c.args.observed.now.entries c.args.moments.now)
      (take c.loop-effect.effect-index c.args.effects.now) c.loop-effect.indices.items
      (get_or c.args.effects.now c.loop-effect.effect-index (record { lane = 0; point = 0 })) _
      c.loop-effect.invariant.found (λ i is. (last_there c).are _ i _ (c.requires.along.lanes c.loop-effect.effect-index
      (record { lane = 0; point = 0 }) c.loop-effect-test.true) is));
}

-- of all effects
all_found : (c : After-loop-effect) → AreLastAt c.args.observed.now.entries c.args.moments.now c.args.effects.now
    c.loop-effect.indices.items
all_found c = subst (λ (xs : List EffectAt). AreLastAt c.args.observed.now.entries c.args.moments.now xs
    c.loop-effect.indices.items) (take_all c.loop-effect.effect-index c.args.effects.now c.loop-effect-test.false)
    c.loop-effect.invariant.found

pub returns-clause-whole : goal.returns-clause-whole
returns-clause-whole c = entries_are c.args.observed.now c.requires.told c.args.moments.now c.requires.moments
    c.args.observed.now (whole_begins c.args.observed.now) c.args.effects.now c.loop-effect.indices.items (all_found c)

pub returns-clause-cut : goal.returns-clause-cut
returns-clause-cut c m = entries_are c.args.observed.now c.requires.told c.args.moments.now c.requires.moments
    (cut_to m c.args.observed.now) (cut_begins m c.args.observed.now) c.args.effects.now c.loop-effect.indices.items
    (all_found c)
