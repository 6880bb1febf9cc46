-- An order of lock and record, of one that each of them tells.
use Rattle.std.proofs.Common.{ℕ, ◌≡◌, ◌+◌, Bool, List, [], ◌∷◌, get_or, length, refl, sym, ◌∙◌, ap, subst}
use Rattle.std.specs.Prelude.{map, reverse}
use Rattle.stamp_core.specs.Call.{is_lock_call}
use Rattle.stamp_core.specs.declared.call.Call.{Call}
use Rattle.stamp_runs.specs.BothRun.{Both, start}
use Rattle.stamp_runs.specs.Merged.{Ascends, among_all, with_point}
use Rattle.stamp_runs.specs.Object.{LockStep, RecordStep}
use Rattle.stamp_runs.specs.Own.{own_events, own_numbers}
use Rattle.stamp_runs.specs.Run.{Lanes, all_idle}
use Rattle.stamp_runs.specs.Trace.{LeadsBy, Taken}
use Rattle.stamp_runs.specs.declared.event.Event.{Event}
use Rattle.stamp_runs.proofs.Merging.{orders_ascend, orders_merge}
use Rattle.stamp_sets.specs.declared.object.Object as judging
use Rattle.stamp_sets.specs.declared.order.EffectAt.{EffectAt}
use Rattle.stamp_sets.specs.declared.watch.Watch.{Watch}
use Rattle.stamp_sets.specs.Judged.{Judged, guarded, judged, lock}
use Rattle.stamp_sets.specs.Order.{IsOrderOfBoth, effect_at}
use Rattle.stamp_sets.specs.Tracing.{IsTracing}
use Rattle.stamp_sets.specs.Watch.{is_record_call}
use Rattle.stamp_sets.specs.inner.Order.{IsOrderAmong, IsOrderOf, MergesTo, told_among}
use Rattle.stamp_sets.proofs.Numbering.{all_numbers}
use Rattle.stamp_sets.proofs.ReadingBack.{map_reverse}

told_effects : (numbers : List ℕ) (events : ℕ) (order : List Taken) →
    map effect_at (map (with_point (λ (point : ℕ). get_or numbers point events)) order) ≡
    map (told_among numbers events) (map effect_at order)
told_effects numbers events [] = refl
told_effects numbers events (x ∷ order) = ap
    (λ (es : List EffectAt). told_among numbers events (effect_at x) ∷ es) (told_effects numbers events order)

-- an order by the numbers of all events, as it is told
told_order : {S : Type 0} (o : Judged S) (mine : Call → Bool) (past : List Event) (numbers : List ℕ) (events : ℕ)
    (own effects : List EffectAt) → numbers ≡ own_numbers mine past → events ≡ length past →
    (is : IsOrderOf o (own_events mine past) own) → effects ≡ map (told_among numbers events) own →
    map effect_at (among_all mine past is.order) ≡ reverse effects
told_order o mine past numbers events own effects are many is told =
    ap (λ (ns : List ℕ). map effect_at (map (with_point (λ (point : ℕ). get_or ns point (length past))) is.order))
    (sym are) ∙
    ap (λ (n : ℕ). map effect_at (map (with_point (λ (point : ℕ). get_or numbers point n)) is.order)) (sym many) ∙
    told_effects numbers events is.order ∙ ap (map (told_among numbers events)) is.effects_are ∙
    map_reverse (told_among numbers events) own ∙ ap (λ (es : List EffectAt). reverse es) (sym told)

module _ (past : List Event) (watch : Watch) (is : IsTracing past watch) where
  -- the number of all events
  pub all_events : (events : ℕ) → events ≡ length watch.lock_trace.numbers + length watch.record_trace.numbers →
      events ≡ length past
  all_events events counted = counted ∙
      ap (λ (ns : List ℕ). length ns + length watch.record_trace.numbers) is.lock.numbers ∙
      ap (λ (ns : List ℕ). length (own_numbers is_lock_call past) + length ns) is.record.numbers ∙
      all_numbers is_lock_call past is.watching.form

  pub both_order : (events : ℕ) (locks records order : List EffectAt) → events ≡ length past →
      IsOrderAmong (judged watch.lock.object) (own_events is_lock_call past) watch.lock_trace.numbers events locks →
      IsOrderAmong (judged watch.record.object) (own_events is_record_call past) watch.record_trace.numbers events
      records → ((one other : List Taken) → map effect_at one ≡ reverse locks → map effect_at other ≡ reverse records →
      Ascends 0 one → Ascends 0 other → MergesTo one other order) → IsOrderOfBoth watch.limits past order
  both_order events locks records order many first second merged = record {
    order = both.order;
    state = (one.state, other.state);
    lanes = leads.0;
    leads = leads.1;
    effects_are = both.effects_are;
  }
    where
      one : IsOrderOf (lock watch.limits) (own_events is_lock_call past) first.own
      one = subst (λ (o : judging.Object). IsOrderOf (judged o) (own_events is_lock_call past) first.own)
          is.watching.lock_is first.is

      other : IsOrderOf guarded (own_events is_record_call past) second.own
      other = subst (λ (o : judging.Object). IsOrderOf (judged o) (own_events is_record_call past) second.own)
          is.watching.record_is second.is

      both : MergesTo (among_all is_lock_call past one.order) (among_all is_record_call past other.order) order
      both = merged (among_all is_lock_call past one.order) (among_all is_record_call past other.order)
          (told_order (lock watch.limits) is_lock_call past watch.lock_trace.numbers events first.own locks
          is.lock.numbers many one first.told)
          (told_order guarded is_record_call past watch.record_trace.numbers events second.own records
          is.record.numbers many other second.told)
          (orders_ascend is_lock_call (LockStep watch.limits) [] past one.order one.state one.lanes one.leads)
          (orders_ascend is_record_call RecordStep (0 ∷ []) past other.order other.state other.lanes other.leads)

      leads : (lanes : Lanes) × LeadsBy (Both watch.limits) 0 both.order past start all_idle (one.state, other.state)
          lanes
      leads = orders_merge is_lock_call (LockStep watch.limits) RecordStep [] one.state (0 ∷ []) other.state past
          one.order other.order both.order one.lanes other.lanes is.watching.form one.leads other.leads both.merges
          both.ascends
