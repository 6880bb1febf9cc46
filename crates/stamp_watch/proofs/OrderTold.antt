-- The order that a watch tells which has seen the run of a history, and is traced.
use Rattle.std.proofs.Common.{ℕ, ◌≡◌, ◌+◌, List, [], ◌++◌, length, map, sym, ◌∙◌, subst, inl, inr, arith}
use Rattle.std.proofs.Common.{append-nil}
use Rattle.std.proofs.lemmas.Bool.{false≢true}
use Rattle.std.proofs.lemmas.List.{take_all}
use Rattle.stamp_core.specs.Call.{is_lock_call}
use Rattle.stamp_core.specs.Limits.{Bounds}
use Rattle.stamp_explain.specs.Explained.{IsOrderIn}
use Rattle.stamp_explain.specs.Observed.{IsObserved, ObservedHistory}
use Rattle.stamp_runs.specs.BothRun.{AreExplained, Both, start}
use Rattle.stamp_runs.specs.Names.{event_by}
use Rattle.stamp_runs.specs.Own.{own_events}
use Rattle.stamp_runs.specs.Run.{all_idle}
use Rattle.stamp_runs.specs.Trace.{LeadsBy}
use Rattle.stamp_runs.specs.declared.event.Event.{Event}
use Rattle.stamp_sets.specs.declared.half.Half.{Half}
use Rattle.stamp_sets.specs.declared.order.EffectAt.{EffectAt}
use Rattle.stamp_sets.specs.declared.watch.Watch.{Watch}
use Rattle.stamp_sets.specs.Half.{KeepsRun}
use Rattle.stamp_sets.specs.Judged.{judged}
use Rattle.stamp_sets.specs.Order.{IsOrderOfBoth}
use Rattle.stamp_sets.specs.Tracing.{HasNoOrder, IsTracing}
use Rattle.stamp_sets.specs.Watch.{IsHopeless, IsUntold, is_record_call}
use Rattle.stamp_sets.specs.inner.Half.{ExplainsNone}
use Rattle.stamp_sets.proofs.Answering.{none_left}
use Rattle.stamp_sets.proofs.Pairing.{hopeless_by_lock, hopeless_by_record}
use Rattle.stamp_watch.specs.declared.moments.Moment.{Moment}
use Rattle.stamp_watch.specs.AsEvents.{AreMomentsOf}
use Rattle.stamp_watch.specs.History.{IsRunOf}
use Rattle.stamp_watch.specs.Judging.{IsJudging}
use Rattle.stamp_watch.specs.Ordered.{ExplainsAt}
use Rattle.stamp_watch.specs.inner.History.{IsToldRun}
use Rattle.stamp_watch.specs.inner.Judging.{HasSeenAll}
use Rattle.stamp_watch.specs.inner.Ordering.{AreAlong, AreEntriesOf}
use Rattle.stamp_watch.proofs.AlongMoments.{order_of_history}
use Rattle.stamp_watch.proofs.EntriesOf.{along, whole_begins}
use Rattle.stamp_watch.proofs.JudgedHistory.{is_run, run, run_long, taken, told_whole}
use Rattle.stamp_watch.proofs.Judging.{comes, judging_first}

-- a half without a position explains nothing
no_position : (past : List Event) (last : ℕ) (half : Half) → half.positions.items ≡ [] → KeepsRun past last half →
    ExplainsNone past last half
no_position past last half none keeps = record {
  none = λ future told explained. none_left (judged half.object) past half.table.items half.positions.items future none
      (keeps.kept.stand.whole future told explained);
}

module _ (h : ObservedHistory) (observed : IsObserved h) (moments : List Moment) (are : AreMomentsOf h.entries moments)
    (told : List Event) (run_is : IsToldRun h moments told) (old new : Watch) (tracing : IsTracing [] old)
    (untold : IsUntold old h.limits) (seen : HasSeenAll (length moments) told old new)
  where
    judging : IsJudging h.limits (0 + length told) told [] new
    judging = seen.seen.judging h.limits [] (judging_first h.limits told old tracing.watching untold
        (told_whole h observed moments are told run_is))

    traced : IsTracing told new
    traced = seen.seen.traced [] tracing

    not_hopeless : ¬ IsHopeless told new
    not_hopeless hopeless = hopeless.none [] (comes (0 + length told) told [] new judging.followed)
        (subst (λ (limits : Bounds). AreExplained limits (told ++ [])) (sym judging.limits_are)
        (subst (AreExplained h.limits) (sym (append-nil told)) judging.explained))

    -- it tells an order
    pub order_told : ¬ HasNoOrder new
    order_told (inl off) = false≢true (sym off ∙ traced.lock.keeps.on)
    order_told (inr (inl none)) = not_hopeless (hopeless_by_lock told new traced.watching
        (no_position (own_events is_lock_call told) new.last new.lock none traced.watching.lock.keeps))
    order_told (inr (inr none)) = not_hopeless (hopeless_by_record told new traced.watching
        (no_position (own_events is_record_call told) new.last new.record none traced.watching.record.keeps))

    as_run : IsRunOf h moments (run h observed moments are told run_is)
    as_run = is_run h observed moments are told run_is

    told_all : told ≡ map (event_by as_run.name) as_run.events
    told_all = (taken h observed moments are told run_is).same ∙
        take_all (length told) (run h observed moments are told run_is)
        (let all : length told ≡ length moments = seen.all in
        let long = run_long h observed moments are told run_is in omega (arith, all, long)) ∙ as_run.run_is

    module _ (effects : List EffectAt)
        (tells : (past : List Event) → IsTracing past new → IsOrderOfBoth new.limits past effects)
      where
        order : IsOrderOfBoth new.limits told effects
        order = tells told traced

        explains : ExplainsAt h moments order.order
        explains = order_of_history h moments as_run.events as_run.name order.order order.state order.lanes observed
            as_run.are as_run.names
            (subst (λ (events : List Event). LeadsBy (Both h.limits) 0 order.order events start all_idle order.state
            order.lanes) told_all
            (subst (λ (limits : Bounds). LeadsBy (Both limits) 0 order.order told start all_idle order.state
            order.lanes) judging.limits_are order.leads))

        -- its effects stand along the moments, and are of the calls of an order in the history
        pub along_moments : AreAlong (length moments) effects
        along_moments = along h observed moments h (whole_begins h) order.order effects order.effects_are order.leads
            (let all : length told ≡ length moments = seen.all in omega (arith, all)) explains

        pub is_order_in : (indices : List ℕ) → AreEntriesOf h moments effects indices → IsOrderIn h indices
        is_order_in indices entries = entries order.order order.effects_are explains
