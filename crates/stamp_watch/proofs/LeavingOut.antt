-- A call that is withdrawn may be left out.
use Rattle.std.proofs.Common.{◌≡◌, ℕ, List, ◌∷◌, ◌++◌, refl, subst}
use Rattle.stamp_core.specs.declared.call.Call.{Call}
use Rattle.stamp_runs.specs.declared.event.Event.{Event}
use Rattle.stamp_runs.specs.declared.event.Event.TheVariants.{Begins, Withdraws}
use Rattle.stamp_runs.specs.BothRun.{Both, State, start}
use Rattle.stamp_runs.specs.Object.{Object}
use Rattle.stamp_runs.specs.Run.{Lanes, Sets, Survives}
use Rattle.stamp_runs.specs.Run.Phase.{Idle, Asks}
use Rattle.stamp_runs.proofs.Lanes.{asks_or_gets, idle_or_asks, set_of, sets_alike, sets_of}
use Rattle.stamp_runs.proofs.Sets.{leads_survive}
use Rattle.stamp_watch.specs.Ahead.{IsSpared}
use Rattle.stamp_watch.specs.WatchLaws.{WithdrawnMayBeLeftOut, WithdrawsAtOnce}
use Rattle.stamp_watch.proofs.Form.{past_free}
use Rattle.stamp_watch.proofs.Surviving.{begins_first, withdraws_first}
use Rattle.stamp_watch.proofs.Ways.{InTwo, beside, comes_next, cut, sets_back, stays, survives_on}

left_out : {S : Type 0} (O : Object S) (t : ℕ) (call : Call) (between rest : List Event) (s : S)
    (lanes begun : Lanes) → IsSpared between t → lanes t ≡ Idle → Sets lanes begun t (Asks call) →
    Survives O (between ++ Withdraws t ∷ rest) s begun →
    Survives O (between ++ rest) s lanes
left_out O t call between rest s lanes begun spares idle sets way = by (cut between (Withdraws t ∷ rest) way.way)
  where
    by : InTwo O between (Withdraws t ∷ rest) s begun way.state way.last →
        Survives O (between ++ rest) s lanes
    by two = out (withdraws_first O t rest two.state two.lanes (leads_survive O two.behind))
      where
        out : WithdrawsAtOnce O t rest two.state two.lanes → Survives O (between ++ rest) s lanes
        out first = subst (Survives O (between ++ rest) s)
            (sets_alike begun (set_of begun t Idle) lanes t Idle (sets_of begun t Idle) (sets_back sets idle))
            (survives_on (beside t Idle spares (λ c r _ gets. asks_or_gets first.asks gets) two.before)
            (first.survives (set_of two.lanes t Idle) (sets_of two.lanes t Idle)))

-- and it may be put in again
put_in : {S : Type 0} (O : Object S) (t : ℕ) (call : Call) (between rest : List Event) (s : S) (lanes : Lanes) →
    IsSpared between t → lanes t ≡ Idle → Survives O (between ++ rest) s lanes →
    Survives O (between ++ Withdraws t ∷ rest) s (set_of lanes t (Asks call))
put_in O t call between rest s lanes spares idle way =
    let two = cut between rest way.way in
    survives_on (beside t (Asks call) spares (λ c r asks _. idle_or_asks idle asks) two.before)
    (comes_next (Withdraws t) (
      call,
      (sets_of two.lanes t (Asks call)).here,
      sets_back (sets_of two.lanes t (Asks call))
          (stays t Idle (λ c is. idle_or_asks refl is) spares idle two.before),
    ) (leads_survive O two.behind))

pub withdrawn_may_be_left_out : WithdrawnMayBeLeftOut
withdrawn_may_be_left_out limits t call past between rest free spares = (
  past_free (Both limits) start t (Begins t call ∷ between ++ Withdraws t ∷ rest) (between ++ rest) past out free,
  past_free (Both limits) start t (between ++ rest) (Begins t call ∷ between ++ Withdraws t ∷ rest) past back free,
)
  where
    out : (s : State) (lanes : Lanes) → lanes t ≡ Idle →
        Survives (Both limits) (Begins t call ∷ between ++ Withdraws t ∷ rest) s lanes →
        Survives (Both limits) (between ++ rest) s lanes
    out s lanes idle way = left_out (Both limits) t call between rest s lanes (set_of lanes t (Asks call)) spares idle
        (sets_of lanes t (Asks call)) ((begins_first (Both limits) t call (between ++ Withdraws t ∷ rest) s lanes
        way).survives (set_of lanes t (Asks call))
        (sets_of lanes t (Asks call)))

    back : (s : State) (lanes : Lanes) → lanes t ≡ Idle → Survives (Both limits) (between ++ rest) s lanes →
        Survives (Both limits) (Begins t call ∷ between ++ Withdraws t ∷ rest) s lanes
    back s lanes idle way = comes_next (Begins t call) (idle, sets_of lanes t (Asks call))
        (put_in (Both limits) t call between rest s lanes spares idle way)
