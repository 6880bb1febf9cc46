-- A call that begins later.
use Rattle.std.proofs.Common.{◌≡◌, ◌≢◌, ◌⊎◌, ◌≤◌, ◌<◌, ◌+◌, ℕ, Bool, true, false, List, ◌∷◌, ◌++◌}
use Rattle.std.proofs.Common.{refl, sym, ◌∙◌, ap, subst, inl, inr, arith}
use Rattle.std.specs.Prelude.{cond}
use Rattle.std.specs.Bool.{MatchBool}
use Rattle.std.proofs.lemmas.List.Sums.{sum_by-append}
use Rattle.std.proofs.lemmas.Bool.{cases_eq}
use Rattle.stamp_core.specs.LockEvent.{LockEvent, write_count, is_write_acquired}
use Rattle.stamp_core.specs.Limits.{Bounds}
use Rattle.stamp_core.specs.Call.{is_lock_call}
use Rattle.stamp_core.specs.Transition.{transition}
use Rattle.stamp_core.specs.History.{appended_by}
use Rattle.stamp_core.specs.declared.call.Call.{Call}
use Rattle.stamp_core.specs.declared.reply.Reply.{Reply}
use Rattle.stamp_runs.specs.declared.event.Event.{Event}
use Rattle.stamp_runs.specs.declared.event.Event.TheVariants.{Begins}
use Rattle.stamp_runs.specs.BothRun.{Both, State}
use Rattle.stamp_runs.specs.Object.{LockStep, Object}
use Rattle.stamp_runs.specs.Run.{Lanes, Leads, Survives}
use Rattle.stamp_runs.specs.Run.Leads.{leads_nowhere, by_effect, by_event}
use Rattle.stamp_runs.specs.Run.Phase.{Idle, Asks, Gets}
use Rattle.stamp_runs.proofs.Lanes.{stays_beside, asks_or_gets, idle_or_asks, one_call, one_reply, set_of, sets_alike}
use Rattle.stamp_runs.proofs.Lanes.{sets_of}
use Rattle.stamp_runs.proofs.Sets.{leads_survive}
use Rattle.stamp_watch.proofs.Ways.{gotten_is_told, InTwo, asks_still, beside, comes_next, cut, ends_behind}
use Rattle.stamp_watch.proofs.Ways.{gets_still}
use Rattle.stamp_watch.proofs.Ways.{other_first, others_spared, sets_back, spared_while_open, survives_on, was_idle}
use Rattle.stamp_watch.specs.Ahead.{IsSpared}
use Rattle.stamp_watch.specs.WatchLaws.{BeginsAtOnce, BeginsLate, BeginsSooner}
use Rattle.stamp_watch.proofs.Surviving.{begins_first}

pub writes-append : (xs ys : List LockEvent) → write_count (xs ++ ys) ≡ write_count xs + write_count ys
writes-append xs ys = sum_by-append (λ (x : LockEvent). cond (is_write_acquired x) 1 0) xs ys

-- versions never fall
pub version_stays : (limits : Bounds) (s next : State) (call : Call) (reply : Reply) →
    Both limits s call reply next → write_count s.0 ≤ write_count next.0
version_stays limits s next call reply step = by (is_lock_call call) step.0
  where
    by : (b : Bool) → MatchBool b (LockStep limits s.0 call reply next.0) (next.0 ≡ s.0) →
        write_count s.0 ≤ write_count next.0
    by true own = omega (
      arith,
      writes-append s.0 (appended_by (transition limits s.0 call)),
      ap (λ (events : List LockEvent). write_count events) own.appends,
    )
    by false same = omega (arith, ap (λ (events : List LockEvent). write_count events) same)

module _ {limits : Bounds} where
  pub versions_stay : {events : List Event} {s t : State} {a b : Lanes} →
      Leads (Both limits) events s a t b → write_count s.0 ≤ write_count t.0
  versions_stay leads_nowhere = omega arith
  versions_stay {s = s} (by_effect {next = next} u call reply asks step sets rest) =
      omega (arith, version_stays limits s next call reply step, versions_stay rest)
  versions_stay (by_event event happens rest) = versions_stay rest

-- what goes on after some events only from an older version does so before them
pub older : (limits : Bounds) (version : ℕ) (between rest : List Event) (s : State) (lanes : Lanes) →
    ((v : State) (there : Lanes) → Survives (Both limits) rest v there → write_count v.0 < version) →
    Survives (Both limits) (between ++ rest) s lanes → write_count s.0 < version
older limits version between rest s lanes old way =
    let two = cut between rest way.way in
    let low = old two.state two.lanes (leads_survive (Both limits) two.behind) in
    let stays = versions_stay two.before in omega (arith, low, stays)

-- a call that takes effect on a way with this reply tells no older version than there is behind it
took_newer : {limits : Bounds} {events : List Event} {s t : State} {a b : Lanes} (lane : ℕ) (call : Call)
    (reply : Reply) (version : ℕ) →
    ((u v : State) → Both limits u call reply v → version ≤ write_count v.0) → IsSpared events lane →
    a lane ≡ Asks call → b lane ≡ Gets reply → Leads (Both limits) events s a t b → version ≤ write_count t.0
took_newer lane call reply version new spared asks gets leads_nowhere = absurd (asks_or_gets asks gets)
took_newer {limits} {s = s} {t} {a} lane call reply version new spared asks gets
    (by_effect {next = next} {after = after} u c r asks_u step sets rest) = by (cases_eq u lane)
    (λ apart. took_newer lane call reply version new spared (sets.others lane (λ e. apart (sym e)) ∙ asks) gets rest)
  where
    by : (u ≡ lane) ⊎ (u ≢ lane) → (u ≢ lane → version ≤ write_count t.0) → version ≤ write_count t.0
    by (inr apart) later = later apart
    by (inl same) later = omega (
      arith,
      new s next (subst (λ (x : Reply). Both limits s call x next) told
          (subst (λ (x : Call). Both limits s x r next)
          (one_call (subst (λ (v : ℕ). a v ≡ Asks c) same asks_u) asks) step)),
      versions_stay rest,
    )
      where
        told : r ≡ reply
        told = one_reply (gets_still lane r spared (subst (λ (v : ℕ). after v ≡ Gets r) same sets.here) rest) gets
took_newer {a = a} lane call reply version new spared asks gets
    (by_event {events = events} {after = after} event happens rest) =
    took_newer lane call reply version new (others_spared lane event events spared)
    (stays_beside a after event lane (other_first lane event events spared) happens ∙ asks) gets rest

pub begins_late : BeginsLate
begins_late limits t call reply version between rest s lanes begun idle sets tells never new old way =
    by (cut between rest way.way)
  where
    by : InTwo (Both limits) between rest s begun way.state way.last →
        Survives (Both limits) (between ++ Begins t call ∷ rest) s lanes
    by two = survives_on (subst (λ (a : Lanes).
        Leads (Both limits) between s a two.state (set_of two.lanes t Idle))
        (sets_alike begun (set_of begun t Idle) lanes t Idle (sets_of begun t Idle) (sets_back sets idle))
        (beside t Idle spared (λ c r asks gets. late c r asks gets) two.before))
        (comes_next (Begins t call) ((sets_of two.lanes t Idle).here, sets_back (sets_of two.lanes t Idle) asks)
        (leads_survive (Both limits) two.behind))
      where
        spared : IsSpared between t
        spared = spared_while_open t (λ is. idle_or_asks is sets.here) never two.before

        low : write_count two.state.0 < version
        low = old two.state two.lanes (leads_survive (Both limits) two.behind)

        late : (c : Call) (r : Reply) → begun t ≡ Asks c → two.lanes t ≡ Gets r → ⊥
        late c r asks gets =
            let told : r ≡ reply = gotten_is_told t r reply gets
            (ends_behind between rest never refl tells) two.behind in
            let newer : version ≤ write_count two.state.0 = took_newer t call reply version new spared sets.here
            (gets ∙ ap Gets told) two.before in omega (arith, low, newer)

        asks : two.lanes t ≡ Asks call
        asks = asks_still t call spared sets.here (λ r gets. late call r sets.here gets) two.before

module _ {S : Type 0} (O : Object S) where
  -- A call may begin sooner: the lane is idle before events that are of others
  pub begins_sooner : BeginsSooner O
  begins_sooner t call between rest s lanes begun sets spared way =
      by (cut between (Begins t call ∷ rest) way.way)
    where
      by : InTwo O between (Begins t call ∷ rest) s lanes way.state way.last →
          Survives O (between ++ rest) s begun
      by two = sooner (begins_first O t call rest two.state two.lanes (leads_survive O two.behind))
        where
          sooner : BeginsAtOnce O t call rest two.state two.lanes →
              Survives O (between ++ rest) s begun
          sooner first = subst (Survives O (between ++ rest) s)
              (sets_alike lanes (set_of lanes t (Asks call)) begun t (Asks call) (sets_of lanes t (Asks call)) sets)
              (survives_on (beside t (Asks call) spared
              (λ c r asks gets. idle_or_asks (was_idle t spared first.idle two.before) asks) two.before)
              (first.survives (set_of two.lanes t (Asks call)) (sets_of two.lanes t (Asks call))))
