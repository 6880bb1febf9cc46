-- Nothing is lost by a call that begins later, where an older version is told behind it.
use Rattle.std.proofs.Common.{◌≡◌, ◌≢◌, ◌⊎◌, ◌<◌, ◌≤◌, ℕ, List, ◌∷◌, ◌++◌, sym, ◌∙◌, subst, inl, inr}
use Rattle.std.proofs.Common.{arith}
use Rattle.std.proofs.lemmas.Bool.{cases_eq}
use Rattle.stamp_core.specs.LockEvent.{write_count}
use Rattle.stamp_core.specs.Limits.{Bounds}
use Rattle.stamp_core.specs.declared.call.Call.{Call}
use Rattle.stamp_core.specs.declared.reply.Reply.{Reply}
use Rattle.stamp_runs.specs.declared.event.Event.{Event}
use Rattle.stamp_runs.specs.declared.event.Event.TheVariants.{Begins, Returns}
use Rattle.stamp_runs.specs.BothRun.{Both, State, start}
use Rattle.stamp_runs.specs.Run.{EndsBy, Lanes, Leads, Survives}
use Rattle.stamp_runs.specs.Run.EndsBy.{ends_next, ends_later}
use Rattle.stamp_runs.specs.Run.Leads.{leads_nowhere, by_effect, by_event}
use Rattle.stamp_runs.specs.Run.Phase.{Idle, Asks, Gets}
use Rattle.stamp_runs.proofs.Lanes.{open_apart, stays_beside, asks_or_gets, idle_or_asks, one_call, set_of, sets_of}
use Rattle.stamp_watch.proofs.Ways.{gotten_is_told, ends_past}
use Rattle.stamp_watch.specs.LateLaws.{LateLosesNothing, OlderIsTold, TellsLess}
use Rattle.stamp_watch.proofs.BeginningLate.{begins_late, older, version_stays}
use Rattle.stamp_watch.proofs.Form.{past_free}
use Rattle.stamp_watch.proofs.Surviving.{begins_first}

-- Where a call is open that tells an older version when it returns, the version is older.
open_tells : {limits : Bounds} {events : List Event} {s t : State} {a b : Lanes} (lane : ℕ) (call : Call)
    (reply : Reply) (version : ℕ) → a lane ≡ Asks call → EndsBy lane (Returns lane reply) events →
    TellsLess limits call reply version → Leads (Both limits) events s a t b → write_count s.0 < version
open_tells lane call reply version asks tells less leads_nowhere = elim tells [ ]
open_tells {limits} {s = s} {a = a} lane call reply version asks tells less
    (by_effect {next = next} {after = after} u c r asks_u step sets rest) = by (cases_eq u lane)
    (λ apart. open_tells lane call reply version (sets.others lane (λ is. apart (sym is)) ∙ asks) tells less rest)
  where
    stays : write_count s.0 ≤ write_count next.0
    stays = version_stays limits s next c r step

    by : (u ≡ lane) ⊎ (u ≢ lane) → (u ≢ lane → write_count next.0 < version) → write_count s.0 < version
    by (inr apart) later = let low : write_count next.0 < version = later apart in omega (arith, stays, low)
    by (inl is) later = let low : write_count next.0 < version = less s next (subst
        (λ (x : Reply). Both limits s call x next)
        (gotten_is_told lane r reply (subst (λ (v : ℕ). after v ≡ Gets r) is sets.here) tells rest)
        (subst (λ (x : Call). Both limits s x r next)
        (one_call (subst (λ (v : ℕ). a v ≡ Asks c) is asks_u) asks) step)) in omega (arith, stays, low)
open_tells lane call reply version asks ends_next less (by_event event happens rest) =
    absurd (asks_or_gets asks happens.0)
open_tells {a = a} lane call reply version asks (ends_later itself not tells) less
    (by_event {after = after} event happens rest) = open_tells lane call reply version
    (stays_beside a after event lane (open_apart a after event lane (λ idle. idle_or_asks idle asks) not happens)
    happens ∙ asks) tells less rest

pub older_is_told : OlderIsTold
older_is_told limits version events s lanes is way = older limits version is.before
    (Begins is.lane is.call ∷ is.behind) s lanes (λ v there then_way. open_tells is.lane is.call is.reply version
    (sets_of there is.lane (Asks is.call)).here is.tells is.older
    ((begins_first (Both limits) is.lane is.call is.behind v there then_way).survives
    (set_of there is.lane (Asks is.call)) (sets_of there is.lane (Asks is.call))).way)
    (subst (λ (es : List Event). Survives (Both limits) es s lanes) is.events_are way)

pub late_loses_nothing : LateLosesNothing
late_loses_nothing limits lane call reply version past between rest free never tells least told way =
    past_free (Both limits) start lane (Begins lane call ∷ between ++ rest) (between ++ Begins lane call ∷ rest) past
    late free way
  where
    late : (s : State) (lanes : Lanes) → lanes lane ≡ Idle →
        Survives (Both limits) (Begins lane call ∷ between ++ rest) s lanes →
        Survives (Both limits) (between ++ Begins lane call ∷ rest) s lanes
    late s lanes idle goes = begins_late limits lane call reply version between rest s lanes
        (set_of lanes lane (Asks call)) idle (sets_of lanes lane (Asks call))
        (ends_past between rest never tells) never least
        (λ v there on. older_is_told limits version rest v there told on)
        ((begins_first (Both limits) lane call (between ++ rest) s lanes goes).survives (set_of lanes lane (Asks call))
        (sets_of lanes lane (Asks call)))
