-- What is told of calls tells which of them goes first.
use Rattle.std.proofs.Common.{◌≡◌, ℕ, List, refl, sym, subst}
use Rattle.stamp_core.specs.declared.reply.Reply.{Reply}
use Rattle.stamp_runs.specs.declared.event.Event.{Event}
use Rattle.stamp_runs.specs.declared.event.Event.TheVariants.{Returns}
use Rattle.stamp_runs.specs.Run.{EndsBy, EndsNever, GoesFirst, ReturnsSooner}
use Rattle.stamp_runs.specs.Run.EndsBy.{ends_next, ends_later}
use Rattle.stamp_runs.specs.Run.GoesFirst.{goes_sooner, goes_endless}
use Rattle.stamp_runs.specs.Run.ReturnsSooner.{sooner_next, sooner_later}
use Rattle.stamp_runs.specs.Watching.{FitsOne, IsToldFirst, MayGet, Told}
use Rattle.stamp_runs.specs.Watching.Told.{Returning, Never}
use Rattle.stamp_runs.specs.RunLaws.{ToldGoesFirst}
use Rattle.stamp_runs.proofs.Endless.{never_here, never_later}

-- a call that returns does so sooner than one that never ends
sooner_than_never : (lane than : ℕ) (reply : Reply) {events : List Event} → EndsBy lane (Returns lane reply) events →
    EndsNever than events → ReturnsSooner lane than events
sooner_than_never lane than reply ends_next never = sooner_next reply
sooner_than_never lane than reply (ends_later {events = events} event not later) never = sooner_later event not
    (never_here event events than never)
    (sooner_than_never lane than reply later (never_later event events than never))

pub told_goes_first : ToldGoesFirst
told_goes_first told lane than reply events fits first may =
    by (told lane) (told than) refl refl first may (fits.each lane) (fits.each than)
  where
    by : (one other : Told) → told lane ≡ one → told than ≡ other → IsToldFirst one other → MayGet one reply →
        FitsOne lane one events → FitsOne than other events → GoesFirst lane than reply events
    by (Returning its place) (Returning answer later) is is_other sooner same ends ends_too = goes_sooner
        (subst (λ (r : Reply). EndsBy lane (Returns lane r) events) (sym same) ends)
        (fits.ordered lane than its answer place later is is_other sooner)
    by (Returning its place) Never is is_other sooner same ends never = goes_sooner
        (subst (λ (r : Reply). EndsBy lane (Returns lane r) events) (sym same) ends)
        (sooner_than_never lane than its ends never)
    by Never Never is is_other first any never never_too = goes_endless never never_too
    by _ _ is is_other first any ends ends_too = absurd first
