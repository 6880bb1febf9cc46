-- Sets of configurations, event by event.
use Rattle.std.proofs.Common.{List, [], ◌∷◌, ◌++◌, subst, append_assoc, arith}
use Rattle.std.specs.List.{Contains}
use Rattle.stamp_runs.specs.Object.{Object}
use Rattle.stamp_runs.specs.Run.{AreExplainedFrom, Lanes, Leads, Survives}
use Rattle.stamp_runs.specs.declared.event.Event.{Event}
use Rattle.stamp_runs.specs.Position.{OfSome}
use Rattle.stamp_runs.specs.Watching.{GoesOn, Kept, StandFor}
use Rattle.stamp_runs.proofs.Lanes.{leads_on}

module _ {S : Type 0} (O : Object S) where
  pub leads_survive : {events : List Event} {s t : S} {a b : Lanes} → Leads O events s a t b → Survives O events s a
  leads_survive way = record { state = _; last = _; way = way }

  pub none_among : (s : S) (lanes : Lanes) → OfSome O (Contains []) s lanes → ⊥
  none_among s lanes of = let few = of.among.1 in omega (arith, few)

  pub stand_on : (start : S) (past : List Event) (event : Event) (fits then_fits : List Event → Type 0)
      (old new : Kept S) → StandFor O start past fits old → GoesOn O event fits then_fits old new →
      StandFor O start (past ++ event ∷ []) then_fits new
  stand_on start past event fits then_fits old new stand goes = record {
    possible = λ s lanes is. let from = goes.comes s lanes is in
        leads_on (stand.possible from.state from.before from.among) from.leads;
    whole = λ future fit explained. goes.whole future fit (stand.whole (event ∷ future) (goes.fits_then future fit)
        (subst (AreExplainedFrom O start) (append_assoc past (event ∷ []) future) explained));
  }
