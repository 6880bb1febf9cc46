use Rattle.std.proofs.Common.{ℕ, ◌≡◌, true, Some, sym, ◌∙◌, ap}
use Rattle.std.specs.Option.{is_some}
use Rattle.std.proofs.lemmas.Bool.{false≢true}
use Rattle.stamp_sets.proofs.Effects.{some_number}
use Rattle.stamp_sets.specs.declared.ending.Ending.TheVariants.{Never}
use Rattle.stamp_sets.specs.declared.open_call.OpenCall.{OpenCall}
use Rattle.stamp_sets.specs.Judged.{guarded}
use Rattle.stamp_sets.specs.Unchanging.{reads_only}
use Rattle.stamp_sets.proofs.Thinning.{open_more}
use Rattle.stamp_sets.proofs.covering.with_kind.Goals as goal
use Rattle.stamp_sets.proofs.covering.with_kind.Goals.{in-Never, in_default}

pub returns : goal.returns
returns c table opens are = record {
  busy = are.busy;
  overwriting = open_more table (λ (b : OpenCall). (number : ℕ) × (guarded.overwrites b ≡ Some number))
      c.args.kinds.overwriting c.with_lane_if.result c.args.lane c.is_some.result c.args.begun.now opens
      (λ is. some_number (guarded.overwrites c.args.begun.now) (ap is_some (sym c.overwrites.ensures.value) ∙
      sym c.is_some.ensures ∙ is)) c.with_lane_if.ensures are.overwriting;
  reading = open_more table (λ (b : OpenCall). reads_only b ≡ true) c.args.kinds.reading c.with_lane_if-2.result
      c.args.lane c.is_unchanging.result c.args.begun.now opens (λ is. sym c.is_unchanging.ensures.value ∙ is)
      c.with_lane_if-2.ensures are.reading;
  endless = open_more table (λ (b : OpenCall). b.ends ≡ Never) c.args.kinds.endless c.with_lane_if-3.result c.args.lane
      c.match-matches.matches c.args.begun.now opens (λ is. never is) c.with_lane_if-3.ensures are.endless;
}
  where
    never : c.match-matches.matches ≡ true → c.args.begun.now.ends ≡ Never
    never is = elim c.match-matches.branch [
      | in-Never w ↦ w.in-Never.is
      | in_default w ↦ absurd (false≢true (sym w.matches-is ∙ is))
    ]
