use Rattle.std.proofs.Common.{refl, sym, ◌∙◌, inl, inr}
use Rattle.std.proofs.lemmas.Bool.{false≢true}
use Rattle.stamp_sets.specs.Judged.{judged}
use Rattle.stamp_sets.specs.inner.Effect.Settles.{as_it_is}
use Rattle.stamp_sets.proofs.CountingLanes.{bit_free}
use Rattle.stamp_sets.proofs.Effects.{none_found, takes_at_once}
use Rattle.stamp_sets.proofs.effect.at_once.Goals as goal

pub returns-then-has_lane : goal.returns-then-has_lane
returns-then-has_lane c = record {
  settles = λ table is_open. as_it_is;
  whole = λ reads. inl (c.has_lane.ensures.0 c.if-has_lane.true);
}

pub returns-then-not-is_unchanging : goal.returns-then-not-is_unchanging
returns-then-not-is_unchanging c = record {
  settles = λ table is_open. as_it_is;
  whole = λ reads. absurd (false≢true (sym c.if-not-is_unchanging.true ∙
      c.is_unchanging.ensures.value ∙ reads));
}

pub returns-then-not-is_some : goal.returns-then-not-is_some
returns-then-not-is_some c = record {
  settles = λ table is_open. as_it_is;
  whole = λ reads. inr (none_found (judged c.args.object.now) c.args.begun.now c.args.position.state
      c.state_after.result (sym c.is_some.ensures ∙ c.if-not-is_some.true) c.state_after.ensures);
}

pub returns : goal.returns
returns c = record {
  settles = λ table is_open. takes_at_once (judged c.args.object.now) c.args.begun.now table c.args.position
      (record { state = c.args.position.state; in_effect = c.with_lane.result; free = c.without_lane.result })
      c.args.lane c.state_after.result is_open refl
      (bit_free c.args.position.in_effect c.args.lane c.has_lane.result c.has_lane.ensures c.if-has_lane.false)
      c.with_lane.ensures c.without_lane.ensures (c.is_unchanging.ensures.unchanging c.args.object.now
      c.if-not-is_unchanging.false) (sym c.is_some.ensures ∙ c.if-not-is_some.false)
      c.state_after.ensures;
  whole = λ reads. inl c.with_lane.ensures.here;
}
