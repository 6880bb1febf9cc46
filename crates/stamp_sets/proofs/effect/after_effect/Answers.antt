use Rattle.stamp_sets.specs.Judged.{judged}
use Rattle.std.proofs.Common.{ℕ, ◌≡◌}
use Rattle.std.specs.Int.{bit_at}
use Rattle.stamp_sets.proofs.Effects.{settles_among, state_left}
use Rattle.stamp_sets.proofs.effect.after_effect.Goals as goal

pub settled-requires : goal.settled-requires
settled-requires c = state_left (judged c.args.object.now) c.args.position.state c.in-Some.state c.args.begun.now
    c.requires.state c.in-Some.ensures

pub returns-in-Some : goal.returns-in-Some
returns-in-Some c = record {
  between = record { state = c.in-Some.state; in_effect = c.with_lane.result; free = c.free_after.result };
  takes = record {
    begun = c.args.begun.now;
    is_open = c.requires.is_open;
    free = c.requires.unused;
    effect = c.in-Some.ensures;
    sets = c.with_lane.ensures;
  };
  frees = c.free_after.ensures;
  settles = settles_among (judged c.args.object.now) c.args.table.now (λ (l : ℕ). bit_at c.args.busy l ≡ 1)
      (λ (l : ℕ). Unit {0}) _ _ (λ l is. tt) c.settled.ensures.settles;
}
