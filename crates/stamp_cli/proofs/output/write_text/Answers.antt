use Rattle.std.proofs.Common.{ℕ, length-take, length-drop, arith}
use Rattle.stamp_cli.proofs.MadeSoFar as so_far
use Rattle.stamp_cli.proofs.Sent.{Appends-more}
use Rattle.stamp_cli.proofs.output.write_text.Goals as goal

pub loop-sent-preserved : goal.loop-sent-preserved
loop-sent-preserved g c =
    let once = c.in_ok-sent.ensures.once in
    record {
      within = omega (arith, c.in_ok-sent.ensures.taken.1, length-take {A = ℕ}, length-drop {A = ℕ});
      writes = so_far.more _ _ _ _ _ once.result c.loop-sent.invariant.writes once.added once.fault
          (omega (arith, once.bytes));
      front = Appends-more _ _ _ c.args.text.now c.loop-sent.sent c.in_ok-sent.field-0 c.loop-sent.invariant.front
          c.in_ok-sent.ensures.taken.2;
    }

pub returns-clause-failed : goal.returns-clause-failed
returns-clause-failed g c = so_far.none_passes _ _ _ _ (λ write takes. takes) c.loop-sent.invariant.writes
