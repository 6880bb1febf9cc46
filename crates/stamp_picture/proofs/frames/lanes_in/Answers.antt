use Rattle.std.proofs.Common.{◌∙◌, ◌+◌, ℕ, ap, sym, rules}
use Rattle.std.specs.Prelude.{max}
use Rattle.stamp_picture.proofs.OneByOne.{lanes_more}
use Rattle.stamp_picture.proofs.frames.lanes_in.Goals as goal

pub loop-bar-preserved : goal.loop-bar-preserved
loop-bar-preserved c =
    let bar = c.bar-item.result in
    record {
      few = search rules;
      is = c.max-lanes.ensures ∙ ap (λ (n : ℕ). max n (bar.lane + 1)) c.loop-bar.invariant.is
          ∙ sym (lanes_more c.args.bars.now c.loop-bar.bar-index bar c.loop-bar-test.true c.bar-item.is);
    }
