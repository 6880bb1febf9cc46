use Rattle.std.proofs.Common.{◌++◌, ◌∷◌, [], None, ap, ◌∙◌}
use Rattle.std.proofs.lemmas.List.{map-append, replicate-append-replicate}
use Rattle.stamp_machines.specs.StateFields.{begun_in}
use Rattle.stamp_machines.proofs.WorkerStamps.{stamps_at-none_more}
use Rattle.stamp_machines.proofs.state.RunState.new.Goals as goal

pub loop-preserved : goal.loop-preserved
loop-preserved c =
    let kept = c.loop.invariant in
    rw c.in_ok-push.ensures.items record {
      begun =
          map-append begun_in c.loop.workers.items _
          ∙ ap (λ begun. begun ++ None ∷ []) kept.begun
          ∙ replicate-append-replicate c.loop.counter 1 None;
      stamps = λ t. stamps_at-none_more c.loop.workers.items _ t c.new.ensures.items (kept.stamps t);
    }
