use Rattle.std.proofs.Common.{sym, ◌∙◌, refl, arith}
use Rattle.std.proofs.lemmas.Result.{on_ok_weaker}
use Rattle.stamp_machines.proofs.WorkerStamps.{stamps_at-kept, stamps_at-index, begun-same}
use Rattle.stamp_machines.proofs.WorkerStamps.{room-set}
use Rattle.stamp_machines.proofs.state.reserve_stamp.Goals as goal

pub returns-clause-begun : goal.returns-clause-begun
returns-clause-begun c =
    begun-same c.args.workers.now c.args.thread _ c.index-workers-thread.result c.requires refl

pub returns-clause-stamps : goal.returns-clause-stamps
returns-clause-stamps c =
    λ t. stamps_at-kept c.args.workers.now c.args.thread t _ c.requires
    (c.reserve.ensures.items
    ∙ sym (stamps_at-index c.args.workers.now c.args.thread c.index-workers-thread.result
    c.requires))

pub returns-clause-room : goal.returns-clause-room
returns-clause-room c =
    on_ok_weaker c.reserve.result
    (λ h. room-set c.args.workers.now c.args.thread _ (omega (arith, h))) c.reserve.ensures.ok
