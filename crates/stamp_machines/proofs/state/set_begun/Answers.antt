use Rattle.std.proofs.Common.{sym}
use Rattle.std.proofs.lemmas.List.{map-set}
use Rattle.stamp_machines.specs.StateFields.{begun_in}
use Rattle.stamp_machines.proofs.WorkerStamps.{stamps_at-kept, stamps_at-index, room_at, room-set}
use Rattle.stamp_machines.proofs.state.set_begun.Goals as goal

pub returns-clause-begun : goal.returns-clause-begun
returns-clause-begun c = map-set begun_in c.args.workers.now c.args.thread _

pub returns-clause-stamps : goal.returns-clause-stamps
returns-clause-stamps c =
    λ t. stamps_at-kept c.args.workers.now c.args.thread t _ c.requires
    (sym (stamps_at-index c.args.workers.now c.args.thread c.index-workers-thread.result
    c.requires))

pub returns-clause-room : goal.returns-clause-room
returns-clause-room c =
    λ r. room-set c.args.workers.now c.args.thread _
    (room_at c.args.workers.now c.args.thread c.index-workers-thread.result c.requires r)
