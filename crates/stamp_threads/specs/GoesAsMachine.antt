-- A lock call on the running word goes as its machine does.
use Rattle.std.specs.Prelude.{ℕ, List, Some, Result, Ok, Err}
use Rattle.stamp_core.specs.Limits.{Bounds}
use Rattle.stamp_core.specs.declared.call.Call.{Call}
use Rattle.stamp_core.specs.declared.reply.Reply.{Reply}
use Rattle.stamp_machines.specs.Machine.{Finds}
use Rattle.stamp_machines.specs.MachineState.{start, lock_alone, on_lock_alone}
use Rattle.stamp_machines.specs.declared.machine.Turn.{Turn}
use Rattle.stamp_machines.specs.declared.machine.Turn.TheVariants.{Going, Done}
use Rattle.stamp_threads.specs.declared.lost.Lost.{Lost}
use Rattle.stamp_threads.specs.PassView.{HasFound}
use Rattle.stamp_threads.specs.LockPass.{LockPassView}

-- the accesses of the call's machine found the words that the pass found between v and w, and the
-- machine stands here after them
abbrev pub GoesAsMachine : Bounds → Call → LockPassView → LockPassView → Turn → Type 0
GoesAsMachine limits call v w turn = (words : List ℕ) × HasFound v words w ×
    Finds words (Going (start (lock_alone limits) call)) turn

-- where the machine of a call stands that was made once: it has ended, or is to exchange the word that
-- its exchange found
abbrev pub turn_once : Bounds → Call → Result Reply Lost → Turn
turn_once limits call (Ok reply) = Done reply
turn_once limits call (Err lost) = Going (on_lock_alone limits call (Some lost.found))
