-- The turn of a machine that went on in place.
use Rattle.std.specs.Prelude.{Bool, true, false}
use Rattle.stamp_core.specs.declared.reply.Reply.{Reply}
use Rattle.stamp_machines.specs.MachineState.{MachineState}
use Rattle.stamp_machines.specs.declared.machine.Turn.{Turn}
use Rattle.stamp_machines.specs.declared.machine.Turn.TheVariants.{Going, Done}

-- the machine, or the reply once it has ended
abbrev pub turn_of : MachineState → Reply → Bool → Turn
turn_of machine reply false = Going machine
turn_of machine reply true = Done reply
