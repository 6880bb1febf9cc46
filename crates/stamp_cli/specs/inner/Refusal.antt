-- Which faults are of an end of the command.
use Rattle.std.specs.Prelude.{Bool, true, false}
use Rattle.stamp_cli.specs.declared.faults.ServeFault.{ServeFault}
use Rattle.stamp_cli.specs.declared.faults.ServeFault.TheVariants.{ReadFault, TooLong, Refused}
use Rattle.stamp_cli.specs.declared.faults.ServeFault.TheVariants.{Waits, Memory, WriteFault}
use Rattle.stamp_cli.specs.declared.faults.ServeFault.TheVariants.{BadReply}

-- an end of the command failed, and not what was read
abbrev pub is_of_end : ServeFault → Bool
is_of_end ReadFault = true
is_of_end TooLong = false
is_of_end (Refused e) = false
is_of_end (Waits i) = false
is_of_end Memory = false
is_of_end WriteFault = true
is_of_end (BadReply i) = false
