-- Each step is made beside the other seat.
use Rattle.stamped_value.proofs.handle.ValueHandle.meet.Given as goal

abbrev pub ghosts-meet : goal.ghosts-meet
ghosts-meet g a = record { limits = a.table.now.key.limits; other = a.other.now.me.0 }

abbrev pub ghosts-follow : goal.ghosts-follow
ghosts-follow g a = record { limits = a.table.now.key.limits; other = a.other.now.me.0 }
