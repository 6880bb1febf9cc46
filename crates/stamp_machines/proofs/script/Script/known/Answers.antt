use Rattle.stamp_machines.proofs.ScriptsAreSound.{sound}
use Rattle.stamp_machines.proofs.script.Script.known.Goals as goal

pub returns-clause-sound : goal.returns-clause-sound
returns-clause-sound c =
    rw c.self.view_is at (sound c.self.inside c.layout.ensures.in_range c.self.invariant)
