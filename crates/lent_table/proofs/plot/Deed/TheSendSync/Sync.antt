use denote.RattleType.{RattleType}
use denote.Param.Send.{IsSend, IsSync, Frees, part_keyless}
use Rattle.core.specs.declared.alloc.Allocator.{Ghosts}
use Rattle.lent_table.specs.contracts.plot.Deed.{the_row}
use Rattle.lent_table.proofs.plot.Deed.TheSendSync.Send.{send}

pub sync : (X A : RattleType) (g : Ghosts A.Denot) → IsSend X → IsSend A → Frees g g.dealloc_token
    → IsSync (the_row X A g)
sync X A g s a f = record { shared = λ d b o ν q. part_keyless (the_row X A g) (send X A g s a f) q d b o }
