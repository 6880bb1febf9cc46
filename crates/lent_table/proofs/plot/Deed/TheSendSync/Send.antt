use mir.Raw.{raw}
use denote.Builtin.{RawPtr}
use denote.Memory.{lone}
use denote.RattleType.{RattleType}
use denote.Param.Send.{IsSend, Frees, owning_send, struct_send, sendable}
use denote.Struct.Owning.{shape, fields, to}
use denote.Struct.Struct.{exits_of}
use Rattle.core.specs.declared.alloc.Allocator.{Ghosts}
use Rattle.std_alloc.proofs.SendSync.{quiet}
use Rattle.lent_table.specs.contracts.plot.Deed.{the_row, the_type}

pub send : (X A : RattleType) (g : Ghosts A.Denot) → IsSend X → IsSend A → Frees g g.dealloc_token
    → IsSend (the_row X A g)
send X A g s a f = let D = the_type X A g in let pointer : IsSend RawPtr = search sendable in
    owning_send D (pointer, (a, tt)) (λ d. ((λ _. tt), f.frees d.alloc (raw (lone X.mir)) d.at))
    (λ k. quiet (to D) (exits_of k (fields D)) ((struct_send (shape D) (pointer, (a, tt))).leaving k))
