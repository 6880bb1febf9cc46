use denote.RattleType.{RattleType}
use denote.Param.Send.{IsSend, IsSync, sendable}
use denote.Struct.Struct.{Struct}
use denote.Struct.Owning.{shape}
use Rattle.lent_table.specs.declared.shared.TableRule.{Ghosts}
use Rattle.lent_table.specs.contracts.shared.Shared.{the_row, the_type}
use Rattle.lent_table.proofs.Sending.{shares_keyless}

pub sync : (T V K P : RattleType) (g : Ghosts P.Denot T.Denot V.Denot K.Denot) → IsSend T → IsSync T
    → IsSync (the_row T V K P g)
sync T V K P g s y = let fields : IsSync (Struct (shape (the_type T V K P g))) = search sendable depth 20 in record {
  shared = λ d b o ν. (
    fields.shared (d.word, (d.value, (tt, tt))) b o ν,
    shares_keyless T s y d.table_id V.coded.code (g.holds d.key) d.word d.value ν,
  );
}
