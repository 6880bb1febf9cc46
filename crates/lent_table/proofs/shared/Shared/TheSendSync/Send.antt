use denote.RattleType.{RattleType}
use denote.Param.Send.{IsSend, IsSync}
use Rattle.lent_table.specs.declared.shared.TableRule.{Ghosts}
use Rattle.lent_table.specs.contracts.shared.Shared.{the_row}
use Rattle.lent_table.proofs.Sending.{owns_keyless}

pub send : (T V K P : RattleType) (g : Ghosts P.Denot T.Denot V.Denot K.Denot) → IsSend T → IsSync T
    → IsSend (the_row T V K P g)
send T V K P g s y = record {
  owned = λ d vs. (
    (λ vss. (tt, (tt, (tt, ((λ uss. (tt, tt)), tt))))),
    owns_keyless T s y d.table_id V.coded.code (g.holds d.key) d.word d.value,
  );
  leaving = λ k f vs. tt;
}
