use denote.RattleType.{RattleType}
use denote.Param.Send.{IsSend, IsSync}
use Rattle.lent_table.specs.contracts.shared.Seat.{the_row}
use Rattle.lent_table.proofs.Sending.{seat_keyless}

pub send : (T V : RattleType) → IsSend T → IsSync T → IsSend (the_row T V)
send T V s y = record {
  owned = λ d vs. ((λ vss. (tt, ((λ uss. (tt, tt)), tt))), seat_keyless T s y d.table_id V.coded.code d.id d.me);
  leaving = λ k f vs. tt;
}
