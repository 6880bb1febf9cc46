-- The law of a `&` to a `Seat`: it shows the value that the seat may see.
use Rattle.std.proofs.Common.{[], ◌∷◌}
use base.Share.{three_quarters}
use denote.RattleType.{RattleType}
use denote.Param.Laws.{Laws}
use denote.Param.Shared.{copy_shared}
use denote.Struct.Laws.{field_copy}
use denote.Struct.Lending.{of_Lends, Lends-first}
use denote.Struct.Tuple.{Tuple}
use Rattle.core.specs.contracts.marker.PhantomData as phantom
use Rattle.atomic_table.specs.Seated.{seen}
use Rattle.lent_table.specs.Lending.{hold_owns, hold_shares}
use Rattle.lent_table.specs.contracts.shared.Seat as seat
use Rattle.lent_table.proofs.shared.Seat.TheLaw.Statement.{statement}
use Rattle.lent_table.proofs.Seeing.{shares_laws, Lends-hold}

pub shares : (T V : RattleType) (L : Laws T) (LV : Laws V) → statement T V L LV
shares T V L LV =
    let Mark : RattleType = Tuple (T ∷ V ∷ []) in
    of_Lends (seat.struct T V) (seat.the_codes T.Denot V.Denot T.coded V.coded (phantom.the_row Mark).coded)
    (seat.the_heap T V) (seat.the_lent T V)
    (λ d p. shares_laws T L.shr_laws d.table_id d.me.1)
    (copy_shared (phantom.the_field Mark) (field_copy (phantom.the_type Mark) tt), tt)
    (λ M 𝓤 𝓛 d p. let l = (seat.the_row T V).lives in
    Lends-first 𝓛 (hold_owns T d.table_id d.me.1)
    (seen V.coded.code d.table_id.views_name d.id three_quarters d.me.0)
    (hold_shares T d.table_id d.me.1) l (Lends-hold 𝓛 T L.shr_laws d.table_id l d.me.1))
