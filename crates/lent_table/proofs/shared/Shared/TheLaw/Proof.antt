-- The law of a `&` to a `Shared`.
use Rattle.std.proofs.Common.{[], ◌∷◌}
use denote.RattleType.{RattleType}
use denote.Param.Laws.{Laws}
use denote.Param.Shared.{copy_shared}
use denote.Struct.Field.{RawPtr-field}
use denote.Struct.Laws.{RawPtr-copy, field_copy}
use denote.Struct.Lending.{of_Lends}
use denote.Struct.Tuple.{Tuple}
use Rattle.core.specs.contracts.marker.PhantomData as phantom
use Rattle.lent_table.specs.declared.shared.TableRule.{Ghosts}
use Rattle.lent_table.specs.contracts.shared.Shared as table
use Rattle.lent_table.proofs.shared.Shared.TheLaw.Statement.{statement}
use Rattle.lent_table.proofs.Showing.{table_laws, Lends-table}

pub shares : (T V K P : RattleType) (g : Ghosts P.Denot T.Denot V.Denot K.Denot) (L : Laws T) (LV : Laws V)
    (LK : Laws K) (LP : Laws P) → statement T V K P g L LV LK LP
shares T V K P g L LV LK LP =
    let Mark : RattleType = Tuple (P ∷ V ∷ K ∷ []) in let pointer = copy_shared RawPtr-field RawPtr-copy in
    of_Lends (table.struct T V K P g) (table.the_codes T.Denot V.Denot K.Denot P.Denot T.coded V.coded K.coded
    P.coded (phantom.the_row Mark).coded)
    (table.the_heap T V K P g) (table.the_lent T V K P g) (λ d p.
    table_laws T V.coded (g.holds d.key) d.word d.value d.table_id)
    (pointer, (pointer, (copy_shared (phantom.the_field Mark) (field_copy (phantom.the_type Mark) tt), tt)))
    (λ M 𝓤 𝓛 d p. Lends-table T V.coded (g.holds d.key) d.word d.value d.table_id 𝓛 (table.the_row T V K P g).lives)
