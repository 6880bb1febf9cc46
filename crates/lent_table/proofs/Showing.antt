-- A `&` to the table holds its invariant, and shows that its age lasts. Assumes `Logic`.
use Rattle.std.proofs.Common.{[], ◌∷◌}
use seplogic.Ra.Ura.{Ura}
use base.Logic.{ent, sep, wand, apply∗, snd∗}
use base.Fraction.{full_share}
use base.Stored.{Coded}
use base.Fml.{Lft, Share, Fml, fsep, fbor, flft, fshr_bor}
use types.Logic.{Logic, sem, lfts}
use types.Kit.{‵, raw, ◌⊛◌, later, ◌$◌, !, qed, move, drop, split, use1, use2, updating, await, now, done}
use types.Tokens.{bor_fracture}
use denote.RattleType.{RattleType}
use denote.RawPtr.{Ptr}
use denote.Sharing.{ShrLaws, one, said}
use denote.SharingLaws.{beside_shr_laws, one_shr_laws}
use denote.Struct.Lending.{Lends, Lends-both, Lends-first}
use Rattle.lent_table.specs.Table.{State}
use Rattle.lent_table.specs.Lending.{TableId, age, common, rights, table_owns, table_shares}
use Rattle.lent_table.proofs.Stepping.{common_twice}

-- what is known for good is lent as what is known
Known : {M : Type 1} {𝓤 : Ura M} (𝓛 : Logic 𝓤) (P : Fml) (l : Lft) → ent 𝓤 (sem 𝓛 P) (sep 𝓤 (sem 𝓛 P) (sem 𝓛 P))
    → Lends 𝓛 P (said P) l
Known {𝓤 = 𝓤} 𝓛 P l twice ν ts inc sp = let B = 𝓛.A.bor ν P in let Rest = sep 𝓤 B (lfts 𝓛 ts) in
    let Back = wand 𝓤 (sem 𝓛 P) (𝓛.H.⇛ Rest) in
    qed 𝓛 (raw B ∷ raw (lfts 𝓛 ts) ∷ []) {P = 𝓛.H.⇛ (sep 𝓤 (sem 𝓛 P) (lfts 𝓛 ts))} (updating ! $
    use2 𝓛 (later (‵ P ⊛ raw Back)) (𝓛.more.bor_acc_by ν ts P sp) $ await ! tt $ split ! $
    use1 𝓛 (‵ P ⊛ ‵ P) twice $ split ! $ move ! (0 ∷ 2 ∷ []) $
    use2 𝓛 (later (raw B ⊛ raw (lfts 𝓛 ts))) (apply∗ 𝓤 (sem 𝓛 P) (𝓛.H.⇛ Rest)) $ await ! tt $ split ! $ drop ! $
    move ! (1 ∷ 0 ∷ []) $ now ! $ done !)

module _ (R : RattleType) {V : Type 0} (cv : Coded V) (holds : State R.Denot V
    → Type 0) (w p : Ptr) (z : TableId) where
  abbrev C : Fml
  C = common R cv.code holds w p z

  abbrev lasts : Share → Fml
  lasts q = flft (age z) q

  pub table_laws : ShrLaws (table_shares R cv.code holds w p z)
  unfolding Rattle.lent_table.specs.Lending.under
  table_laws = beside_shr_laws (one lasts) (said C) (one_shr_laws lasts) record {
    contraction = λ M 𝓤 𝓛 ν. common_twice 𝓛 R cv holds w p z;
    mono = λ M 𝓤 𝓛 μ ν. snd∗ 𝓤 (sem 𝓛 (base.Before.before μ ν)) (sem 𝓛 C);
  }

  module _ {M : Type 1} {𝓤 : Ura M} (𝓛 : Logic 𝓤) (l : Lft) where
    shared_age : Lends 𝓛 (lasts full_share) (one lasts) l
    shared_age ν ts inc sp = let All = lasts full_share in
        qed 𝓛 (‵ (fbor ν All) ∷ raw (lfts 𝓛 ts) ∷ []) {P = 𝓛.H.⇛ (sep 𝓤 (sem 𝓛 (fshr_bor ν lasts)) (lfts 𝓛 ts))} (
        updating ! $ bor_fracture ! tt lasts full_share $ now ! $ done !)

    pub Lends-table : Lends 𝓛 (table_owns R cv.code holds w p z) (table_shares R cv.code holds w p z) l
    unfolding Rattle.lent_table.specs.Lending.under
    Lends-table = Lends-both 𝓛 (lasts full_share) (fsep C (rights R cv.code holds w p z)) (one lasts) (said C)
        l shared_age
        (Lends-first 𝓛 C (rights R cv.code holds w p z) (said C) l (Known 𝓛 C l (common_twice 𝓛 R cv holds w p z)))
