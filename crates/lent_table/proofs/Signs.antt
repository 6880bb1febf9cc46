-- Signs that a block opens. For its logic: what a formula means, `P ∗ Q` for P beside Q, and `P ⊢ Q` for P entails Q.
use Rattle.std.proofs.Common.{ℕ}
use seplogic.Ra.Ura.{Ura}
use base.Fraction.{full_share}
use base.Logic.{SProp, ent, sep}
use base.Fml.{Lft, Fml, fobs}
use types.Logic.{Logic, sem}
use denote.RattleType.{RattleType}
use denote.Memory.{part_at}
use denote.RawPtr.{Ptr, block_of, count_of}
use Rattle.lent_table.specs.Lending.{TableId, age, kept, shows}

pub record Signs {M : Type 1} (𝓤 : Ura M) : Type 2 where
  infixr 35 ◌∗◌
  infix 26 ◌⊢◌
  pub ⟦◌⟧ : Fml → SProp 𝓤
  pub ◌∗◌ : SProp 𝓤 → SProp 𝓤 → SProp 𝓤
  pub ◌⊢◌ : SProp 𝓤 → SProp 𝓤 → Type 1

abbrev pub signs : {M : Type 1} {𝓤 : Ura M} → Logic 𝓤 → Signs 𝓤
signs {𝓤 = 𝓤} 𝓛 = record { ⟦◌⟧ = sem 𝓛; ◌∗◌ = sep 𝓤; ◌⊢◌ = ent 𝓤 }

-- For a table: its values, the name of its rounds, its age, a value shown for reading, the value in its place as its
-- name says it is, a value in that place, and that the name says it
pub record TableSigns : Type 1 where
  pub T : Type 0
  pub γ : ℕ
  pub α : Lft
  pub V : T → Lft → Fml
  pub C : Fml
  pub At : T → Fml
  pub Obs : T → Fml

abbrev pub table_signs : RattleType → TableId → TableSigns
table_signs R z = record {
  T = R.Denot;
  γ = z.round_name;
  α = age z;
  V = shows R z;
  C = kept R z;
  At = λ x. part_at R full_share x z.block z.offset;
  Obs = λ x. fobs z.value_name (R.coded.code x);
}

-- For a pointer: the block that it points into, and how far in
pub record Spot : Type 0 where
  pub b : ℕ
  pub o : ℕ

abbrev pub spot : Ptr → Spot
spot w = record { b = block_of w; o = count_of w }
