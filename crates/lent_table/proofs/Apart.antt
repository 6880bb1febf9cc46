-- Two seats, of one table or of two. Assumes `Logic`.
use Rattle.std.proofs.Common.{◌≡◌, ℕ, [], ◌∷◌, refl, ap}
use mathlib.Core.Logic.{dite}
use native.Mathlib.Decide.{ℕ_discrete}
use seplogic.Ra.Ura.{Ura}
use base.Fraction.{full_share}
use base.FractionLaws.{not-OpDef-full_share}
use base.Logic.{ent, sep, guard, guard_i, SProp}
use base.Fml.{fex}
use types.Logic.{Logic, sem}
use types.Kit.{‵, given, ◌⊛◌, ◌$◌, ◌∵◌, !, qed, by, move, keep, fsplit, fpick, learn, check, use2}
use types.Kit.{rewrite, done}
use types.Owned.{own_glued}
use denote.RattleType.{RattleType}
use Rattle.counted_slot.specs.Counting.{rounds, tag, parts}
use Rattle.counted_slot.proofs.Parts.{none_beside}
use Rattle.lent_table.specs.Table.{Hold, none, reads, writes}
use Rattle.lent_table.specs.Lending.{TableId, writing, hold_owns}

none_writes : {T : Type 0} (x : T) → none ≡ writes x → ⊥
none_writes x e = cc

reads_writes : {T : Type 0} (y x : T) → reads y ≡ writes x → ⊥
reads_writes y x e = cc

-- where the first may write, the second has nothing
abbrev pub Alone : {T : Type 0} → TableId → TableId → Hold T → Hold T → Type 0
Alone {T} z u o v = u ≡ z → (x : T) → o ≡ writes x → v ≡ none

module _ {M : Type 1} {𝓤 : Ura M} (𝓛 : Logic 𝓤) (R : RattleType) (z u : TableId) where
  abbrev Both : Hold R.Denot → Hold R.Denot → SProp 𝓤
  Both o v = sep 𝓤 (sem 𝓛 (hold_owns R z o)) (sem 𝓛 (hold_owns R u v))

  -- whoever may write has the whole name of the round, and nobody a part of it beside
  stands_alone : (x : R.Denot) (v : Hold R.Denot) → u.round_name ≡ z.round_name
      → ent 𝓤 (Both (writes x) v) (guard 𝓤 (v ≡ none) (Both (writes x) v))
  stands_alone x none e = guard_i 𝓤 (none ≡ none) _ refl
  stands_alone x (reads y) e = qed 𝓛 (‵ (fex ℕ (writing R z x)) ∷ ‵ (hold_owns R u (reads y)) ∷ []) ∵
      fpick ! (λ a. fsplit ! $
      move ! (2 ∷ []) $ fsplit ! $ fpick ! (λ c. fsplit ! $ rewrite ! 0 (λ (γ : ℕ). ‵ (parts γ c 1)) e refl $
      keep ! (3 ∷ 0 ∷ []) $
      by ! (none_beside 𝓛 z.round_name c a 1 _)))
  stands_alone x (writes y) e = qed 𝓛 (‵ (fex ℕ (writing R z x)) ∷ ‵ (fex ℕ (writing R u y)) ∷ []) ∵
      fpick ! (λ a. fsplit ! $ move ! (2 ∷ []) $ fpick ! (λ c. fsplit ! $
      rewrite ! 0 (λ (γ : ℕ). ‵ (tag γ full_share c)) e refl $ keep ! (2 ∷ 0 ∷ []) $
      by ! (own_glued 𝓛 rounds z.round_name (full_share, a) (full_share, c) _ (λ k m.
      absurd (not-OpDef-full_share full_share m.0.0)))))

  pub alone : (o v : Hold R.Denot) → ent 𝓤 (Both o v) (guard 𝓤 (Alone z u o v) (Both o v))
  alone none v = guard_i 𝓤 (Alone z u none v) _ (λ e x w. absurd (none_writes x w))
  alone (reads y) v = guard_i 𝓤 (Alone z u (reads y) v) _ (λ e x w. absurd (reads_writes y x w))
  alone (writes y) v = dite (ℕ_discrete u.round_name z.round_name)
      (λ same. qed 𝓛 (‵ (hold_owns R z (writes y)) ∷ ‵ (hold_owns R u v) ∷ []) ∵
      use2 𝓛 (given (v ≡ none) (‵ (hold_owns R z (writes y)) ⊛ ‵ (hold_owns R u v))) (stands_alone y v same) $
      learn ! (λ so. check ! (λ e x w. so) $ done !))
      (λ other. guard_i 𝓤 (Alone z u (writes y) v) _ (λ e x w. absurd (other (ap (λ (i : TableId). i.round_name) e))))
