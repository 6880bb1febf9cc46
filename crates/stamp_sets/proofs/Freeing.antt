-- Which calls are free once one has taken effect that overwrites.
use Rattle.std.proofs.Common.{ℕ, ◌≡◌, ◌≢◌, ◌⊎◌, true, false, List, Option, Some, None, sym, ◌∙◌, ap, subst, inl, inr}
use Rattle.std.proofs.Common.{arith}
use Rattle.std.specs.Int.{bit_at}
use Rattle.std.proofs.lemmas.Bool.{cases_eq, false≢true}
use Rattle.std.proofs.lemmas.Nat.Bits.{bit_at-zero}
use Rattle.std.proofs.lemmas.Option.{none-some}
use Rattle.stamp_sets.specs.declared.open_call.OpenCall.{OpenCall}
use Rattle.stamp_sets.specs.Judged.{Judged}
use Rattle.stamp_sets.specs.Kept.{may_be_free}
use Rattle.stamp_sets.specs.Told.{HasEachOpen, open_at}
use Rattle.stamp_sets.specs.inner.Effect.{Frees, IsFreed}
use Rattle.stamp_sets.specs.Lanes.{SetsBit}
use Rattle.stamp_sets.proofs.Tables.{one_open}

module _ {S : Type 0} (o : Judged S) (table : List (Option OpenCall)) (awaited in_effect : ℕ) where
  -- a lane is left out that may not be freed
  pub frees_not : (lane free : ℕ) → ¬ IsFreed o table awaited in_effect lane →
      Frees o table awaited in_effect (λ (l : ℕ). l ≡ lane) free free
  frees_not lane free not = record {
    freed = λ l same is. absurd (not (subst (λ (u : ℕ). IsFreed o table awaited in_effect u) same is));
    stay = λ l is. is;
    only = λ l is. inr is;
  }

  pub not_awaited : (lane : ℕ) → lane ≡ awaited → ¬ IsFreed o table awaited in_effect lane
  not_awaited lane same is = is.apart same

  pub not_waiting : (lane : ℕ) → bit_at in_effect lane ≡ 1 → ¬ IsFreed o table awaited in_effect lane
  not_waiting lane taken is = let waits = is.is.waits in omega (arith, taken, waits)

  pub not_open : (lane : ℕ) → open_at table lane ≡ None → ¬ IsFreed o table awaited in_effect lane
  not_open lane idle is = none-some is.is.begun (sym idle ∙ is.is.is_open)

  pub not_kind : (lane : ℕ) (begun : OpenCall) → open_at table lane ≡ Some begun → may_be_free o begun ≡ false →
      ¬ IsFreed o table awaited in_effect lane
  not_kind lane begun is_open not is = false≢true (sym not ∙
      ap (may_be_free o) (one_open table lane begun is.is.begun is_open is.is.is_open) ∙ is.is.kind)

  pub frees_one : (lane old new : ℕ) (begun : OpenCall) → open_at table lane ≡ Some begun →
      may_be_free o begun ≡ true → bit_at in_effect lane ≡ 0 → lane ≢ awaited → SetsBit old new lane 1 →
      Frees o table awaited in_effect (λ (l : ℕ). l ≡ lane) old new
  frees_one lane old new begun is_open kind waits apart sets = record {
    freed = λ l same is. subst (λ (u : ℕ). bit_at new u ≡ 1) (sym same) sets.here;
    stay = λ l is. stay l is (cases_eq l lane);
    only = λ l is. only l is (cases_eq l lane);
  }
    where
      stay : (l : ℕ) → bit_at old l ≡ 1 → (l ≡ lane) ⊎ (l ≢ lane) → bit_at new l ≡ 1
      stay l is (inl same) = subst (λ (u : ℕ). bit_at new u ≡ 1) (sym same) sets.here
      stay l is (inr other) = sets.others l other ∙ is

      only : (l : ℕ) → bit_at new l ≡ 1 → (l ≡ lane) ⊎ (l ≢ lane) →
          IsFreed o table awaited in_effect l ⊎ (bit_at old l ≡ 1)
      only l is (inl same) = inl (subst (λ (u : ℕ). IsFreed o table awaited in_effect u) (sym same) (record {
        is = record { begun = begun; is_open = is_open; waits = waits; kind = kind };
        apart = apart;
      }))
      only l is (inr other) = inr (sym (sets.others l other) ∙ is)

  -- of all lanes with an open call
  pub frees_none : (busy free : ℕ) → HasEachOpen table busy →
      Frees o table awaited in_effect (λ (l : ℕ). bit_at busy l ≢ 1) free free
  frees_none busy free has = record {
    freed = λ l idle is. absurd (idle (has.each l is.is.begun is.is.is_open));
    stay = λ l is. is;
    only = λ l is. inr is;
  }

  pub frees_more : (rest later lane old now new : ℕ) → SetsBit rest later lane 0 →
      Frees o table awaited in_effect (λ (l : ℕ). bit_at rest l ≢ 1) old now →
      Frees o table awaited in_effect (λ (l : ℕ). l ≡ lane) now new →
      Frees o table awaited in_effect (λ (l : ℕ). bit_at later l ≢ 1) old new
  frees_more rest later lane old now new clears first more = record {
    freed = λ l not is. freed l not is (cases_eq l lane);
    stay = λ l is. more.stay l (first.stay l is);
    only = λ l is. only l (more.only l is);
  }
    where
      freed : (l : ℕ) → bit_at later l ≢ 1 → IsFreed o table awaited in_effect l → (l ≡ lane) ⊎ (l ≢ lane) →
          bit_at new l ≡ 1
      freed l not is (inl same) = more.freed l same is
      freed l not is (inr other) =
          more.stay l (first.freed l (λ set. not (clears.others l other ∙ set)) is)

      only : (l : ℕ) → IsFreed o table awaited in_effect l ⊎ (bit_at now l ≡ 1) →
          IsFreed o table awaited in_effect l ⊎ (bit_at old l ≡ 1)
      only l (inl is) = inl is
      only l (inr is) = first.only l is

  pub frees_all : (rest old new : ℕ) → rest ≡ 0 →
      Frees o table awaited in_effect (λ (l : ℕ). bit_at rest l ≢ 1) old new →
      Frees o table awaited in_effect (λ (l : ℕ). Unit {0}) old new
  frees_all rest old new none frees = record {
    freed = λ l any is. frees.freed l (unset l) is;
    stay = frees.stay;
    only = frees.only;
  }
    where
      unset : (l : ℕ) → bit_at rest l ≢ 1
      unset l set = let zero_bit = bit_at-zero l in
          let one : bit_at 0 l ≡ 1 = subst (λ (n : ℕ). bit_at n l ≡ 1) none set in omega (arith, zero_bit, one)
