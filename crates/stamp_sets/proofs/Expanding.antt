-- What follows a position, lane by lane.
use Rattle.std.proofs.Common.{ℕ, ◌≡◌, ◌≢◌, ◌⊎◌, ◌<◌, List, [], ◌∷◌, ◌++◌, Option, Some, None, sym, ◌∙◌, ap, subst}
use Rattle.std.proofs.Common.{inl, inr, arith}
use Rattle.std.specs.Int.{bit_at}
use Rattle.std.specs.List.{Contains}
use Rattle.std.proofs.lemmas.Bool.{cases_eq}
use Rattle.std.proofs.lemmas.List.Elements.{Contains-push, Contains-push_cases, Contains-append_left}
use Rattle.std.proofs.lemmas.List.Elements.{Contains-get_or}
use Rattle.std.proofs.lemmas.List.Quantifiers.{all_pairs_push}
use Rattle.std.proofs.lemmas.Nat.Bits.{bit_at-zero}
use Rattle.stamp_sets.specs.declared.open_call.OpenCall.{OpenCall}
use Rattle.stamp_sets.specs.declared.position.Position.{Position}
use Rattle.stamp_sets.specs.Judged.{Judged}
use Rattle.stamp_sets.specs.Told.{HasEachOpen, open_at}
use Rattle.stamp_sets.specs.inner.Effect.{IsAfterEffect, IsEffect, IsLeftOut}
use Rattle.stamp_sets.specs.Lanes.{SetsBit}
use Rattle.stamp_sets.specs.inner.Layer.{Adds, ComesAmong, Expands, FollowsIt, IsTried}
use Rattle.stamp_sets.specs.inner.Start.{Includes}
use Rattle.stamp_sets.proofs.Tables.{one_open}

-- a position that is added to a list
pub adds_none : (xs : List Position) (p : Position) → Contains xs p → Adds xs xs p
adds_none xs p has = record {
  has = has;
  grows = λ x is. is;
  only = λ x is. inl is;
  different = λ are. are;
}

pub adds_one : (xs ys : List Position) (p : Position) → ys ≡ xs ++ p ∷ [] → ¬ Contains xs p → Adds xs ys p
adds_one xs ys p are new = subst (λ (zs : List Position). Adds xs zs p) (sym are) (record {
  has = Contains-push xs p;
  grows = λ x is. Contains-append_left xs (p ∷ []) x is;
  only = λ x is. by x (Contains-push_cases xs p x is);
  different = λ apart. all_pairs_push (λ (a b : Position). a ≢ b) xs p apart
      (λ k d less same. new (subst (λ (a : Position). Contains xs a) same (Contains-get_or xs k d less)));
})
  where
    by : (x : Position) → Contains xs x ⊎ (p ≡ x) → Contains xs x ⊎ (x ≡ p)
    by x (inl is) = inl is
    by x (inr same) = inr (sym same)

module _ {S : Type 0} (o : Judged S) (table : List (Option OpenCall)) (awaited : ℕ) where
  pub tried_more : (p : Position) (lane : ℕ) (xs ys : List Position) → Includes xs ys → IsTried o table awaited p lane
      xs →
      IsTried o table awaited p lane ys
  tried_more p lane xs ys grows is = record { tried = λ begun is_open free. by begun (is.tried begun is_open free) }
    where
      by : (begun : OpenCall) →
          ComesAmong o table awaited p lane xs ⊎ (IsEffect o p.state begun None ⊎
          ((lane ≢ awaited) × IsLeftOut o table awaited p.in_effect lane begun)) →
          ComesAmong o table awaited p lane ys ⊎ (IsEffect o p.state begun None ⊎
          ((lane ≢ awaited) × IsLeftOut o table awaited p.in_effect lane begun))
      by begun (inl one) = inl (record {
        position = one.position;
        among = grows one.position one.among;
        after = one.after;
      })
      by begun (inr other) = inr other

  module _ (p : Position) where
    -- a lane that adds nothing
    left : (lane : ℕ) (xs : List Position) → IsTried o table awaited p lane xs →
        Expands o table awaited p (λ (l : ℕ). l ≡ lane) xs xs
    left lane xs is = record {
      grows = λ x among. among;
      only = λ x among. inl among;
      different = λ are. are;
      whole = λ l same. subst (λ (u : ℕ). IsTried o table awaited p u xs) (sym same) is;
    }

    pub expands_way : (lane : ℕ) (xs : List Position) (begun : OpenCall) → open_at table lane ≡ Some begun →
        lane ≢ awaited → IsLeftOut o table awaited p.in_effect lane begun → Expands o table awaited p
        (λ (l : ℕ). l ≡ lane) xs xs
    expands_way lane xs begun is_open apart way = left lane xs (record {
      tried = λ other also free. inr (inr (
        apart,
        subst (λ (b : OpenCall). IsLeftOut o table awaited p.in_effect lane b)
            (one_open table lane begun other is_open also) way,
      ));
    })

    pub expands_dead : (lane : ℕ) (xs : List Position) (begun : OpenCall) → open_at table lane ≡ Some begun →
        IsEffect o p.state begun None → Expands o table awaited p (λ (l : ℕ). l ≡ lane) xs xs
    expands_dead lane xs begun is_open none = left lane xs (record {
      tried = λ other also free. inr (inl (subst (λ (b : OpenCall). IsEffect o p.state b None)
          (one_open table lane begun other is_open also) none));
    })

    pub expands_one : (lane : ℕ) (xs ys : List Position) (q : Position) → lane < 64 → IsAfterEffect o table awaited p
        lane q →
        Adds xs ys q → Expands o table awaited p (λ (l : ℕ). l ≡ lane) xs ys
    expands_one lane xs ys q within is adds = record {
      grows = adds.grows;
      only = λ x among. by x (adds.only x among);
      different = adds.different;
      whole = λ l same. subst (λ (u : ℕ). IsTried o table awaited p u ys) (sym same) (record {
        tried = λ begun is_open free. inl (record { position = q; among = adds.has; after = is });
      });
    }
      where
        by : (x : Position) → Contains xs x ⊎ (x ≡ q) → Contains xs x ⊎ FollowsIt o table awaited p x
        by x (inl among) = inl among
        by x (inr same) = inr (subst (λ (y : Position). FollowsIt o table awaited p y) (sym same)
            (record { lane = lane; within = within; after = is }))

    -- lanes with no open call add nothing
    pub expands_start : (busy : ℕ) (xs : List Position) → HasEachOpen table busy →
        Expands o table awaited p (λ (l : ℕ). (l < 64) × (bit_at busy l ≢ 1)) xs xs
    expands_start busy xs has = record {
      grows = λ x among. among;
      only = λ x among. inl among;
      different = λ are. are;
      whole = λ l none. record { tried = λ begun is_open free. absurd (none.1 (has.each l begun is_open)) };
    }

    pub expands_next : (rest later k : ℕ) (xs ys zs : List Position) → SetsBit rest later k 0 →
        Expands o table awaited p (λ (l : ℕ). (l < 64) × (bit_at rest l ≢ 1)) xs ys →
        Expands o table awaited p (λ (l : ℕ). l ≡ k) ys zs →
        Expands o table awaited p (λ (l : ℕ). (l < 64) × (bit_at later l ≢ 1)) xs zs
    expands_next rest later k xs ys zs clears first more = record {
      grows = λ x among. more.grows x (first.grows x among);
      only = λ x among. by x (more.only x among);
      different = λ are. more.different (first.different are);
      whole = λ l none. one l none (cases_eq l k);
    }
      where
        by : (x : Position) → Contains ys x ⊎ FollowsIt o table awaited p x → Contains xs x ⊎ FollowsIt o table awaited
            p x
        by x (inl among) = first.only x among
        by x (inr follows) = inr follows

        one : (l : ℕ) → (l < 64) × (bit_at later l ≢ 1) → (l ≡ k) ⊎ (l ≢ k) → IsTried o table awaited p l zs
        one l none (inl same) = more.whole l same
        one l none (inr apart) = tried_more p l ys zs more.grows
            (first.whole l (none.0, (λ taken. none.1 (clears.others l apart ∙ taken))))

    pub expands_all : (rest : ℕ) (xs ys : List Position) → rest ≡ 0 →
        Expands o table awaited p (λ (l : ℕ). (l < 64) × (bit_at rest l ≢ 1)) xs ys →
        Expands o table awaited p (λ (l : ℕ). l < 64) xs ys
    expands_all rest xs ys none expands = record {
      grows = expands.grows;
      only = expands.only;
      different = expands.different;
      whole = λ l below. expands.whole l (below, (λ taken. unset l (ap (λ (n : ℕ). bit_at n l) (sym none) ∙ taken)));
    }
      where
        unset : (l : ℕ) → bit_at 0 l ≢ 1
        unset l taken = omega (arith, bit_at-zero l, taken)
