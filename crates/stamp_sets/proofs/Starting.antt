-- The first layer on the way to a return.
use Rattle.std.proofs.Common.{ℕ, ◌≡◌, ◌≢◌, ◌⊎◌, ◌<◌, List, [], ◌∷◌, ◌++◌, Option, Some, None, refl, sym, ◌∙◌, ap, subst}
use Rattle.std.proofs.Common.{inl, inr, arith}
use Rattle.std.specs.Int.{bit_at}
use Rattle.std.specs.List.{All, Contains}
use Rattle.std.proofs.lemmas.Bool.{cases_eq}
use Rattle.std.proofs.lemmas.List.Elements.{Contains-append_cases, Contains-append_left, Contains-append_right}
use Rattle.std.proofs.lemmas.List.Elements.{All-contains, Contains-push, Contains-push_cases}
use Rattle.std.proofs.lemmas.Nat.Bits.{bit_at-zero}
use Rattle.std.proofs.lemmas.Option.{none-some, same_Some}
use Rattle.stamp_sets.specs.declared.open_call.OpenCall.{OpenCall}
use Rattle.stamp_sets.specs.declared.position.Position.{Position}
use Rattle.stamp_sets.specs.Judged.{Judged}
use Rattle.stamp_sets.specs.Told.{open_at}
use Rattle.stamp_sets.specs.inner.Effect.{GivesWayAmong}
use Rattle.stamp_sets.specs.Lanes.{SetsBit}
use Rattle.stamp_sets.specs.inner.Layer.{Adds}
use Rattle.stamp_sets.specs.inner.Start.{HidesAmong, HidesEach, HidesInVain, HidesOne, Hides, Includes, IsFixed}
use Rattle.stamp_sets.specs.inner.Start.{IsHidden, IsHiddenFor, IsTakenFrom, IsTakenUp, IsTriedFor, StartsWith}
use Rattle.stamp_sets.specs.inner.Start.{TakenFromOne, TakesUp}
use Rattle.stamp_sets.specs.inner.State.{IsState}
use Rattle.stamp_sets.proofs.Layering.{all_from, contains_one, none_in_nil}
use Rattle.stamp_sets.proofs.Tables.{one_open}

module _ {S : Type 0} (o : Judged S) (table : List (Option OpenCall)) (lane : ℕ) (p : Position) where
  Outcome : ℕ → ℕ → OpenCall → List Position → Type 0
  Outcome source number begun first = HidesAmong o table source number p first ⊎
      (HidesInVain o table source number lane p ⊎ GivesWayAmong o table p.free p.in_effect source begun)

  outcome_more : (source number : ℕ) (begun : OpenCall) (xs ys : List Position) → Includes xs ys →
      Outcome source number begun xs → Outcome source number begun ys
  unfolding Outcome
  outcome_more source number begun xs ys grows (inl one) =
      inl (record { position = one.position; among = grows one.position one.among; hidden = one.hidden })
  outcome_more source number begun xs ys grows (inr other) = inr other

  tried_for_more : (source : ℕ) (xs ys : List Position) → Includes xs ys → IsTriedFor o table lane p source xs →
      IsTriedFor o table lane p source ys
  unfolding Outcome
  tried_for_more source xs ys grows is = record {
    tried = λ begun number is_open leaves free. outcome_more source number begun xs ys grows
        (is.tried begun number is_open leaves free);
  }

  -- nothing is added for a source
  hides_left : (source : ℕ) (xs : List Position) → IsTriedFor o table lane p source xs →
      Hides o table lane p (λ (s : ℕ). s ≡ source) xs xs
  hides_left source xs is = record {
    grows = λ x among. among;
    only = λ x among. inl among;
    whole = λ s same. subst (λ (u : ℕ). IsTriedFor o table lane p u xs) (sym same) is;
  }

  pub hides_idle : (source : ℕ) (xs : List Position) → open_at table source ≡ None →
      Hides o table lane p (λ (s : ℕ). s ≡ source) xs xs
  hides_idle source xs idle = hides_left source xs (record {
    tried = λ begun number is_open leaves free. absurd (none-some begun (sym idle ∙ is_open));
  })

  module _ (source : ℕ) (begun : OpenCall) (is_open : open_at table source ≡ Some begun) where
    same_call : (other : OpenCall) → open_at table source ≡ Some other → begun ≡ other
    same_call other also = one_open table source begun other is_open also

    pub hides_other : (xs : List Position) → o.overwrites begun ≡ None →
        Hides o table lane p (λ (s : ℕ). s ≡ source) xs xs
    hides_other xs none = hides_left source xs (record {
      tried = λ other number also leaves free. absurd (none-some number
          (sym none ∙ ap o.overwrites (same_call other also) ∙ leaves));
    })

    pub hides_way : (xs : List Position) → GivesWayAmong o table p.free p.in_effect source begun →
        Hides o table lane p (λ (s : ℕ). s ≡ source) xs xs
    hides_way xs way = hides_left source xs (record {
      tried = λ other number also leaves free. inr (inr (subst
          (λ (c : OpenCall). GivesWayAmong o table p.free p.in_effect source c) (same_call other also) way));
    })

    module _ (number : ℕ) (leaves : o.overwrites begun ≡ Some number) (q : Position)
        (hidden : IsHidden o table source number p q) where
      same_number : (other : OpenCall) (m : ℕ) → open_at table source ≡ Some other → o.overwrites other ≡ Some m →
          number ≡ m
      same_number other m also leaves_it = same_Some number m
          (sym leaves ∙ ap o.overwrites (same_call other also) ∙ leaves_it)

      pub hides_vain : (xs : List Position) → bit_at q.in_effect lane ≡ 0 →
          Hides o table lane p (λ (s : ℕ). s ≡ source) xs xs
      hides_vain xs waits = hides_left source xs (record {
        tried = λ other m also leaves_it free. inr (inl (subst
            (λ (k : ℕ). HidesInVain o table source k lane p) (same_number other m also leaves_it)
            (record { position = q; hidden = hidden; waits = waits })));
      })

      pub hides_added : (xs ys : List Position) → bit_at p.free source ≡ 1 → bit_at q.in_effect lane ≡ 1 →
          Adds xs ys q → Hides o table lane p (λ (s : ℕ). s ≡ source) xs ys
      hides_added xs ys free taken adds = record {
        grows = adds.grows;
        only = λ x among. by x (adds.only x among);
        whole = λ s same. subst (λ (u : ℕ). IsTriedFor o table lane p u ys) (sym same) (record {
          tried = λ other m also leaves_it free_it. inl (subst (λ (k : ℕ). HidesAmong o table source k p ys)
              (same_number other m also leaves_it)
              (record { position = q; among = adds.has; hidden = hidden }));
        });
      }
        where
          by : (x : Position) → Contains xs x ⊎ (x ≡ q) →
              Contains xs x ⊎ ((s : ℕ) × HidesOne o table s lane p x)
          by x (inl among) = inl among
          by x (inr same) = inr (
            source,
            subst (λ (y : Position). HidesOne o table source lane p y) (sym same) (record {
              begun = begun;
              number = number;
              is_open = is_open;
              overwrites = leaves;
              free = free;
              hidden = hidden;
              answers = inr taken;
            }),
          )

  -- the free calls, one after the other
  pub hides_start : (xs : List Position) →
      Hides o table lane p (λ (s : ℕ). (s < 64) × (bit_at p.free s ≢ 1)) xs xs
  hides_start xs = record {
    grows = λ x among. among;
    only = λ x among. inl among;
    whole = λ s none. record { tried = λ begun number is_open leaves free. absurd (none.1 free) };
  }

  pub hides_next : (rest later k : ℕ) (xs ys zs : List Position) → SetsBit rest later k 0 →
      Hides o table lane p (λ (s : ℕ). (s < 64) × (bit_at rest s ≢ 1)) xs ys →
      Hides o table lane p (λ (s : ℕ). s ≡ k) ys zs →
      Hides o table lane p (λ (s : ℕ). (s < 64) × (bit_at later s ≢ 1)) xs zs
  hides_next rest later k xs ys zs clears first more = record {
    grows = λ x among. more.grows x (first.grows x among);
    only = λ x among. by x (more.only x among);
    whole = λ s none. one s none (cases_eq s k);
  }
    where
      by : (x : Position) → Contains ys x ⊎ ((s : ℕ) × HidesOne o table s lane p x) →
          Contains xs x ⊎ ((s : ℕ) × HidesOne o table s lane p x)
      by x (inl among) = first.only x among
      by x (inr hides) = inr hides

      one : (s : ℕ) → (s < 64) × (bit_at later s ≢ 1) → (s ≡ k) ⊎ (s ≢ k) → IsTriedFor o table lane p s zs
      one s none (inl same) = more.whole s same
      one s none (inr apart) = tried_for_more s ys zs more.grows
          (first.whole s (none.0, (λ set. none.1 (clears.others s apart ∙ set))))

  pub hides_all : (rest : ℕ) (xs ys : List Position) → rest ≡ 0 →
      Hides o table lane p (λ (s : ℕ). (s < 64) × (bit_at rest s ≢ 1)) xs ys →
      Hides o table lane p (λ (s : ℕ). s < 64) xs ys
  hides_all rest xs ys none hides = record {
    grows = hides.grows;
    only = hides.only;
    whole = λ s below. hides.whole s (below, (λ set. unset s (ap (λ (n : ℕ). bit_at n s) (sym none) ∙ set)));
  }
    where
      unset : (s : ℕ) → bit_at 0 s ≢ 1
      unset s set = let zero_bit = bit_at-zero s in omega (arith, zero_bit, set)

  -- the returning call's own ways
  pub hides_each_idle : (xs : List Position) → open_at table lane ≡ None → HidesEach o table lane p xs xs
  hides_each_idle xs idle = record {
    grows = λ x among. among;
    only = λ x among. inl among;
    whole = λ begun is_open. absurd (none-some begun (sym idle ∙ is_open));
  }

  module _ (begun : OpenCall) (is_open : open_at table lane ≡ Some begun) where
    as_found : (found : Option ℕ) (xs : List Position) → o.overwrites begun ≡ found →
        IsHiddenFor o table lane p xs found → (other : OpenCall) → open_at table lane ≡ Some other →
        IsHiddenFor o table lane p xs (o.overwrites other)
    as_found found xs is hidden other also =
        subst (λ (x : Option ℕ). IsHiddenFor o table lane p xs x)
        (sym is ∙ ap o.overwrites (one_open table lane begun other is_open also)) hidden

    pub hides_each_source : (xs ys : List Position) → o.overwrites begun ≡ None →
        Hides o table lane p (λ (s : ℕ). s < 64) xs ys → HidesEach o table lane p xs ys
    hides_each_source xs ys none hides = record {
      grows = hides.grows;
      only = hides.only;
      whole = as_found None ys none hides.whole;
    }

    pub hides_each_itself : (number : ℕ) (q : Position) (xs ys : List Position) → o.overwrites begun ≡ Some number →
        bit_at p.free lane ≡ 1 → IsHidden o table lane number p q → Adds xs ys q → HidesEach o table lane p xs ys
    hides_each_itself number q xs ys leaves free hidden adds = record {
      grows = adds.grows;
      only = λ x among. by x (adds.only x among);
      whole = as_found (Some number) ys leaves (record { position = q; among = adds.has; hidden = hidden });
    }
      where
        by : (x : Position) → Contains xs x ⊎ (x ≡ q) →
            Contains xs x ⊎ ((s : ℕ) × HidesOne o table s lane p x)
        by x (inl among) = inl among
        by x (inr same) = inr (
          lane,
          subst (λ (y : Position). HidesOne o table lane lane p y) (sym same) (record {
            begun = begun;
            number = number;
            is_open = is_open;
            overwrites = leaves;
            free = free;
            hidden = hidden;
            answers = inl refl;
          }),
        )

  -- a position that is taken up
  module _ (xs ys : List Position) (q : Position) (pushed : ys ≡ xs ++ q ∷ []) (fixed : IsFixed lane p q) where
    pushed_grows : Includes xs ys
    pushed_grows x among = subst (λ (zs : List Position). Contains zs x) (sym pushed)
        (Contains-append_left xs (q ∷ []) x among)

    pushed_has : Contains ys q
    pushed_has = subst (λ (zs : List Position). Contains zs q) (sym pushed) (Contains-push xs q)

    pushed_only : (x : Position) → Contains ys x → Contains xs x ⊎ IsTakenFrom o table lane p x
    pushed_only x among = by (Contains-push_cases xs q x (subst (λ (zs : List Position). Contains zs x) pushed among))
      where
        by : Contains xs x ⊎ (q ≡ x) → Contains xs x ⊎ IsTakenFrom o table lane p x
        by (inl is) = inl is
        by (inr same) = inr (inl (subst (λ (y : Position). IsFixed lane p y) same fixed))

    pub takes_hidden : (zs : List Position) → HidesEach o table lane p ys zs → TakesUp o table lane p xs zs
    takes_hidden zs hides = record {
      grows = λ x among. hides.grows x (pushed_grows x among);
      only = λ x among. by x (hides.only x among);
      whole = record {
        fixed = q;
        among = hides.grows q pushed_has;
        is = fixed;
        hidden = λ begun is_open free. hides.whole begun is_open;
      };
    }
      where
        by : (x : Position) → Contains ys x ⊎ ((s : ℕ) × HidesOne o table s lane p x) →
            Contains xs x ⊎ IsTakenFrom o table lane p x
        by x (inl among) = pushed_only x among
        by x (inr hidden) = inr (inr hidden)

module _ {S : Type 0} (o : Judged S) (table : List (Option OpenCall)) (lane : ℕ) where
  hidden_for_more : (p : Position) (found : Option ℕ) (xs ys : List Position) → Includes xs ys →
      IsHiddenFor o table lane p xs found → IsHiddenFor o table lane p ys found
  hidden_for_more p None xs ys grows is = λ source below. tried_for_more o table lane p source xs ys grows
      (is source below)
  hidden_for_more p (Some number) xs ys grows is =
      record { position = is.position; among = grows is.position is.among; hidden = is.hidden }

  taken_up_more : (p : Position) (xs ys : List Position) → Includes xs ys → IsTakenUp o table lane p xs →
      IsTakenUp o table lane p ys
  taken_up_more p xs ys grows is = record {
    fixed = is.fixed;
    among = grows is.fixed is.among;
    is = is.is;
    hidden = λ begun is_open free. hidden_for_more p (o.overwrites begun) xs ys grows (is.hidden begun is_open free);
  }

  -- the positions, one after the other
  pub starts_none : (xs : List Position) → xs ≡ [] → StartsWith o table lane [] xs
  starts_none xs none = record {
    each = λ x among. absurd (none_in_nil x among);
    only = λ x among. absurd (none_in_nil x (subst (λ (zs : List Position). Contains zs x) none among));
  }

  pub starts_more : (old : List Position) (p : Position) (xs ys : List Position) → StartsWith o table lane old xs →
      TakesUp o table lane p xs ys → StartsWith o table lane (old ++ p ∷ []) ys
  starts_more old p xs ys starts takes = record {
    each = λ x among. each x (Contains-append_cases old (p ∷ []) x among);
    only = λ x among. only x (takes.only x among);
  }
    where
      each : (x : Position) → Contains old x ⊎ Contains (p ∷ []) x → IsTakenUp o table lane x ys
      each x (inl among) = taken_up_more x xs ys takes.grows (starts.each x among)
      each x (inr among) = subst (λ (y : Position). IsTakenUp o table lane y ys) (contains_one p x among) takes.whole

      before : (x : Position) → TakenFromOne o table lane old x → TakenFromOne o table lane (old ++ p ∷ []) x
      before x one = record {
        from = one.from;
        among = Contains-append_left old (p ∷ []) one.from one.among;
        taken = one.taken;
      }

      only : (x : Position) → Contains xs x ⊎ IsTakenFrom o table lane p x →
          TakenFromOne o table lane (old ++ p ∷ []) x
      only x (inl among) = before x (starts.only x among)
      only x (inr taken) = record {
        from = p;
        among = Contains-append_right old (p ∷ []) p (Contains-push [] p);
        taken = taken;
      }

  -- numbers that come of states tell states
  pub states_start : (old first : List Position) → StartsWith o table lane old first →
      All (λ (p : Position). IsState o p.state) old → All (λ (p : Position). IsState o p.state) first
  states_start old first starts all =
      all_from (λ (p : Position). IsState o p.state) first (λ x among. at x (starts.only x among))
    where
      same : (p q : Position) → IsTakenFrom o table lane p q → q.state ≡ p.state
      same p q (inl fixed) = fixed.state
      same p q (inr hides) = hides.1.hidden.state

      at : (x : Position) → TakenFromOne o table lane old x → IsState o x.state
      at x one = subst (λ (n : ℕ). IsState o n) (sym (same one.from x one.taken))
          (All-contains (λ (p : Position). IsState o p.state) old one.from all one.among)
