-- Two orders, each with its last effect first, as one.
use Rattle.std.proofs.Common.{ℕ, ◌≡◌, ◌≤◌, ◌<◌, ◌-◌, List, [], ◌∷◌, ◌++◌, length, get_or, sym, ◌∙◌, ap}
use Rattle.std.proofs.Common.{◌⊎◌, inl, inr, subst, append-nil, append_assoc, arith}
use Rattle.std.specs.Prelude.{drop, map, reverse, take}
use Rattle.std.proofs.lemmas.Bool.{cases_lt}
use Rattle.std.proofs.lemmas.List.{take_all}
use Rattle.stamp_runs.specs.Merged.{Ascends, Merges}
use Rattle.stamp_runs.specs.Merged.Merges.{none_left, first_next, second_next}
use Rattle.stamp_runs.specs.Trace.{Taken}
use Rattle.stamp_sets.specs.declared.order.EffectAt.{EffectAt}
use Rattle.stamp_sets.specs.Order.{effect_at}
use Rattle.stamp_sets.proofs.ReadingBack.{last_first}
use Rattle.stamp_sets.specs.inner.Order.{IsNext, MergesTo, at_point, point_before}

-- what is left of both, and whatever is merged of that goes on to an order of both
pub record IsMerging (first second : List EffectAt) (ahead behind : ℕ) (order : List EffectAt)
    (one other : List Taken) :
    Type 0 where
  pub left : List Taken
  pub left_too : List Taken
  pub point : ℕ
  pub left_is : map effect_at left ≡ reverse (take ahead first)
  pub left_too_is : map effect_at left_too ≡ reverse (take behind second)
  pub ascends : Ascends point left
  pub ascends_too : Ascends point left_too
  pub goes_on : (rest : List Taken) → Merges left left_too rest → Ascends point rest →
      MergesTo one other (order ++ map effect_at rest)

pub record AreMerging (first second : List EffectAt) (ahead behind : ℕ) (order : List EffectAt) : Type 0 where
  pub ahead_in : ahead ≤ length first
  pub behind_in : behind ≤ length second
  pub merging : (one other : List Taken) → map effect_at one ≡ reverse first → map effect_at other ≡ reverse second →
      Ascends 0 one → Ascends 0 other → IsMerging first second ahead behind order one other

pub merging_none : (first second none : List EffectAt) → none ≡ [] →
    AreMerging first second (length first) (length second) none
merging_none first second none is = record {
  ahead_in = omega arith;
  behind_in = omega arith;
  merging = λ one other one_is other_is ascends ascends_too. record {
    left = one;
    left_too = other;
    point = 0;
    left_is = one_is ∙ ap (λ (xs : List EffectAt). reverse xs) (sym (take_all (length first) first (omega arith)));
    left_too_is = other_is ∙
        ap (λ (xs : List EffectAt). reverse xs) (sym (take_all (length second) second (omega arith)));
    ascends = ascends;
    ascends_too = ascends_too;
    goes_on = λ rest merges ascending. record {
      order = rest;
      merges = merges;
      ascends = ascending;
      effects_are = ap (λ (xs : List EffectAt). xs ++ map effect_at rest) (sym is);
    };
  };
}

-- both orders in turn
merges_flipped : {first second order : List Taken} → Merges first second order → Merges second first order
merges_flipped none_left = none_left
merges_flipped (first_next x rest) = second_next x (merges_flipped rest)
merges_flipped (second_next x rest) = first_next x (merges_flipped rest)

to_flipped : (one other : List Taken) (order : List EffectAt) → MergesTo one other order → MergesTo other one order
to_flipped one other order is = record {
  order = is.order;
  merges = merges_flipped is.merges;
  ascends = is.ascends;
  effects_are = is.effects_are;
}

merging_flipped : (first second : List EffectAt) (ahead behind : ℕ) (order : List EffectAt) →
    AreMerging first second ahead behind order → AreMerging second first behind ahead order
merging_flipped first second ahead behind order is = record {
  ahead_in = is.behind_in;
  behind_in = is.ahead_in;
  merging = λ one other one_is other_is ascends ascends_too.
      let was = is.merging other one other_is one_is ascends_too ascends in record {
        left = was.left_too;
        left_too = was.left;
        point = was.point;
        left_is = was.left_too_is;
        left_too_is = was.left_is;
        ascends = was.ascends_too;
        ascends_too = was.ascends;
        goes_on = λ rest merges ascending. to_flipped other one (order ++ map effect_at rest)
            (was.goes_on rest (merges_flipped merges) ascending);
      };
}

-- the first effect of what is left has the point of the one before the place
first_point : (x : Taken) (left : List Taken) (effects : List EffectAt) (place : ℕ) → place ≤ length effects →
    map effect_at (x ∷ left) ≡ reverse (take place effects) → (0 < place) × (x.point ≡ point_before effects place)
first_point x left effects place within is = by (cases_lt 0 place)
  where
    by : (0 < place) ⊎ (place ≤ 0) → (0 < place) × (x.point ≡ point_before effects place)
    by (inl some) = (
      some,
      ap (λ (es : List EffectAt). (get_or es 0 (at_point 0 0)).point)
          (is ∙ last_first effects place (at_point 0 0) some within),
    )
    by (inr none) = let no : place ≡ 0 = omega (arith, none) in let long = ap (λ (es : List EffectAt). length es)
        (is ∙ ap (λ (n : ℕ). reverse (take n effects)) no) in absurd (omega (arith, long))

pub merging_one : (first second : List EffectAt) (ahead behind : ℕ) (order new : List EffectAt) →
    IsNext first ahead second behind → new ≡ order ++ get_or first (ahead - 1) (at_point 0 0) ∷ [] →
    AreMerging first second ahead behind order → AreMerging first second (ahead - 1) behind new
merging_one first second ahead behind order new next pushed is = record {
  ahead_in = let within = is.ahead_in in omega (arith, within);
  behind_in = is.behind_in;
  merging = λ one other one_is other_is ascends ascends_too.
      let was = is.merging one other one_is other_is ascends ascends_too in
      step one other was.point was.left was.left_too (was.left_is ∙ last_first first ahead
      (at_point 0 0) next.some is.ahead_in)
      was.left_is was.left_too_is was.ascends was.ascends_too was.goes_on;
}
  where
    low : (point : ℕ) (y : Taken) (left_too : List Taken) → y.point ≡ point_before first ahead →
        map effect_at left_too ≡ reverse (take behind second) → Ascends point left_too → Ascends y.point left_too
    low point y [] at is_too ascends = tt
    low point y (z ∷ left_too) at is_too ascends =
        let that = first_point z left_too second behind is.behind_in is_too in
        let less = next.low that.0 in (omega (arith, at, that.1, less), ascends.1)

    step : (one other : List Taken) (point : ℕ) (left left_too : List Taken) →
        map effect_at left ≡ get_or first (ahead - 1) (at_point 0 0) ∷ reverse (take (ahead - 1) first) →
        map effect_at left ≡ reverse (take ahead first) →
        map effect_at left_too ≡ reverse (take behind second) → Ascends point left → Ascends point left_too →
        ((rest : List Taken) → Merges left left_too rest → Ascends point rest →
        MergesTo one other (order ++ map effect_at rest)) →
        IsMerging first second (ahead - 1) behind new one other
    step one other point [] left_too is_now is_all is_too ascends ascends_too goes =
        let long = ap (λ (es : List EffectAt). length es) is_now in absurd (omega (arith, long))
    step one other point (y ∷ left) left_too is_now is_all is_too ascends ascends_too goes = record {
      left = left;
      left_too = left_too;
      point = y.point;
      left_is = ap (λ (es : List EffectAt). drop 1 es) is_now;
      left_too_is = is_too;
      ascends = ascends.1;
      ascends_too = low point y left_too (first_point y left first ahead is.ahead_in is_all).1 is_too ascends_too;
      goes_on = λ rest merges ascending. subst (λ (es : List EffectAt). MergesTo one other es)
          (sym (ap (λ (es : List EffectAt). es ++ map effect_at rest) (pushed ∙
          ap (λ (es : List EffectAt). order ++ get_or es 0 (at_point 0 0) ∷ []) (sym is_now)) ∙
          append_assoc order (effect_at y ∷ []) (map effect_at rest)))
          (goes (y ∷ rest) (first_next y merges) (ascends.0, ascending));
    }

pub merging_other : (first second : List EffectAt) (ahead behind : ℕ) (order new : List EffectAt) →
    IsNext second behind first ahead → new ≡ order ++ get_or second (behind - 1) (at_point 0 0) ∷ [] →
    AreMerging first second ahead behind order → AreMerging first second ahead (behind - 1) new
merging_other first second ahead behind order new next pushed is =
    merging_flipped second first (behind - 1) ahead new (merging_one second first behind ahead order new next pushed
    (merging_flipped first second ahead behind order is))

-- nothing is left
pub merged_all : (first second : List EffectAt) (ahead behind : ℕ) (order : List EffectAt) → ahead ≡ 0 →
    behind ≡ 0 → AreMerging first second ahead behind order → (one other : List Taken) →
    map effect_at one ≡ reverse first → map effect_at other ≡ reverse second → Ascends 0 one → Ascends 0 other →
    MergesTo one other order
merged_all first second ahead behind order none none_too is one other one_is other_is ascends ascends_too =
    subst (λ (es : List EffectAt). MergesTo one other es) (append-nil order)
    (was.goes_on [] (both was.left was.left_too
    (was.left_is ∙ ap (λ (n : ℕ). reverse (take n first)) none)
    (was.left_too_is ∙ ap (λ (n : ℕ). reverse (take n second)) none_too)) tt)
  where
    was : IsMerging first second ahead behind order one other
    was = is.merging one other one_is other_is ascends ascends_too

    both : (left left_too : List Taken) → map effect_at left ≡ [] → map effect_at left_too ≡ [] →
        Merges left left_too []
    both [] [] is is_too = none_left
    both (x ∷ left) left_too is is_too = let long = ap (λ (es : List EffectAt). length es) is in
        absurd (omega (arith, long))
    both [] (x ∷ left_too) is is_too = let long = ap (λ (es : List EffectAt). length es) is_too in
        absurd (omega (arith, long))
