-- Points give an order.
use Rattle.std.proofs.Common.{◌≡◌, ℕ, ◌+◌, ◌*◌, ◌<◌, List, [], ◌∷◌, length, refl, sym, ◌∙◌}
use Rattle.std.proofs.Common.{ap, arith, Option, None, Some}
use Rattle.std.specs.Prelude.{MatchOption}
use Rattle.std.specs.List.{All, AllPairs, AllZip, AllAdjacentBelow}
use Rattle.std.proofs.lemmas.List.{get_or-map, length-map}
use Rattle.std.proofs.lemmas.List.Sorted.{IsNonDecreasingBy-from_all_adjacent}
use Rattle.stamp_core.specs.History.{History}
use Rattle.stamp_core.specs.Linearized.{HasPointInside, history_of as entries_history}
use Rattle.stamp_core.specs.declared.entry.Entry.{Entry}
use Rattle.stamp_core.specs.declared.call.Call.{Call}
use Rattle.stamp_explain.specs.declared.observed.Observation.{Observation}
use Rattle.stamp_explain.specs.declared.observed.Returned.{Returned}
use Rattle.stamp_explain.specs.Explained.{Effect, IsEffectOf, history_of, indices_of, RespectsBefore}
use Rattle.stamp_explain.specs.Points.{IsEntryOf}
use Rattle.stamp_explain.specs.ExplainLaws.{PointsExplain}
use Rattle.stamp_explain.proofs.Cutting.{some_before}
use Rattle.stamp_explain.proofs.Lists.{zip_all, zip_pairs}

-- the effect that an entry tells
record IsOfEntry (hs : List Observation) (e : Entry) (x : Effect) : Type 0 where
  is : IsEntryOf hs x.index e
  entry : x.entry ≡ is.observed
  reply : x.reply ≡ e.reply

record AreOfEntries (hs : List Observation) (is : List ℕ) (es : List Entry) : Type 0 where
  order : List Effect
  indices : indices_of order ≡ is
  history : entries_history es ≡ history_of order
  each : AllZip (IsOfEntry hs) es order

order_of : (hs : List Observation) (is : List ℕ) (es : List Entry) → AllZip (IsEntryOf hs) is es →
    AreOfEntries hs is es
order_of hs [] [] z = record { order = []; indices = refl; history = refl; each = tt }
order_of hs [] (e ∷ es) z = absurd z
order_of hs (i ∷ is) [] z = absurd z
order_of hs (i ∷ is) (e ∷ es) z =
    let rest : AreOfEntries hs is es = order_of hs is es z.1 in
    record {
      order = record { index = i; entry = z.0.observed; reply = e.reply } ∷ rest.order;
      indices = ap (λ (js : List ℕ). i ∷ js) rest.indices;
      history = ap (λ (c : Call). (c, e.reply) ∷ entries_history es) z.0.call ∙
          ap (λ (h : History). (z.0.observed.call, e.reply) ∷ h) rest.history;
      each = (record { is = z.0; entry = refl; reply = refl }, rest.each);
    }

effect_of : (hs : List Observation) (e : Entry) (x : Effect) → IsOfEntry hs e x → IsEffectOf hs x
effect_of hs e x of = record {
  is_entry = rw of.entry of.is.is_entry;
  replies = rw (of.entry, of.reply) (by of.is.observed.returned of.is.returned);
}
  where
    by : (o : Option Returned) → MatchOption o (Unit {0}) (λ (r : Returned). (e.reply ≡ r.reply) ×
        (e.last ≡ 64 * r.last + 63)) → MatchOption o (Unit {0}) (λ (r : Returned). r.reply ≡ e.reply)
    by None h = tt
    by (Some r) h = sym h.0

-- a later point is of a call that had not returned when the earlier one began
record IsLater (e f : Entry) : Type 0 where
  first : HasPointInside e
  second : HasPointInside f
  rising : e.point < f.point

respects : (hs : List Observation) (e f : Entry) (x y : Effect) → IsOfEntry hs e x → IsOfEntry hs f y → IsLater e f →
    RespectsBefore x y
respects hs e f x y x_of y_of later before =
    let found = some_before y.entry x.entry before in
    let last = rw (sym (ap (λ (o : Observation). o.returned) y_of.entry) ∙ found.1.0) at y_of.is.returned in
    let first : x.entry.first ≡ x_of.is.observed.first = ap (λ (o : Observation). o.first) x_of.entry in
    omega (arith, last.1, first, found.1.1, x_of.is.first, later.first.begun, later.second.ended, later.rising)

all_later : (es : List Entry) → All HasPointInside es →
    AllAdjacentBelow (λ (e f : Entry). e.point < f.point) es (length es) → AllPairs IsLater es
all_later es within rising i j d lt inside = record {
  first = within i d (omega arith);
  second = within j d inside;
  rising = omega (
    arith,
    rising i d (omega arith),
    IsNonDecreasingBy-from_all_adjacent (λ (e : Entry). e.point) es (λ k d lt. omega (arith, rising k d lt)) (i + 1)
        j d (omega arith) inside,
  );
}

pub points_explain : PointsExplain
points_explain h r of linearized = record {
  order = made.order;
  by = record {
    effects = zip_all (IsOfEntry h.entries) (λ _. Unit {0}) (IsEffectOf h.entries) r.entries made.order
        (λ e x is _. effect_of h.entries e x is) made.each (λ _ _ _. tt);
    once = λ i j d lt within same. (rw (← made.indices) at of.once) i j d.index lt
        (omega (arith, length-map made.order (λ (x : Effect). x.index)))
        (get_or-map (λ (x : Effect). x.index) made.order i d d.index (omega arith) ∙ same ∙
        sym (get_or-map (λ (x : Effect). x.index) made.order j d d.index within));
    returned = λ i e at has. rw made.indices (of.returned i e at has);
    ordered = zip_pairs (IsOfEntry h.entries) IsLater RespectsBefore r.entries made.order (respects h.entries)
        made.each (all_later r.entries linearized.within linearized.rising);
    legal = rw (of.limits, of.width, made.history) at linearized.legal;
  };
}
  where
    made : AreOfEntries h.entries of.indices r.entries
    made = order_of h.entries of.indices r.entries of.entries
