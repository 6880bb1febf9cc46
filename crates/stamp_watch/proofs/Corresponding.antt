-- Histories that correspond are explained alike: an order of the one is one of the other.
use Rattle.std.proofs.Common.{◌≡◌, ℕ, List, [], ◌∷◌, get_or, map, refl, sym, ◌∙◌, ap, subst, Option, Some, None}
use Rattle.std.specs.Prelude.{slice_get, option_map, MatchOption}
use Rattle.std.specs.List.{All, Contains}
use Rattle.std.proofs.lemmas.List.Elements.{All-head, All-tail, All-map}
use Rattle.std.proofs.lemmas.Option.{get_or_from_slice_get, none-some, same_Some}
use Rattle.stamp_core.specs.History.{IsLegal}
use Rattle.stamp_core.specs.Limits.{Bounds}
use Rattle.stamp_core.specs.declared.reply.Reply.{Reply}
use Rattle.stamp_explain.specs.declared.observed.Observation.{Observation}
use Rattle.stamp_explain.specs.declared.observed.Returned.{Returned}
use Rattle.stamp_explain.specs.Observed.{ObservedHistory, AllowsReply, HasReturned}
use Rattle.stamp_explain.specs.Explained.{Effect, IsEffectOf, AreOfTwoEntries, RespectsBefore, IsExplained}
use Rattle.stamp_explain.specs.Explained.{IsExplainedBy, history_of, indices_of}
use Rattle.stamp_watch.specs.Corresponding.{HasSameAt, Correspond}
use Rattle.stamp_watch.specs.WatchLaws.{PositionsTellOrder}
use Rattle.stamp_explain.proofs.Lists.{contains_map, pairs_map}

same_returned : (o p : Option Returned) →
    option_map (λ (r : Returned). r.reply) o ≡ option_map (λ (r : Returned). r.reply) p →
    (r : Returned) × (o ≡ Some r) → (r : Returned) × (p ≡ Some r)
same_returned None p same back = absurd (none-some back.0 back.1)
same_returned (Some q) None same back = absurd (none-some q.reply (sym same))
same_returned (Some q) (Some r) same back = (r, refl)

same_allows : (o p : Option Returned) (reply : Reply) →
    option_map (λ (r : Returned). r.reply) o ≡ option_map (λ (r : Returned). r.reply) p →
    MatchOption o (Unit {0}) (λ (r : Returned). r.reply ≡ reply) →
    MatchOption p (Unit {0}) (λ (r : Returned). r.reply ≡ reply)
same_allows None (Some r) reply same allows = absurd (none-some r.reply same)
same_allows (Some q) (Some r) reply same allows = sym (same_Some q.reply r.reply same) ∙ allows
same_allows _ None reply same allows = tt

module _ (g h : ObservedHistory) (are : Correspond g h) where
  abbrev pub there : Effect → Effect
  there x = record {
    index = are.there x.index;
    entry = get_or h.entries (are.there x.index) x.entry;
    reply = x.reply;
  }

  at : (x : Effect) → IsEffectOf g.entries x → HasSameAt h.entries (are.there x.index) x.entry
  at x is = are.forth.each x.index x.entry is.is_entry

  is_there : (x : Effect) (is : IsEffectOf g.entries x) → (there x).entry ≡ (at x is).entry
  is_there x is =
      get_or_from_slice_get h.entries (are.there x.index) (at x is).entry x.entry (at x is).is_entry

  pub entry_there : (x : Effect) → IsEffectOf g.entries x →
      slice_get h.entries (are.there x.index) ≡ Some (there x).entry
  entry_there x is = (at x is).is_entry ∙ ap (λ (e : Observation). Some e) (sym (is_there x is))

  effect_there : (x : Effect) → IsEffectOf g.entries x → IsEffectOf h.entries (there x)
  effect_there x is = record {
    is_entry = entry_there x is;
    replies = subst (λ (e : Observation). AllowsReply e x.reply) (sym (is_there x is))
        (same_allows x.entry.returned (at x is).entry.returned x.reply (at x is).same.reply is.replies);
  }

  two_there : (x y : Effect) → IsEffectOf g.entries x → IsEffectOf g.entries y → AreOfTwoEntries x y →
      AreOfTwoEntries (there x) (there y)
  two_there x y x_is y_is apart same = apart (sym (are.forth.own x.index x.entry x_is.is_entry) ∙
      ap are.back same ∙ are.forth.own y.index y.entry y_is.is_entry)

  order_there : (x y : Effect) → IsEffectOf g.entries x → IsEffectOf g.entries y → RespectsBefore x y →
      RespectsBefore (there x) (there y)
  order_there x y x_is y_is respects before = respects ((are.before y.index x.index y.entry x.entry (there y).entry
      (there x).entry y_is.is_entry x_is.is_entry (entry_there y y_is) (entry_there x x_is)).1 before)

  indices_there : (order : List Effect) → indices_of (map there order) ≡ map are.there (indices_of order)
  indices_there [] = refl
  indices_there (x ∷ order) = ap (λ (is : List ℕ). are.there x.index ∷ is) (indices_there order)

  history_there : (order : List Effect) → All (IsEffectOf g.entries) order →
      history_of (map there order) ≡ history_of order
  history_there [] all = refl
  history_there (x ∷ order) all = λ i. (
    (ap (λ (e : Observation). e.call) (is_there x is) ∙ sym (at x is).same.call) i,
    x.reply,
  ) ∷ history_there order (All-tail (IsEffectOf g.entries) x order all) i
    where
      is : IsEffectOf g.entries x
      is = All-head (IsEffectOf g.entries) x order all

  pub order_is_there : (order : List Effect) → IsExplainedBy g order → IsExplainedBy h (map there order)
  order_is_there order by = record {
    effects = All-map (IsEffectOf h.entries) there order
        (λ k d lt. effect_there (get_or order k d) (by.effects k d lt));
    once = pairs_map AreOfTwoEntries AreOfTwoEntries (IsEffectOf g.entries) there order two_there by.effects by.once;
    returned = λ j f at_f back. returned j f at_f back;
    ordered = pairs_map RespectsBefore RespectsBefore (IsEffectOf g.entries) there order order_there by.effects
        by.ordered;
    legal = subst (λ (b : Bounds). IsLegal b h.width (history_of (map there order))) are.limits
        (subst (λ (n : ℕ). IsLegal g.limits n (history_of (map there order))) are.width
        (subst (IsLegal g.limits g.width) (sym (history_there order by.effects)) by.legal));
  }
    where
      returned : (j : ℕ) (f : Observation) → slice_get h.entries j ≡ Some f → HasReturned f →
          Contains (indices_of (map there order)) j
      returned j f at_f back =
          let same : HasSameAt g.entries (are.back j) f = are.rear.each j f at_f in
          subst (Contains (indices_of (map there order))) (are.rear.own j f at_f)
          (subst (λ (is : List ℕ). Contains is (are.there (are.back j))) (sym (indices_there order))
          (contains_map are.there (indices_of order) (are.back j) (by.returned (are.back j) same.entry same.is_entry
          (same_returned f.returned same.entry.returned same.same.reply back))))

  explained_there : IsExplained g → IsExplained h
  explained_there explained =
      record { order = map there explained.order; by = order_is_there explained.order explained.by }

  pub correspond_back : Correspond h g
  correspond_back = record {
    limits = sym are.limits;
    width = sym are.width;
    there = are.back;
    back = are.there;
    forth = are.rear;
    rear = are.forth;
    before = λ i j a b c d at_a at_b at_c at_d.
        let same = are.before (are.back i) (are.back j) c d a b at_c at_d
        (ap (slice_get h.entries) (are.rear.own i a at_a) ∙ at_a)
        (ap (slice_get h.entries) (are.rear.own j b at_b) ∙ at_b) in
        (same.1, same.0);
  }

  -- an index goes back as it came
  pub back_there : (i : ℕ) → (correspond_back).there i ≡ are.back i
  unfolding correspond_back
  back_there i = refl

pub positions_tell_order : PositionsTellOrder
positions_tell_order g h are = (explained_there g h are, explained_there h g (correspond_back g h are))
