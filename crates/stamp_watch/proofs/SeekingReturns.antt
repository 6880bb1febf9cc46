-- The returns among the moments of a history.
use Rattle.std.proofs.Common.{◌≡◌, ◌⊎◌, ℕ, ◌+◌, ◌<◌, ◌≤◌, true, false, List, length, get_or, sym, ◌∙◌}
use Rattle.std.proofs.Common.{ap, inl, inr, arith, Some}
use Rattle.std.specs.Prelude.{slice_get}
use Rattle.std.proofs.lemmas.Bool.{cases_lt}
use Rattle.std.proofs.lemmas.Option.{get_or_from_slice_get, slice_get-get_or}
use Rattle.stamp_watch.specs.declared.moments.Moment.{Moment}
use Rattle.stamp_watch.specs.History.{NoneReturns}
use Rattle.stamp_watch.specs.inner.History.{IsReturnPlace}

module _ (moments : List Moment) (d : Moment) where
  pub return_here : (place : ℕ) → place < length moments → (get_or moments place d).is_return ≡ true →
      IsReturnPlace moments place
  return_here place less returns = record {
    moment = get_or moments place d;
    here = slice_get-get_or moments place d less;
    returns = returns;
  }

  none_here : (place : ℕ) (m : Moment) → slice_get moments place ≡ Some m →
      (get_or moments place d).is_return ≡ false → m.is_return ≡ false
  none_here place m at none =
      sym (ap (λ (x : Moment). x.is_return) (get_or_from_slice_get moments place m d at)) ∙ none

  -- one moment more, behind others or before them
  pub none_behind : (from place : ℕ) → NoneReturns moments from place → (get_or moments place d).is_return ≡ false →
      NoneReturns moments from (place + 1)
  none_behind from place before none k m low less at = by (cases_lt k place)
    where
      by : (k < place) ⊎ (place ≤ k) → m.is_return ≡ false
      by (inl sooner) = before k m low sooner at
      by (inr here) = let same : k ≡ place = omega (arith, here, less) in
          none_here place m (sym (ap (slice_get moments) same) ∙ at) none

  pub none_before : (place next to : ℕ) → next ≡ place + 1 → NoneReturns moments next to →
      (get_or moments place d).is_return ≡ false → NoneReturns moments place to
  none_before place next to is behind none k m low less at = by (cases_lt place k)
    where
      by : (place < k) ⊎ (k ≤ place) → m.is_return ≡ false
      by (inl later) = behind k m (omega (arith, is, later)) less at
      by (inr here) = let same : k ≡ place = omega (arith, here, low) in
          none_here place m (sym (ap (slice_get moments) same) ∙ at) none
