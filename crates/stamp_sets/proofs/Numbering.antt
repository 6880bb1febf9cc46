-- The numbers of one's own events among all, as the events go on.
use Rattle.std.proofs.Common.{◌≡◌, ℕ, ◌+◌, Bool, true, false, List, [], ◌∷◌, ◌++◌, length, refl}
use Rattle.std.proofs.Common.{◌∙◌, ap, arith}
use Rattle.std.specs.Prelude.{if◌then◌else◌, not}
use Rattle.std.specs.List.{fold}
use Rattle.stamp_core.specs.declared.call.Call.{Call}
use Rattle.stamp_runs.specs.Own.{AreInFormFrom, is_own, none_open, open_after, open_then}
use Rattle.stamp_runs.specs.Own.{own_events, own_from, own_numbers, own_numbers_from}
use Rattle.stamp_runs.specs.Pairs.{not_of}
use Rattle.stamp_runs.specs.declared.event.Event.{Event}
use Rattle.stamp_runs.proofs.Merging.{opposite}
use Rattle.stamp_runs.proofs.Owning.{Calls}

module _ (mine : Call → Bool) where
  numbers_both : (calls : Calls) (n : ℕ) (past future : List Event) → own_numbers_from mine calls n (past ++ future) ≡
      own_numbers_from mine calls n past ++ own_numbers_from mine (fold open_then calls past) (n + length past) future
  numbers_both calls n [] future = ap (λ (k : ℕ). own_numbers_from mine calls k future) (omega arith)
  numbers_both calls n (e ∷ past) future = by (is_own mine calls e) _ _ _
      (numbers_both (open_then calls e) (n + 1) past future ∙ ap (λ (k : ℕ).
      own_numbers_from mine (open_then calls e) (n + 1) past ++
      own_numbers_from mine (fold open_then (open_then calls e) past) k future) (omega arith))
    where
      by : (k : Bool) (xs ys zs : List ℕ) → xs ≡ ys ++ zs →
          (if k then n ∷ xs else xs) ≡ (if k then n ∷ ys else ys) ++ zs
      by true xs ys zs same = ap (λ (l : List ℕ). n ∷ l) same
      by false xs ys zs same = same

  -- one event more, which is one's own or is not
  pub numbers_one : (past : List Event) (e : Event) (k : Bool) → is_own mine (open_after past) e ≡ k →
      own_numbers mine (past ++ e ∷ []) ≡ own_numbers mine past ++ (if k then length past ∷ [] else [])
  numbers_one past e k is = numbers_both none_open 0 past (e ∷ []) ∙
      ap (λ (b : Bool). own_numbers mine past ++ (if b then (0 + length past) ∷ [] else [])) is ∙
      ap (λ (n : ℕ). own_numbers mine past ++ (if k then n ∷ [] else [])) (omega arith)

  -- each of them has one
  many_from : (calls : Calls) (n : ℕ) (events : List Event) → length (own_numbers_from mine calls n events) ≡
      length (own_from mine calls events)
  many_from calls n [] = refl
  many_from calls n (e ∷ events) = by (is_own mine calls e) _ _ (many_from (open_then calls e) (n + 1) events)
    where
      by : (k : Bool) (xs : List ℕ) (es : List Event) → length xs ≡ length es →
          length (if k then n ∷ xs else xs) ≡ length (if k then e ∷ es else es)
      by true xs es same = omega (arith, same)
      by false xs es same = same

  pub many_numbers : (events : List Event) → length (own_numbers mine events) ≡ length (own_events mine events)
  many_numbers events = many_from none_open 0 events

  -- and each event is of the one kind or the other
  all_from : (calls : Calls) (n : ℕ) (events : List Event) → AreInFormFrom calls events →
      length (own_numbers_from mine calls n events) + length (own_numbers_from (not_of mine) calls n events) ≡
      length events
  all_from calls n [] form = refl
  all_from calls n (e ∷ events) form = by (is_own mine calls e) (is_own (not_of mine) calls e)
      (opposite mine calls e form.0) _ _ (all_from (open_then calls e) (n + 1) events form.1)
    where
      by : (k l : Bool) → l ≡ not k → (xs ys : List ℕ) → length xs + length ys ≡ length events →
          length (if k then n ∷ xs else xs) + length (if l then n ∷ ys else ys) ≡ length (e ∷ events)
      by true l is xs ys same = ap (λ (b : Bool). length (n ∷ xs) + length (if b then n ∷ ys else ys)) is ∙
          omega (arith, same)
      by false l is xs ys same = ap (λ (b : Bool). length xs + length (if b then n ∷ ys else ys)) is ∙
          omega (arith, same)

  pub all_numbers : (events : List Event) → AreInFormFrom none_open events →
      length (own_numbers mine events) + length (own_numbers (not_of mine) events) ≡ length events
  all_numbers events form = all_from none_open 0 events form
