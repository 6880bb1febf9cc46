-- A run around one of its events, as a loop reads it.
use Rattle.std.proofs.Common.{ℕ, ◌≡◌, ◌+◌, ◌<◌, List, [], ◌∷◌, ◌++◌, length, get_or, sym, ◌∙◌, ap, Some}
use Rattle.std.specs.Prelude.{slice_get, take, drop}
use Rattle.std.proofs.lemmas.Option.{get_or_from_slice_get, slice_get_within}
use Rattle.std.proofs.lemmas.List.{take_more, drop_more, take-append-drop}
use Rattle.stamp_runs.specs.declared.event.Event.{Event}

-- those up to this place, and the one there
pub up_to : {A : Type 0} (xs : List A) (at : ℕ) (x : A) → slice_get xs at ≡ Some x →
    take (at + 1) xs ≡ take at xs ++ x ∷ []
up_to {A} xs at x there = take_more xs at x (slice_get_within xs at x there) ∙
    ap (λ (y : A). take at xs ++ y ∷ []) (get_or_from_slice_get xs at x x there)

module _ (events : List Event) (k : ℕ) (e : Event) (less : k < length events) (read : e ≡ get_or events k e) where
  pub take_read : take (k + 1) events ≡ take k events ++ e ∷ []
  take_read = take_more events k e less ∙ ap (λ (x : Event). take k events ++ x ∷ []) (sym read)

  pub drop_read : drop k events ≡ e ∷ drop (k + 1) events
  drop_read = drop_more events k e less ∙ ap (λ (x : Event). x ∷ drop (k + 1) events) (sym read)

  pub around : take k events ++ e ∷ drop (k + 1) events ≡ events
  around = ap (λ (more : List Event). take k events ++ more) (sym drop_read) ∙ take-append-drop k events
