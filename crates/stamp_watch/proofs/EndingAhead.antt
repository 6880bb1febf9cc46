-- How calls end among the events ahead, event by event.
use Rattle.std.proofs.Common.{ℕ, ◌≡◌, ◌+◌, ◌<◌, ◌≤◌, List, length, get_or, Some, None, sym}
use Rattle.std.proofs.Common.{◌∙◌, ap, add_assoc}
use Rattle.std.specs.Prelude.{drop}
use Rattle.std.proofs.lemmas.List.{drop_all}
use Rattle.stamp_runs.specs.declared.event.Event.{Event}
use Rattle.stamp_sets.specs.declared.ending.Ending.{Ending}
use Rattle.stamp_sets.specs.declared.ending.Ending.TheVariants.{Never}
use Rattle.stamp_watch.specs.AsObserved.{ending_of}
use Rattle.stamp_watch.specs.Foretold.{told_as}
use Rattle.stamp_watch.specs.inner.Judging.{IsEndBy}
use Rattle.stamp_watch.proofs.Reading.{drop_read}

module _ (events : List Event) (lane first : ℕ) where
  pub ending_more : (k : ℕ) (e : Event) → k < length events → e ≡ get_or events k e →
      ending_of lane (first + k) (drop k events) ≡ ending_of lane first events → IsEndBy e lane (first + k) None →
      ending_of lane (first + (k + 1)) (drop (k + 1) events) ≡ ending_of lane first events
  ending_more k e less read so_far none =
      ap (λ (n : ℕ). ending_of lane n (drop (k + 1) events)) (sym (add_assoc first k 1)) ∙
      sym (none (drop (k + 1) events)) ∙
      ap (λ (more : List Event). ending_of lane (first + k) more) (sym (drop_read events k e less read)) ∙ so_far

  pub ending_here : (k : ℕ) (e : Event) (ends : Ending) → k < length events → e ≡ get_or events k e →
      ending_of lane (first + k) (drop k events) ≡ ending_of lane first events →
      IsEndBy e lane (first + k) (Some ends) → told_as ends ≡ ending_of lane first events
  ending_here k e ends less read so_far ends_here = sym (ends_here (drop (k + 1) events)) ∙
      ap (λ (more : List Event). ending_of lane (first + k) more) (sym (drop_read events k e less read)) ∙ so_far

  pub ending_none : (k : ℕ) → length events ≤ k →
      ending_of lane (first + k) (drop k events) ≡ ending_of lane first events →
      told_as Never ≡ ending_of lane first events
  ending_none k high so_far =
      ap (λ (more : List Event). ending_of lane (first + k) more) (sym (drop_all k events high)) ∙ so_far
