-- The calls that are told along the events of a run.
use Rattle.std.proofs.Common.{ℕ, ◌≡◌, ◌+◌, ◌++◌, ◌∷◌, [], List, Option, length, refl, arith, ap, add-zero, sym, ◌∙◌}
use Rattle.std.proofs.Common.{zero, suc}
use Rattle.std.specs.Prelude.{filter_map, fold}
use Rattle.std.specs.List.{cons_option, range_with_len}
use Rattle.std.proofs.lemmas.List.Elements.{filter_map-append}
use Rattle.stamp_runs.specs.declared.event.Event.{Event}
use Rattle.stamp_runs.specs.declared.event.Event.TheVariants.{Begins, Returns, Withdraws}
use Rattle.stamped_watch.specs.Calls.{Told, told_with}

-- each event counts as one
one_more : (told : Told) (e : Event) → (told_with told e).events ≡ told.events + 1
one_more told (Begins lane call) = refl
one_more told (Returns lane reply) = refl
one_more told (Withdraws lane) = refl

pub events_told : (told : Told) (events : List Event) →
    (fold told_with told events).events ≡ told.events + length events
events_told told [] = sym (add-zero told.events)
events_told told (e ∷ events) =
    let one = one_more told e in
    let others = events_told (told_with told e) events in omega (arith, one, others)

-- one lane more
lane_more : (first n : ℕ) → range_with_len first (suc n) ≡ range_with_len first n ++ (first + n) ∷ []
lane_more first zero = ap (λ (k : ℕ). k ∷ []) (sym (add-zero first))
lane_more first (suc n) =
    let same : first + 1 + n ≡ first + suc n = omega arith in
    ap (λ (ks : List ℕ). first ∷ ks) (lane_more (first + 1) n ∙
    ap (λ (k : ℕ). range_with_len (first + 1) n ++ k ∷ []) same)

pub told_more : {X : Type 0} (of : ℕ → Option X) (n : ℕ) →
    filter_map of (range_with_len 0 (n + 1)) ≡ filter_map of (range_with_len 0 n) ++ cons_option (of n) []
told_more of n =
    let next : n + 1 ≡ suc n = omega arith in
    let same : 0 + n ≡ n = omega arith in
    ap (λ (k : ℕ). filter_map of (range_with_len 0 k)) next ∙
    ap (filter_map of) (lane_more 0 n ∙ ap (λ (k : ℕ). range_with_len 0 n ++ k ∷ []) same) ∙
    filter_map-append of (range_with_len 0 n) (n ∷ [])
