-- An observed history from its parts.
use Rattle.std.proofs.Common.{◌≡◌, ℕ, List, refl}
use Rattle.stamp_core.specs.Limits.{Bounds}
use Rattle.stamp_explain.specs.declared.observed.Observation.{Observation}
use Rattle.stamp_explain.specs.Observed.{ObservedHistory, observed_as}

pub same_observed : (h : ObservedHistory) (limits : Bounds) (width : ℕ) (entries : List Observation) → limits ≡
    h.limits → width ≡ h.width → entries ≡ h.entries → observed_as limits width entries ≡ h
same_observed h limits width entries e1 e2 e3 = rw (e1, e2, e3) refl
