-- There are two layouts.
use Rattle.std.proofs.Common.{◌≡◌, ◌⊎◌, ℕ, ◌-◌, ◌^◌, refl, inl, inr}
use Rattle.stamp_core.specs.Layout.{Units, units_of}
use Rattle.stamp_core.specs.declared.layout.Layout.{Layout}
use Rattle.stamp_core.specs.declared.layout.Layout.TheVariants.{One, Two}

abbrev pub AreUnits : Units → ℕ → ℕ → ℕ → ℕ → Type 0
AreUnits u version writer readers versions = (u.version ≡ version) × (u.writer ≡ writer) × (u.readers ≡ readers) ×
    (u.versions ≡ versions)

pub either_layout : (l : Layout) → AreUnits (units_of l) 256 128 127 (2 ^ 55 - 2) ⊎
    AreUnits (units_of l) 131072 65536 65535 (2 ^ 46 - 2)
unfolding units_of
either_layout One = inl (refl, refl, refl, refl)
either_layout Two = inr (refl, refl, refl, refl)
