-- What the numbers are that a C program gives, or what is wrong with them. Each fact has one result
-- alone: the value, or its error.
use Rattle.std.specs.Prelude.{ℕ, ◌≡◌, ◌⊎◌, Some, None, Result, Ok, Err}
use Rattle.stamp_core.specs.Limits.{Bounds, bounds, AreInRange, widest}
use Rattle.stamp_core.specs.Word.{LockWord, word_at, IsAdmitted}
use Rattle.stamp_core.specs.declared.layout.Layout.{Layout}
use Rattle.stamp_core.specs.declared.call.Call.{Call}
use Rattle.stamped_c.specs.declared.error.CError.{CError}
use Rattle.stamped_c.specs.declared.error.CError.TheVariants.{UnknownLayout, LimitsOutOfRange, NoWord}
use Rattle.stamped_c.specs.declared.error.CError.TheVariants.{BeyondLimits, UnknownCall}
use Rattle.stamped_c.specs.declared.structs.CLimits.{CLimits}
use Rattle.stamped_c.specs.Codes.{layout_by_code, call_by_code}

-- the first fact's error, or what the second one says of the first one's value
abbrev pub Then : {A B : Type 0} → (Result A CError → Type 0) → (A → Result B CError → Type 0) →
    Result B CError → Type 0
Then First Second found = ((error : CError) × First (Err error) × (found ≡ Err error)) ⊎
    ((a : _) × First (Ok a) × Second a found)

abbrev pub IsLayoutOf : ℕ → Result Layout CError → Type 0
IsLayoutOf number (Ok layout) = layout_by_code number ≡ Some layout
IsLayoutOf number (Err UnknownLayout) = layout_by_code number ≡ None
IsLayoutOf number (Err _) = ⊥

abbrev pub AreLimitsIn : Layout → ℕ → ℕ → Result Bounds CError → Type 0
AreLimitsIn layout readers versions (Ok limits) = (limits ≡ bounds layout readers versions) × AreInRange limits
AreLimitsIn layout readers versions (Err LimitsOutOfRange) = ¬ AreInRange (bounds layout readers versions)
AreLimitsIn layout readers versions (Err _) = ⊥

-- the limits that were given: first their layout, then whether they are in range
abbrev pub AreLimitsOf : CLimits → Result Bounds CError → Type 0
AreLimitsOf given = Then (IsLayoutOf given.layout) (λ layout. AreLimitsIn layout given.readers given.versions)

-- a word of the layout is not beyond the limits where it represents some events under them
abbrev pub IsWordUnder : Bounds → ℕ → Result LockWord CError → Type 0
IsWordUnder limits number (Ok word) = (word ≡ word_at limits number) × IsAdmitted limits word
IsWordUnder limits number (Err NoWord) = ¬ IsAdmitted (widest limits.layout) (word_at limits number)
IsWordUnder limits number (Err BeyondLimits) =
    IsAdmitted (widest limits.layout) (word_at limits number) × ¬ IsAdmitted limits (word_at limits number)
IsWordUnder limits number (Err _) = ⊥

-- first the limits, then the word
abbrev pub IsWordOf : CLimits → ℕ → Result LockWord CError → Type 0
IsWordOf given number = Then (AreLimitsOf given) (λ limits. IsWordUnder limits number)

abbrev pub IsCallOf : ℕ → ℕ → Result Call CError → Type 0
IsCallOf code stamp (Ok call) = call_by_code code stamp ≡ Some call
IsCallOf code stamp (Err UnknownCall) = call_by_code code stamp ≡ None
IsCallOf code stamp (Err _) = ⊥
