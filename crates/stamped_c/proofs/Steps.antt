-- What C gets where the first of two facts has an error, and where it has a value.
use Rattle.std.proofs.Common.{◌≡◌, ℕ, refl, inl, inr}
use Rattle.std.specs.Prelude.{Result, Ok, Err}
use Rattle.stamp_core.specs.declared.lock_decision.LockDecision.{LockDecision}
use Rattle.stamped_c.specs.declared.error.CError.{CError}
use Rattle.stamped_c.specs.declared.structs.CDecision.{CDecision}
use Rattle.stamped_c.specs.Codes.{error_code, unreplied_in_c}
use Rattle.stamped_c.specs.Checks.{Then}
use Rattle.stamped_c.specs.inner.Answers.{InC}

pub at_error : {A : Type 0} (First : Result A CError → Type 0) (Second : A → Result LockDecision CError → Type 0)
    (number : ℕ) (error : CError) (made : CDecision) → First (Err error) → made ≡ unreplied_in_c (error_code error) →
    InC (Then First Second) number made
at_error First Second number error made x e = (Err error, inl (error, x, refl), e)

pub after : {A : Type 0} (First : Result A CError → Type 0) (Second : A → Result LockDecision CError → Type 0)
    (number : ℕ) (a : A) (made : CDecision) → First (Ok a) → InC (Second a) number made →
    InC (Then First Second) number made
after First Second number a made x y = (y.0, inr (a, x, y.1), y.2)
