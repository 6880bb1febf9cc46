-- What C gets of a decision, whatever holds of it.
use Rattle.std.specs.Prelude.{ℕ, ◌≡◌, Result}
use Rattle.stamp_core.specs.declared.lock_decision.LockDecision.{LockDecision}
use Rattle.stamped_c.specs.declared.error.CError.{CError}
use Rattle.stamped_c.specs.declared.structs.CDecision.{CDecision}
use Rattle.stamped_c.specs.Codes.{decision_in_c}

-- what C gets of a decision on the word of this number, or of an error, of which the fact holds
abbrev pub InC : (Result LockDecision CError → Type 0) → ℕ → CDecision → Type 0
InC Holds number made = (decided : Result LockDecision CError) × Holds decided × (made ≡ decision_in_c number decided)
