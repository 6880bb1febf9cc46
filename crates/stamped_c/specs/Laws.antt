-- Laws of the exported functions: for each input one answer alone is due.
use Rattle.std.specs.Prelude.{ℕ, ◌≡◌}
use Rattle.stamped_c.specs.declared.structs.CLimits.{CLimits}
use Rattle.stamped_c.specs.Answers.{AnswersOpening, AnswersLimits, AnswersWord, AnswersDecision, AnswersKind}

-- no two answers have the fact
abbrev pub IsOne : {A : Type 0} → (A → Type 0) → Type 0
IsOne {A} Holds = (a b : A) → Holds a → Holds b → a ≡ b

abbrev pub OneOpening : Type 0
OneOpening = (layout : ℕ) → IsOne (AnswersOpening layout)

abbrev pub OneLimits : Type 0
OneLimits = (given : CLimits) → IsOne (AnswersLimits given)

abbrev pub OneWord : Type 0
OneWord = (given : CLimits) (number : ℕ) → IsOne (AnswersWord given number)

abbrev pub OneDecision : Type 0
OneDecision = (given : CLimits) (number code stamp : ℕ) → IsOne (AnswersDecision given number code stamp)

abbrev pub OneKind : Type 0
OneKind = (layout stamp : ℕ) → IsOne (AnswersKind layout stamp)
