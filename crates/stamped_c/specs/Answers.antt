-- What the exported functions answer.
use Rattle.std.specs.Prelude.{ℕ, ◌≡◌, ◌≢◌, ◌≤◌, ◌<◌, [], Result, Ok, Err, MatchOption}
use Rattle.stamp_core.specs.Layout.{units_of}
use Rattle.stamp_core.specs.Limits.{Bounds}
use Rattle.stamp_core.specs.Word.{LockWord, Represents, word_in}
use Rattle.stamp_core.specs.Decision.{Decides}
use Rattle.stamp_core.specs.LockDecision.{decision_as}
use Rattle.stamp_core.specs.StampKind.{HasKind}
use Rattle.stamp_core.specs.declared.layout.Layout.{Layout}
use Rattle.stamp_core.specs.declared.call.Call.{Call}
use Rattle.stamp_core.specs.declared.lock_decision.LockDecision.{LockDecision}
use Rattle.stamp_core.specs.declared.lock_decision.LockDecision.TheVariants.{Answer, Change, Wait}
use Rattle.stamp_core.specs.declared.stamps.StampKind.{StampKind}
use Rattle.stamped_c.specs.declared.error.CError.{CError}
use Rattle.stamped_c.specs.declared.structs.CLimits.{CLimits}
use Rattle.stamped_c.specs.declared.structs.CDecision.{CDecision}
use Rattle.stamped_c.specs.declared.structs.CKind.{CKind}
use Rattle.stamped_c.specs.Codes.{layout_by_code, error_in_c, decision_in_c, kind_in_c}
use Rattle.stamped_c.specs.Checks.{Then, IsLayoutOf, AreLimitsIn, AreLimitsOf, IsWordOf, IsWordUnder, IsCallOf}

-- the core's decision, and no error
abbrev pub IsDecision : Bounds → LockWord → Call → Result LockDecision CError → Type 0
IsDecision limits word call (Ok decision) = Decides limits word call (decision_as decision)
IsDecision limits word call (Err error) = ⊥

-- first the call, then the decision
abbrev pub IsDecidedOn : Bounds → LockWord → ℕ → ℕ → Result LockDecision CError → Type 0
IsDecidedOn limits word code stamp = Then (IsCallOf code stamp) (λ call. IsDecision limits word call)

-- first the word, then the call
abbrev pub IsDecidedUnder : Bounds → ℕ → ℕ → ℕ → Result LockDecision CError → Type 0
IsDecidedUnder limits number code stamp = Then (IsWordUnder limits number) (λ word. IsDecidedOn limits word code stamp)

-- first the limits, then the word
abbrev pub IsDecidedIn : Layout → CLimits → ℕ → ℕ → ℕ → Result LockDecision CError → Type 0
IsDecidedIn layout given number code stamp = Then (AreLimitsIn layout given.readers given.versions)
    (λ limits. IsDecidedUnder limits number code stamp)

-- first the layout
abbrev pub IsDecided : CLimits → ℕ → ℕ → ℕ → Result LockDecision CError → Type 0
IsDecided given number code stamp = Then (IsLayoutOf given.layout) (λ layout.
    IsDecidedIn layout given number code stamp)

-- the core's kind, and no error
abbrev pub IsKind : Layout → ℕ → Result StampKind CError → Type 0
IsKind layout stamp (Ok kind) = HasKind (units_of layout) stamp kind
IsKind layout stamp (Err error) = ⊥

abbrev pub IsKindOf : ℕ → ℕ → Result StampKind CError → Type 0
IsKindOf number stamp = Then (IsLayoutOf number) (λ layout. IsKind layout stamp)

-- the word that represents no events, under all limits of the layout
abbrev pub IsOpening : Layout → LockWord → Type 0
IsOpening layout word = (limits : Bounds) → limits.layout ≡ layout → Represents limits word []

-- the opening word's number; 0 where the number names no layout
abbrev pub AnswersOpening : ℕ → ℕ → Type 0
AnswersOpening number opening =
    MatchOption (layout_by_code number) (opening ≡ 0) (λ layout. IsOpening layout (word_in layout opening))

-- the facts above, as C gets them
abbrev pub AnswersLimits : CLimits → ℕ → Type 0
AnswersLimits given code = (limits : Result Bounds CError) × AreLimitsOf given limits × (code ≡ error_in_c limits)

abbrev pub AnswersWord : CLimits → ℕ → ℕ → Type 0
AnswersWord given number code = (word : Result LockWord CError) × IsWordOf given number word × (code ≡ error_in_c word)

-- by the word alone one tells what to do: below 256 it is a wait or an error, and from 256 on the same
-- number where there is nothing to change, and another one where there is
abbrev pub IsToldByWord : ℕ → Result LockDecision CError → ℕ → Type 0
IsToldByWord number (Ok (Answer reply)) word = (256 ≤ word) × (word ≡ number)
IsToldByWord number (Ok (Change next reply)) word = (256 ≤ word) × (word ≢ number)
IsToldByWord number (Ok Wait) word = word < 256
IsToldByWord number (Err error) word = word < 256

abbrev pub AnswersDecision : CLimits → ℕ → ℕ → ℕ → CDecision → Type 0
AnswersDecision given number code stamp made = (decided : Result LockDecision CError) ×
    IsDecided given number code stamp decided × (made ≡ decision_in_c number decided) ×
    IsToldByWord number decided made.word

abbrev pub AnswersKind : ℕ → ℕ → CKind → Type 0
AnswersKind number stamp found = (kind : Result StampKind CError) × IsKindOf number stamp kind ×
    (found ≡ kind_in_c kind)
