-- A word is no code, and a call that changes a word changes its number.
use Rattle.std.proofs.Common.{zero, suc, ◌≡◌, ◌≢◌, ℕ, ◌≤◌, List, refl, ap, sym, ◌∙◌, inl, inr, arith}
use Rattle.std.specs.Prelude.{Result, Ok, Err}
use Rattle.stamp_core.specs.LockEvent.{LockEvent, counts, writers, write_count}
use Rattle.stamp_core.specs.Layout.{units_of}
use Rattle.stamp_core.specs.Limits.{Bounds}
use Rattle.std.proofs.lemmas.Bool.Decides.{nat_tests}
use Rattle.stamp_core.specs.Word.{LockWord, word_in, word_number, word_at, Represents, IsAdmitted}
use Rattle.stamp_core.specs.Decision.{Decides}
use Rattle.stamp_core.specs.LockDecision.{decision_as}
use Rattle.stamp_core.specs.declared.layout.Layout.{Layout}
use Rattle.stamp_core.specs.declared.layout.Layout.TheVariants.{One, Two}
use Rattle.stamp_core.specs.declared.call.Call.{Call}
use Rattle.stamp_core.specs.declared.lock_decision.LockDecision.{LockDecision}
use Rattle.stamp_core.specs.declared.lock_decision.LockDecision.TheVariants.{Answer, Change, Wait}
use Rattle.stamped_c.specs.declared.error.CError.{CError}
use Rattle.stamped_c.specs.declared.error.CError.TheVariants.{UnknownLayout, LimitsOutOfRange, NoWord}
use Rattle.stamped_c.specs.declared.error.CError.TheVariants.{BeyondLimits, UnknownCall}
use Rattle.stamped_c.specs.declared.structs.CLimits.{CLimits}
use Rattle.stamped_c.specs.Codes.{decision_in_c}
use Rattle.stamped_c.specs.Checks.{Then, IsLayoutOf, AreLimitsIn, IsWordUnder, IsCallOf}
use Rattle.stamped_c.specs.Answers.{IsDecided, IsDecidedIn, IsDecidedUnder, IsDecidedOn, IsDecision, IsToldByWord}

-- a writer has acquired write mode
least : (l : Layout) (k w r : ℕ) → w ≤ k →
    256 ≤ word_number (units_of l) (record { write_count = k; writers = w; readers = r })
unfolding units_of
least One k zero r few = omega arith
least Two k zero r few = omega arith
least l zero (suc w) r few = absurd (omega arith)
least One (suc k) (suc w) r few = grind (arith, nat_tests)
least Two (suc k) (suc w) r few = grind (arith, nat_tests)

pub least_word : (limits : Bounds) (word : LockWord) (events : List LockEvent) → Represents limits word events →
    256 ≤ word.bits
least_word limits word events represented =
    let few : writers events ≤ write_count events = omega arith in
    let low = least limits.layout (write_count events) (writers events) (counts events).readers few in
    let e = represented.spelled in
    omega (arith, low, e)

other_number : (layout : Layout) (a b : LockWord) → a.layout ≡ layout → b.layout ≡ layout → a ≢ b → a.bits ≢ b.bits
other_number layout a b x y other e = other
    (ap (λ l. word_in l a.bits) (x ∙ sym y) ∙ ap (λ n. word_in b.layout n) e)

-- the first fact has a value where the whole has one
record First {A : Type 0} (Holds : Result A CError → Type 0) (Second : A → Type 0) : Type 0 where
  value : A
  holds : Holds (Ok value)
  second : Second value

no_error : {A B : Type 0} {a : A} {b : B} → Ok a ≡ Err b → ⊥
no_error e = cc

past : {A B : Type 0} (Holds : Result A CError → Type 0) (Second : A → Result B CError → Type 0) (b : B) →
    Then Holds Second (Ok b) → First Holds (λ a. Second a (Ok b))
past Holds Second b (inl x) = absurd (no_error x.2)
past Holds Second b (inr x) = record { value = x.0; holds = x.1; second = x.2 }

-- a decision's word and the one that it is on
record On (given : CLimits) (number : ℕ) (decision : LockDecision) : Type 0 where
  limits : Bounds
  word : LockWord
  call : Call
  spelled : word ≡ word_at limits number
  admitted : IsAdmitted limits word
  decides : Decides limits word call (decision_as decision)

on : (given : CLimits) (number code stamp : ℕ) (decision : LockDecision) →
    IsDecided given number code stamp (Ok decision) → On given number decision
on given number code stamp decision decided =
    let l = past (IsLayoutOf given.layout) (λ layout. IsDecidedIn layout given number code stamp) decision decided in
    let b = past (AreLimitsIn l.value given.readers given.versions)
    (λ limits. IsDecidedUnder limits number code stamp) decision l.second in
    let w = past (IsWordUnder b.value number) (λ word. IsDecidedOn b.value word code stamp) decision b.second in
    let c = past (IsCallOf code stamp) (λ call. IsDecision b.value w.value call) decision w.second in
    record {
      limits = b.value;
      word = w.value;
      call = c.value;
      spelled = w.holds.0;
      admitted = w.holds.1;
      decides = c.second;
    }

pub told : (given : CLimits) (number code stamp : ℕ) (decided : Result LockDecision CError) →
    IsDecided given number code stamp decided → IsToldByWord number decided (decision_in_c number decided).word
told given number code stamp (Ok (Answer reply)) decided =
    let o = on given number code stamp (Answer reply) decided in
    let low = least_word o.limits o.word o.admitted.events o.admitted.represented in
    let e = ap (λ w. w.bits) o.spelled in
    (omega (arith, low, e), refl)
told given number code stamp (Ok (Change next reply)) decided =
    let o = on given number code stamp (Change next reply) decided in
    let moved = o.decides o.admitted.events o.admitted.represented in
    let low = least_word o.limits next _ moved.represented in
    let differs = other_number o.limits.layout next o.word moved.represented.layout
    o.admitted.represented.layout moved.other in
    let e = ap (λ w. w.bits) o.spelled in
    (low, λ same. differs (same ∙ sym e))
told given number code stamp (Ok Wait) decided = omega arith
told given number code stamp (Err UnknownLayout) decided = omega arith
told given number code stamp (Err LimitsOutOfRange) decided = omega arith
told given number code stamp (Err NoWord) decided = omega arith
told given number code stamp (Err BeyondLimits) decided = omega arith
told given number code stamp (Err UnknownCall) decided = omega arith
