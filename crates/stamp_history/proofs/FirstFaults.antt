-- A fault that was found in the parts of a script is the first fault of that script.
use Rattle.std.proofs.Common.{◌≡◌, ℕ, ◌<◌, ◌≤◌, List, length, take, get_or, map, Vec, Bool, true}
use Rattle.std.proofs.Common.{false, Some, None, refl, ap, arith, ◌⊎◌, inl, inr}
use Rattle.std.specs.Prelude.{◌&&◌, nat_le, nat_lt, All, Decides}
use Rattle.std.specs.List.{list_all, position_or_len}
use Rattle.std.specs.Global.{Global}
use Rattle.std.proofs.lemmas.Bool.Decides.{nat_tests, Decides-ltb, Decides-eqb, Decides-and}
use Rattle.std.proofs.lemmas.Bool.Decides.{Decides-like, Decides-by_and}
use Rattle.std.proofs.lemmas.List.{length-map, length-take, get_or-take}
use Rattle.std.proofs.lemmas.List.Sums.{position_or_len_is}
use Rattle.std.proofs.lemmas.Bool.{leb-true, le-leb, le-ltb, lt-ltb}
use Rattle.std.proofs.Math.Bool.{and-false}
use Rattle.stamp_core.specs.Limits.{Bounds}
use Rattle.stamp_machines.specs.declared.script_error.ScriptError.{ScriptError}
use Rattle.stamp_machines.specs.declared.script_error.ScriptError.TheVariants.{TooManyThreads}
use Rattle.stamp_machines.specs.declared.script_error.ScriptError.TheVariants.{TooManyCalls}
use Rattle.stamp_machines.specs.declared.script_error.ScriptError.TheVariants.{TooManySteps}
use Rattle.stamp_machines.specs.declared.script_error.ScriptError.TheVariants.{NoSuchThread}
use Rattle.stamp_machines.specs.declared.script_error.ScriptError.TheVariants.{RecordWidth}
use Rattle.stamp_machines.specs.Script.{Scripted, Suits}
use Rattle.stamp_machines.specs.ScriptFault.{thread_calls, AreShort, AreOfWidth, AreOfThreads}
use Rattle.stamp_machines.specs.ScriptFault.{IsFirstUnknown, IsFirstFault, IsGood}
use Rattle.stamp_machines.specs.declared.script.ScriptCall.{ScriptCall}
use Rattle.stamp_machines.specs.declared.script.ScriptCall.TheVariants.{Get, Put, PutIf}
use Rattle.stamp_history.specs.FirstFault.{suits, are_short, are_suited, first_unknown, first_fault}

-- a test that fails, of what does not hold
fails : {P : Type 0} (b : Bool) → Decides b P → (P → ⊥) → b ≡ false
fails true d n = absurd (n (d.0 refl))
fails false d n = refl

pub at_most : (n most : ℕ) → Decides (nat_le n most) (n ≤ most)
at_most n most = (leb-true n most, le-leb n most)

short : (threads : List (Vec ScriptCall Global)) → Decides (are_short (map thread_calls threads)) (AreShort threads)
short = Decides-by_and (λ (calls : Vec ScriptCall Global). nat_le (length calls.items) 10000)
    (λ (calls : Vec ScriptCall Global). length calls.items ≤ 10000) (λ threads. are_short (map thread_calls threads))
    (λ calls. at_most (length calls.items) 10000) refl (λ _ _. refl)

pub one_suits : (width : ℕ) (call : ScriptCall) → Decides (suits width call) (Suits width call)
one_suits width Get = Decides-ltb 0 width
one_suits width (Put a) = Decides-and _ _ (Decides-ltb 0 width) (Decides-eqb (length a) width)
one_suits width (PutIf a b) = Decides-like _ (λ h. (h.0.0, h.0.1, h.1)) (λ h. ((h.0, h.1), h.2))
    (Decides-and _ _ (Decides-and _ _ (Decides-ltb 0 width) (Decides-eqb (length a) width))
    (Decides-eqb (length b) width))
one_suits width _ = (λ _. tt, λ _. refl)

suited_to_width : (width : ℕ) (threads : List (Vec ScriptCall Global)) →
    Decides (are_suited width (map thread_calls threads)) (AreOfWidth width threads)
suited_to_width width = Decides-by_and (λ (calls : Vec ScriptCall Global). list_all (suits width) calls.items)
    (λ (calls : Vec ScriptCall Global). All (Suits width) calls.items)
    (λ threads. are_suited width (map thread_calls threads))
    (λ calls. Decides-by_and (suits width) (Suits width) (list_all (suits width)) (one_suits width) refl
    (λ _ _. refl) calls.items) refl (λ _ _. refl)

-- each step before step i is of one of the threads
known_before : (threads i : ℕ) (steps : List ℕ) → AreOfThreads threads (take i steps) → i ≤ length steps → (k : ℕ) →
    k < i → nat_le threads (get_or steps k 0) ≡ false
known_before threads i steps in_range le k lt =
    let same : get_or (take i steps) k 0 ≡ get_or steps k 0 = get_or-take i steps k 0 lt in
    let within : k < length (take i steps) = omega (arith, length-take i steps) in
    let below : get_or (take i steps) k 0 < threads = in_range k 0 within in
    grind (arith, nat_tests)

none_unknown : (threads : ℕ) (steps : List ℕ) → AreOfThreads threads steps → first_unknown threads steps ≡ None
none_unknown threads steps in_range =
    let at : position_or_len (nat_le threads) steps ≡ length steps =
    position_or_len_is (nat_le threads) steps (length steps) 0 (omega arith)
    (λ k lt. let below : get_or steps k 0 < threads = in_range k 0 lt in grind (arith, nat_tests))
    (λ lt. absurd (omega arith)) in
    let end : nat_lt (position_or_len (nat_le threads) steps) (length steps) ≡ false = grind (arith, nat_tests) in
    rw end refl

unknown_at : (threads : ℕ) (steps : List ℕ) (i : ℕ) → IsFirstUnknown threads steps i → first_unknown threads steps ≡
    Some i
unknown_at threads steps i first =
    let within : i < length steps = first.0 in
    let above : threads ≤ get_or steps i 0 = first.1 in
    let at : position_or_len (nat_le threads) steps ≡ i =
    position_or_len_is (nat_le threads) steps i 0 (omega arith)
    (known_before threads i steps first.2 (omega arith)) (λ _. grind (arith, nat_tests)) in
    let inside : nat_lt (position_or_len (nat_le threads) steps) (length steps) ≡ true = grind (arith, nat_tests) in
    rw inside (ap Some at)

unsuited : (width : ℕ) (threads : List (Vec ScriptCall Global)) → (16 < width) ⊎ (AreOfWidth width threads → ⊥) →
    (nat_le width 16 && are_suited width (map thread_calls threads)) ≡ false
unsuited width threads (inl wide) = let test : nat_le width 16 ≡ false = grind (arith, nat_tests) in rw test refl
unsuited width threads (inr not_all) = rw (fails (are_suited width (map thread_calls threads))
    (suited_to_width width threads) not_all) (and-false (nat_le width 16))

-- the script that these parts make
abbrev pub given_script : Bounds → ℕ → List (Vec ScriptCall Global) → List ℕ → Scripted
given_script limits width threads steps = record {
  limits = limits;
  width = width;
  threads = map thread_calls threads;
  steps = steps;
}

pub no_fault : (limits : Bounds) (width : ℕ) (threads : List (Vec ScriptCall Global)) (steps : List ℕ) →
    IsGood width threads steps → first_fault (given_script limits width threads steps) ≡ None
unfolding first_fault
no_fault limits width threads steps good = rw (
  length-map threads thread_calls,
  le-ltb 64 (length threads) good.0,
  (short threads).1 good.1,
  le-ltb 1000000 (length steps) good.2,
  none_unknown (length threads) steps good.3,
  (at_most width 16).1 good.4,
  (suited_to_width width threads).1 good.5,
) refl

pub is_first_fault : (limits : Bounds) (width : ℕ) (threads : List (Vec ScriptCall Global)) (steps : List ℕ)
    (fault : ScriptError) → IsFirstFault width threads steps fault →
    first_fault (given_script limits width threads steps) ≡ Some fault
unfolding first_fault
is_first_fault limits width threads steps TooManyThreads first =
    rw (length-map threads thread_calls, lt-ltb 64 (length threads) first) refl
is_first_fault limits width threads steps TooManyCalls first =
    rw (
      length-map threads thread_calls,
      le-ltb 64 (length threads) first.0,
      fails (are_short (map thread_calls threads)) (short threads) first.1,
    ) refl
is_first_fault limits width threads steps TooManySteps first =
    rw (
      length-map threads thread_calls,
      le-ltb 64 (length threads) first.0,
      (short threads).1 first.1,
      lt-ltb 1000000 (length steps) first.2,
    ) refl
is_first_fault limits width threads steps (NoSuchThread i) first =
    rw (
      length-map threads thread_calls,
      le-ltb 64 (length threads) first.0,
      (short threads).1 first.1,
      le-ltb 1000000 (length steps) first.2,
      unknown_at (length threads) steps i first.3,
    ) refl
is_first_fault limits width threads steps RecordWidth first =
    rw (
      length-map threads thread_calls,
      le-ltb 64 (length threads) first.0,
      (short threads).1 first.1,
      le-ltb 1000000 (length steps) first.2,
      none_unknown (length threads) steps first.3,
      unsuited width threads first.4,
    ) refl
