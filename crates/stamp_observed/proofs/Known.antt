-- What was read makes an observed history.
use Rattle.std.proofs.Common.{◌≡◌, ◌≤◌, ◌<◌, ℕ, List, length, refl, arith, Bool, true, false, Option, Some}
use Rattle.std.proofs.Common.{None, Ok, option_and_then}
use Rattle.std.specs.Prelude.{◌&&◌, nat_lt, IsTrue}
use Rattle.std.specs.List.{All}
use Rattle.std.proofs.lemmas.Bool.Decides.{nat_tests}
use Rattle.serde_json.specs.Data.{Data}
use Rattle.stamp_core.specs.Call.{call_suits}
use Rattle.stamp_explain.specs.declared.observed.Observation.{Observation}
use Rattle.stamp_explain.specs.declared.observed.Returned.{Returned}
use Rattle.stamp_explain.specs.Observed.{IsLow}
use Rattle.stamp_history.specs.declared.field.Field.TheVariants as part
use Rattle.stamp_history.specs.declared.read_error.ReadError.TheVariants.{NotHistory, Limit}
use Rattle.stamp_history.proofs.KnownHistory.{ranged_ok, let_through, listed_known}
use Rattle.stamp_observed.specs.ObservationValue as value
use Rattle.stamp_observed.specs.ObservedFields.{suited, ends_in_range, is_in_range, entry_at, entries}
use Rattle.stamp_observed.specs.inner.Span.{EndsLow}

-- what one entry keeps to
pub record IsKnown (w : ℕ) (e : Observation) : Type 0 where
  pub thread : e.thread < 64
  pub low : IsLow e
  pub suits : IsTrue (call_suits w e.call)

ends_low : (ended : Option Returned) → ends_in_range ended ≡ true → EndsLow ended
ends_low None t = tt
ends_low (Some r) t = below r.last t
  where
    below : (n : ℕ) → nat_lt n 288230376151711744 ≡ true → n < 288230376151711744
    below n t = grind (arith, nat_tests)

tests : (t f : ℕ) (b : Bool) → (nat_lt t 64 && nat_lt f 288230376151711744 && b) ≡ true →
    (t < 64) × ((f < 288230376151711744) × (b ≡ true))
tests t f true h = (grind (arith, nat_tests), (grind (arith, nat_tests), refl))
tests t f false h = absurd (grind (arith, nat_tests))

entry_known : (w i : ℕ) (d : Data) (e : Observation) → entry_at w i d ≡ Ok e → IsKnown w e
entry_known w i d e h =
    let in_range = ranged_ok (NotHistory (part.Entry i)) (Limit (part.Entry i)) is_in_range
    (option_and_then (suited w) (value.observation d)) e h in
    let all = tests e.thread e.first (ends_in_range e.returned) in_range.1 in
    record {
      thread = all.0;
      low = record { first = all.1.0; last = ends_low e.returned all.1.1 };
      suits = let_through (λ (x : Observation). call_suits w x.call) (value.observation d) e in_range.0;
    }

pub known_entries : (w : ℕ) (d : Data) (es : List Observation) → entries w d ≡ Ok es → (length es ≤ 640000) ×
    All (IsKnown w) es
unfolding entries
known_entries w = listed_known (IsKnown w) (entry_at w) (entry_known w)
