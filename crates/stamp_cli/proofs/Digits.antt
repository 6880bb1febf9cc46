-- A number in decimal digits alone.
use Rattle.std.proofs.Common.{◌≡◌, ℕ, ◌^◌, ◌<◌, ◌&&◌, List, Bool, true, false, Result, Ok, Err, length, nat_lt, refl}
use Rattle.std.specs.Char.{is_ascii_digit}
use Rattle.std.specs.List.{list_all}
use Rattle.std.specs.Result.{OkIff, result_ok}
use Rattle.std.specs.Str.Parse.{digits_value, ParsesUnsigned}
use Rattle.std.proofs.lemmas.Bool.{lt-ltb, ltb-true}
use Rattle.std.proofs.lemmas.Str.Parse.{IsNumeralModel, numerals_by_value, parse_digits}
use Rattle.std.proofs.Common.{rules}
use Rattle.stamp_cli.specs.Order.{number_in}

own : IsNumeralModel (λ ds. list_all is_ascii_digit ds ≡ true) (digits_value 10)
own = numerals_by_value _ (search rules)

refused_at : (a b : Bool) (n v : ℕ) → nat_lt 0 n ≡ a → nat_lt v (2 ^ 64) ≡ b → ((0 < n) × (v < 2 ^ 64) → ⊥) →
    (a && b) ≡ false
refused_at true true n v e f h = absurd (h (ltb-true 0 n e, ltb-true v (2 ^ 64) f))
refused_at true false n v e f h = refl
refused_at false b n v e f h = refl

number_at : {E : Type 0} (text : List ℕ) (r : Result ℕ E) →
    OkIff r ((0 < length text) × (digits_value 10 text < 2 ^ 64)) (digits_value 10 text) →
    list_all is_ascii_digit text ≡ true → result_ok r ≡ number_in text
number_at text (Ok x) h digits = rw (
  digits,
  lt-ltb 0 (length text) h.0.0,
  lt-ltb (digits_value 10 text) (2 ^ 64) h.0.1,
  h.1,
)
number_at text (Err e) h digits = rw (digits, refused_at _ _ (length text) (digits_value 10 text) refl refl h)

pub number_parsed : {E : Type 0} (text : List ℕ) (r : Result ℕ E) → ParsesUnsigned 64 10 text r →
    list_all is_ascii_digit text ≡ true → result_ok r ≡ number_in text
number_parsed text r h digits = number_at text r (parse_digits own 64 text r h digits) digits
