-- Values in words.
use Rattle.std.specs.Prelude.{◌≡◌, ◌==◌, ℕ, ℤ, Bool, List, map, not, to_bits, from_bits}
use Rattle.std.specs.Int.{w64, cast_unsigned, cast_signed, from_bool}
use Rattle.std.specs.Float.{binary64}
use lib.Ieee.{Float}

-- these are the words of a value
abbrev pub AreWordsOf : {T : Type 0} → (T → Type 0) → (T → List ℕ) → List ℕ → Type 0
AreWordsOf {T} IsValue words row = (value : T) × IsValue value × (row ≡ words value)

-- each of these values comes back from its word
abbrev pub ComeBack : {T : Type 0} → (ℕ → T) → (T → ℕ) → List T → Type 0
ComeBack value word values = map value (map word values) ≡ values

-- the word of a number or of a truth value, and what a word is read as
abbrev pub i64_word : ℤ → ℕ
i64_word = cast_unsigned w64

abbrev pub i64_of : ℕ → ℤ
i64_of = cast_signed w64

abbrev pub f64_word : Float → ℕ
f64_word = to_bits binary64

abbrev pub f64_of : ℕ → Float
f64_of = from_bits binary64

abbrev pub bool_word : Bool → ℕ
bool_word = from_bool

abbrev pub bool_of : ℕ → Bool
bool_of n = not (n == 0)

-- a number of the type: it comes back from its word
abbrev pub IsI64 : ℤ → Type 0
IsI64 z = i64_of (i64_word z) ≡ z

abbrev pub IsF64 : Float → Type 0
IsF64 x = f64_of (f64_word x) ≡ x
