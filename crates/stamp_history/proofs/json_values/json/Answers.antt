use Rattle.std.proofs.Common.{◌≡◌, ◌<◌, ℕ, List, [], ◌∷◌, length, Option, Some, None, arith, subst}
use Rattle.json.specs.Lex.{lex, punctuate}
use Rattle.json.specs.Json.{value}
use Rattle.serde_json.specs.Data.{Data}
use Rattle.serde_json.specs.Read.{read}
use Rattle.std.proofs.lemmas.Str.{is_utf8-from_IsUtf8}
use Rattle.std.proofs.lemmas.Bool.{iff_false}
use Rattle.stamp_history.proofs.NoJson.{json_of-refused}
use Rattle.stamp_history.proofs.json_values.json.Goals as goal

is_none : Option Data → Type 0
is_none None = Unit {0}
is_none (Some d) = ⊥

some_text : (bytes : List ℕ) (d : Data) → read bytes ≡ Some d → 0 < length bytes
unfolding lex value punctuate is_none
some_text [] d e = absurd (subst is_none e tt)
some_text (b ∷ bs) d e = omega arith

pub returns-in-Ok-clause-some : goal.returns-in-Ok-clause-some
returns-in-Ok-clause-some c = some_text c.args.bytes.now _ c.in-Ok.ensures.ok.1

pub returns-in-Ok-clause-read : goal.returns-in-Ok-clause-read
returns-in-Ok-clause-read c = rw (is_utf8-from_IsUtf8 c.args.bytes.now c.in-Ok.ensures.ok.0, c.in-Ok.ensures.ok.1)

pub returns-in-Err-2-clause-read : goal.returns-in-Err-2-clause-read
returns-in-Err-2-clause-read c = λ _. json_of-refused c.args.bytes.now
    (c.in-Err.ensures.err (iff_false c.is_memory.ensures c.if-is_memory.false))
