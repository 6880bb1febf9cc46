-- Where a text has no JSON value.
use Rattle.std.proofs.Common.{◌≡◌, ℕ, List, Bool, true, false, None, Err, refl}
use Rattle.std.specs.Str.{IsUtf8, is_utf8}
use Rattle.std.proofs.lemmas.Str.{IsUtf8-from_is_utf8}
use Rattle.serde_json.specs.Read.{read}
use Rattle.stamp_history.specs.declared.read_error.ReadError.TheVariants.{NotJson}
use Rattle.stamp_history.specs.JsonReading.{json_of}

refused_at : (b : Bool) (bytes : List ℕ) → is_utf8 bytes ≡ b → (IsUtf8 bytes → read bytes ≡ None) → json_of bytes ≡
    Err NotJson
refused_at true bytes e none = rw (e, none (IsUtf8-from_is_utf8 bytes e))
refused_at false bytes e none = rw e

pub json_of-refused : (bytes : List ℕ) → (IsUtf8 bytes → read bytes ≡ None) → json_of bytes ≡ Err NotJson
json_of-refused bytes none = refused_at (is_utf8 bytes) bytes refl none
