-- Words as JSON: a list of 1 to 16 whole numbers.
use Rattle.std.specs.Prelude.{ℕ, ◌&&◌, nat_le, List, [], ◌∷◌, length, Option, Some, None}
use Rattle.std.specs.Prelude.{option_and_then, option_map, if◌then◌else◌}
use Rattle.serde_json.specs.Data.{Data, Items, no_items, item}
use Rattle.serde_json.specs.Find as find
use Rattle.stamp_history.specs.JsonValue.{whole}

-- whole numbers and nothing else
abbrev pub numbers : Items → Option (List ℕ)
numbers no_items = Some []
numbers (item d ds) = option_and_then (λ n. option_map (λ ns. n ∷ ns) (numbers ds)) (whole d)

-- 1 to 16 of them
abbrev pub as_words : List ℕ → Option (List ℕ)
as_words ns = if nat_le 1 (length ns) && nat_le (length ns) 16 then Some ns else None

abbrev pub listed_words : Items → Option (List ℕ)
listed_words ds = option_and_then as_words (numbers ds)

abbrev pub words : Data → Option (List ℕ)
words d = option_and_then listed_words (find.as_array d)
