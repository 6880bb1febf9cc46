-- What is asked of a JSON value.
use Rattle.std.specs.Prelude.{ℕ, ◌==◌, ◌&&◌, List, length, Bool, false, Option, is_some, option_and_then}
use Rattle.std.specs.List.{list_all}
use Rattle.std.specs.Option.{option_map_or}
use Rattle.serde_json.specs.Data.{Data, Items}
use Rattle.serde_json.specs.Find as find
use Rattle.serde_json.specs.Events.{members_len}

-- an object of n members
abbrev pub has_members : ℕ → Data → Bool
has_members n d = option_map_or (λ ms. members_len ms == n) (find.as_object d) false

abbrev pub has_key : List ℕ → Data → Bool
has_key key d = is_some (find.get key d)

-- an object with these keys, of which no two are equal, and no others
abbrev pub has_keys : List (List ℕ) → Data → Bool
has_keys keys d = has_members (length keys) d && list_all (λ key. has_key key d) keys

-- a whole number: one from 0 to 2^64-1, without a fraction or an exponent
abbrev pub whole : Data → Option ℕ
whole d = option_and_then find.as_u64 (find.as_number d)

-- the whole number under a key
abbrev pub whole_under : List ℕ → Data → Option ℕ
whole_under key d = option_and_then whole (find.get key d)

-- the list under a key
abbrev pub list_under : List ℕ → Data → Option Items
list_under key d = option_and_then find.as_array (find.get key d)
