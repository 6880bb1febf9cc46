-- The least first and the greatest last position of some calls.
use Rattle.std.specs.Prelude.{ℕ, ◌≡◌, ◌<◌, ◌-◌, nat_le, Bool, false, List, length, drop, slice_index_or, Option}
use Rattle.std.specs.List.{list_any}
use Rattle.std.specs.Option.{option_map_or}
use Rattle.stamp_core.specs.declared.entry.Entry.{Entry}

-- the position, if there is one, is at most this, or at least
abbrev pub is_by : Option ℕ → ℕ → Bool
is_by first at = option_map_or (λ (n : ℕ). nat_le n at) first false

abbrev pub is_until : Option ℕ → ℕ → Bool
is_until last at = option_map_or (λ (n : ℕ). nat_le at n) last false

-- it tells of each position whether one of these calls began by then, or had not returned until then
abbrev pub IsFirstOf : List Entry → Option ℕ → Type 0
IsFirstOf entries first = (at : ℕ) → is_by first at ≡ list_any (λ (d : Entry). nat_le d.first at) entries

abbrev pub IsLastOf : List Entry → Option ℕ → Type 0
IsLastOf entries last = (at : ℕ) → is_until last at ≡ list_any (λ (d : Entry). nat_le at d.last) entries

-- for each entry, the last one first, that of those behind it
abbrev pub AreFirstsBehind : List Entry → List (Option ℕ) → Type 0
AreFirstsBehind entries firsts = (k : ℕ) (d : Option ℕ) → k < length firsts →
    IsFirstOf (drop (length entries - k) entries) (slice_index_or firsts k d)
