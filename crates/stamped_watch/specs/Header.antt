-- The bytes of a header: the letters `stmp`, its form, the layout, the most readers and the most versions; and of a
-- stream with data how many words its record has, and seven zeros. Numbers begin with their lowest byte.
use Rattle.std.specs.Prelude.{ℕ, ◌≡◌, ◌≢◌, ◌<◌, ◌≤◌, ◌⊎◌, Bool, true, false, List, [], Option, Some, None, length}
use Rattle.std.specs.Prelude.{take, drop}
use Rattle.std.specs.Prelude.{slice_index, codes, is_some}
use Rattle.std.specs.Int.{from_le_bytes, w16}
use Rattle.std.specs.List.{All}
use Rattle.stamp_core.specs.Limits.{Bounds, AreInRange}
use Rattle.stamp_core.specs.declared.layout.Layout.{Layout}
use Rattle.stamp_core.specs.declared.layout.Layout.TheVariants.{One, Two}
use Rattle.stamped_watch.specs.declared.header.BadHeader.{BadHeader}
use Rattle.stamped_watch.specs.declared.header.BadHeader.TheVariants.{Letters, Form, Layout as Shape, Limits, Width}
use Rattle.stamped_watch.specs.declared.header.Header.{Header}
use Rattle.stamped_watch.specs.EventBytes.{number_in}

abbrev pub HasLetters : List ℕ → Type 0
HasLetters bytes = take 4 bytes ≡ codes "stmp"

abbrev pub form_in : List ℕ → ℕ
form_in bytes = slice_index bytes 4

abbrev pub layout_in : List ℕ → ℕ
layout_in bytes = slice_index bytes 5

abbrev pub readers_in : List ℕ → ℕ
readers_in bytes = from_le_bytes w16 (take 2 (drop 6 bytes))

abbrev pub layout_byte : Layout → ℕ
layout_byte One = 1
layout_byte Two = 2

-- 1 is the form of a stream of a lock alone, 2 that of one with data
abbrev pub form_byte : Bool → ℕ
form_byte false = 1
form_byte true = 2

-- these limits stand there; the versions stand where an event has its number
pub record HasLimits (limits : Bounds) (bytes : List ℕ) : Type 0 where
  pub layout : layout_in bytes ≡ layout_byte limits.layout
  pub readers : readers_in bytes ≡ limits.readers
  pub versions : number_in bytes ≡ limits.versions

-- the first 16 bytes of a header
pub record IsFront (limits : Bounds) (has_data : Bool) (bytes : List ℕ) : Type 0 where
  pub letters : HasLetters bytes
  pub form_is : form_in bytes ≡ form_byte has_data
  pub limits_are : HasLimits limits bytes
  pub range : AreInRange limits

-- eight bytes say how many words the record has: 1 to 16
pub record HasWidth (width : ℕ) (bytes : List ℕ) : Type 0 where
  pub width_is : slice_index bytes 0 ≡ width
  pub some : 1 ≤ width
  pub few : width ≤ 16
  pub zeros : All (λ (byte : ℕ). byte ≡ 0) (drop 1 bytes)

-- what stands behind those 16 in each form
abbrev pub StandsBehind : Option ℕ → List ℕ → Type 0
StandsBehind None bytes = bytes ≡ []
StandsBehind (Some width) bytes = (length bytes ≡ 8) × HasWidth width bytes

-- these are the bytes of the header
pub record IsHeader (header : Header) (bytes : List ℕ) : Type 0 where
  pub many : 16 ≤ length bytes
  pub front : IsFront header.limits (is_some header.width) (take 16 bytes)
  pub behind : StandsBehind header.width (drop 16 bytes)

-- limits stand there that are out of range
pub record HasNoLimits (bytes : List ℕ) : Type 0 where
  pub limits : Bounds
  pub has : HasLimits limits bytes
  pub range : ¬ AreInRange limits

abbrev pub HasForm : List ℕ → Type 0
HasForm bytes = (has_data : Bool) × (form_in bytes ≡ form_byte has_data)

-- this is the first thing that is wrong with 16 bytes that are no header's first ones
abbrev pub IsNoFront : BadHeader → List ℕ → Type 0
IsNoFront Letters bytes = ¬ HasLetters bytes
IsNoFront Form bytes = HasLetters bytes × (¬ HasForm bytes)
IsNoFront Shape bytes =
    HasLetters bytes × HasForm bytes × ((layout : Layout) → layout_in bytes ≢ layout_byte layout)
IsNoFront Limits bytes = HasLetters bytes × HasForm bytes × HasNoLimits bytes
IsNoFront Width bytes = ⊥

-- they begin the header of a stream with data
abbrev pub BeginsWithData : List ℕ → Type 0
BeginsWithData bytes = (16 ≤ length bytes) × ((limits : Bounds) × IsFront limits true (take 16 bytes))

-- the bytes begin with no header, for this cause
abbrev pub IsNoHeader : BadHeader → List ℕ → Type 0
IsNoHeader Width bytes =
    (24 ≤ length bytes) × BeginsWithData bytes × ((width : ℕ) → ¬ HasWidth width (take 8 (drop 16 bytes)))
IsNoHeader why bytes = (16 ≤ length bytes) × IsNoFront why (take 16 bytes)

-- they end within it
abbrev pub IsShortHeader : List ℕ → Type 0
IsShortHeader bytes = (length bytes < 16) ⊎ ((length bytes < 24) × BeginsWithData bytes)
