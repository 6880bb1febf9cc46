-- The options and the file of a command line.
use Rattle.std.specs.Prelude.{◌≡◌, ◌↔◌, ◌&&◌, ℕ, List, [], ◌∷◌, Bool, true, false, not, Option, Some, None}
use Rattle.std.specs.Prelude.{if◌then◌else◌, option_and_then}
use Rattle.std.specs.List.{flat_map, list_any, find}
use Rattle.std.specs.Str.{bytes_eq}
use Rattle.std.specs.Str.Parse.{starts_with_minus}

-- the options of a program: those that no word follows, and those that a word follows
pub record Table : Type 0 where
  pub flags : List (List ℕ)
  pub worded : List (List ℕ)

-- a part of a command line: an option alone, one with the word behind it, a file, or a word that is none of these
pub data Item : Type 0 where
  flag : List ℕ → Item
  worded : List ℕ → List ℕ → Item
  file : List ℕ → Item
  stray : List ℕ → Item

abbrev pub is_in : List (List ℕ) → List ℕ → Bool
is_in names word = list_any (λ (name : List ℕ). bytes_eq name word) names

-- what a word is that stands alone: an option that should have a word behind it lacks that
abbrev pub alone : Table → List ℕ → Item
alone t word =
    if is_in t.worded word then stray word
    else if is_in t.flags word then flag word
    else if starts_with_minus word then stray word
    else file word

-- the parts of a command line: a word behind an option that takes one belongs to it
abbrev pub items_of : Table → List (List ℕ) → List Item
items_of t [] = []
items_of t (word ∷ []) = alone t word ∷ []
items_of t (word ∷ next ∷ rest) =
    if is_in t.worded word then worded word next ∷ items_of t rest else alone t word ∷ items_of t (next ∷ rest)

abbrev pub is_stray : Item → Bool
is_stray (stray word) = true
is_stray _ = false

-- the option of this name, and the file
abbrev pub is_option : List ℕ → Item → Bool
is_option name (flag other) = bytes_eq other name
is_option name (worded other word) = bytes_eq other name
is_option name _ = false

abbrev pub is_file : Item → Bool
is_file (file name) = true
is_file _ = false

-- the option of the same name, or a file as well
abbrev pub is_as : Item → Item → Bool
is_as (flag name) other = is_option name other
is_as (worded name word) other = is_option name other
is_as (file name) other = is_file other
is_as (stray word) other = false

-- each part is an option or a file, and no option comes twice, and no two files
abbrev pub are_given : List Item → Bool
are_given [] = true
are_given (item ∷ items) = not (is_stray item) && not (list_any (is_as item) items) && are_given items

-- what a command line gives, if it is one
abbrev pub given_in : Table → List (List ℕ) → Option (List Item)
given_in t args = if are_given (items_of t args) then Some (items_of t args) else None

-- the words of a part
abbrev pub words_of : Item → List (List ℕ)
words_of (flag name) = name ∷ []
words_of (worded name word) = name ∷ word ∷ []
words_of (file name) = name ∷ []
words_of (stray word) = word ∷ []

-- an option of the table, alone or with a word as that says; or a word that is no option, and doesn't begin as one
abbrev pub IsPart : Table → Item → Type 0
IsPart t (flag name) = (is_in t.worded name ≡ false) × (is_in t.flags name ≡ true)
IsPart t (worded name word) = is_in t.worded name ≡ true
IsPart t (file name) =
    (is_in t.worded name ≡ false) × (is_in t.flags name ≡ false) × (starts_with_minus name ≡ false)
IsPart t (stray word) = ⊥

abbrev pub AreParts : Table → List Item → Type 0
AreParts t [] = Unit {0}
AreParts t (item ∷ items) = IsPart t item × AreParts t items

-- a command line is the words of such parts, of which none comes twice
pub record IsReading (t : Table) (args : List (List ℕ)) (items : List Item) : Type 0 where
  pub spelled : flat_map words_of items ≡ args
  pub parts : AreParts t items
  pub once : are_given items ≡ true

-- what a command line gives are its parts, and it has no others; nothing is given where there are none
abbrev pub OneReading : Type 0
OneReading = (t : Table) (args : List (List ℕ)) (items : List Item) → IsReading t args items ↔
    (given_in t args ≡ Some items)

abbrev pub word_behind : Item → Option (List ℕ)
word_behind (worded name word) = Some word
word_behind _ = None

abbrev pub name_of : Item → Option (List ℕ)
name_of (file name) = Some name
name_of _ = None

-- whether the option was given
abbrev pub has : List ℕ → List Item → Bool
has name items = list_any (is_option name) items

-- the word behind the option, and the file, if they were given
abbrev pub word_of : List ℕ → List Item → Option (List ℕ)
word_of name items = option_and_then word_behind (find (is_option name) items)

abbrev pub file_of : List Item → Option (List ℕ)
file_of items = option_and_then name_of (find is_file items)
