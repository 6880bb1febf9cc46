-- Well-formed XML: elements with attributes, and text in which markup is escaped. Names are letters and
-- texts are ASCII.
use Rattle.std.specs.Prelude.{ℕ, ◌≡◌, ◌&&◌, ◌||◌, ◌==◌, nat_le, nat_lt, not, Bool, true, List, [], ◌∷◌, ◌++◌, map}
use Rattle.std.specs.Prelude.{length, codes, if◌then◌else◌}
use Rattle.std.specs.List.{concat, list_all, list_any}
use Rattle.std.specs.Str.{bytes_eq}

-- a printable character that is no markup, or a line feed
abbrev pub is_plain : ℕ → Bool
is_plain c = (nat_le 32 c && nat_le c 126 && not (c == 34 || c == 38 || c == 60 || c == 62)) || (c == 10)

-- plain characters, and references to those that are markup
pub data IsText : List ℕ → Type 0 where
  nothing : IsText []
  plain : (c : ℕ) (rest : List ℕ) → is_plain c ≡ true → IsText rest → IsText (c ∷ rest)
  less : (rest : List ℕ) → IsText rest → IsText (codes "&lt;" ++ rest)
  greater : (rest : List ℕ) → IsText rest → IsText (codes "&gt;" ++ rest)
  ampersand : (rest : List ℕ) → IsText rest → IsText (codes "&amp;" ++ rest)
  quote : (rest : List ℕ) → IsText rest → IsText (codes "&quot;" ++ rest)

-- a character as text; one that XML may not have becomes a question mark
abbrev pub escape : ℕ → List ℕ
escape c =
    if c == 60 then codes "&lt;" else if c == 62 then codes "&gt;" else if c == 38 then codes "&amp;"
    else if c == 34 then codes "&quot;" else if is_plain c then c ∷ [] else codes "?"

abbrev pub escaped : List ℕ → List ℕ
escaped text = concat (map escape text)

-- a name, and what it is given
abbrev pub Attribute : Type 0
Attribute = List ℕ × List ℕ

abbrev pub is_letter : ℕ → Bool
is_letter c = (nat_le 65 c && nat_le c 90) || (nat_le 97 c && nat_le c 122)

abbrev pub is_name : List ℕ → Bool
is_name name = nat_lt 0 (length name) && list_all is_letter name

-- names, of which no two are the same
abbrev pub are_names : List (List ℕ) → Bool
are_names [] = true
are_names (name ∷ names) = is_name name && not (list_any (bytes_eq name) names) && are_names names

abbrev pub attribute_text : Attribute → List ℕ
attribute_text a = codes " " ++ (a.0 ++ (codes "=\"" ++ (escaped a.1 ++ codes "\"")))

abbrev pub attributes_text : List Attribute → List ℕ
attributes_text attributes = concat (map attribute_text attributes)

abbrev pub element_text : List ℕ → List Attribute → List ℕ → List ℕ
element_text name attributes inside =
    codes "<" ++ (name ++ (attributes_text attributes ++ (codes ">" ++
    (inside ++ (codes "</" ++ (name ++ codes ">"))))))

-- the name of an element, and of each of its attributes
abbrev pub AreNames : List ℕ → List Attribute → Type 0
AreNames name attributes = (is_name name ≡ true) × (are_names (map (λ (a : Attribute). a.0) attributes) ≡ true)

-- what stands in an element: texts and elements
pub data IsContent : List ℕ → Type 0 where
  text : (t : List ℕ) → IsText t → IsContent t
  element : (name : List ℕ) (attributes : List Attribute) (inside : List ℕ) → AreNames name attributes →
      IsContent inside → IsContent (element_text name attributes inside)
  both : (a b : List ℕ) → IsContent a → IsContent b → IsContent (a ++ b)

-- one element, and a line feed
pub record IsDocument (document : List ℕ) : Type 0 where
  pub name : List ℕ
  pub attributes : List Attribute
  pub inside : List ℕ
  pub names : AreNames name attributes
  pub content : IsContent inside
  pub is : document ≡ element_text name attributes inside ++ 10 ∷ []
