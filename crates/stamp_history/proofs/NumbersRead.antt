-- The whole numbers of a JSON value that was read have 64 bits.
use Rattle.std.proofs.Common.{◌≡◌, ℕ, ◌^◌, List, Bool, true, false, Option, Some, None, refl, subst}
use Rattle.std.proofs.Common.{option_map, option_and_then}
use Rattle.std.specs.Prelude.{◌&&◌, ◌==◌, nat_lt, slice_index, drop, if◌then◌else◌}
use Rattle.std.proofs.Common.{Ordering, Less, Equal, Greater}
use Rattle.std.specs.Ordering.{nat_cmp, match_ordering}
use Rattle.std.specs.Float.Numeral.{Parts, scan_numeral}
use Rattle.std.specs.Cmp.Lexicographic.{slice_cmp}
use Rattle.std.specs.Str.{is_utf8}
use Rattle.std.proofs.lemmas.Bool.{and_parts, ltb-true}
use Rattle.json.specs.Json as json
use Rattle.json.specs.Lex.{tokens}
use Rattle.serde_json.specs.Data.{Num, unsigned, negative, float, Data, null, boolean, number, string, array, object}
use Rattle.serde_json.specs.Data.{Items, no_items, item, Members, no_members, member, put}
use Rattle.serde_json.specs.Find.{get, get_member, as_array, as_u64}
use Rattle.serde_json.specs.Read.{is_integer, float_of, number_from, number_of, of_json, of_items, of_members}
use Rattle.serde_json.specs.Read.{read, max_depth}
use Rattle.stamp_history.specs.HistoryLaws.{IsU64}
use Rattle.stamp_history.specs.JsonValue.{whole, list_under}

-- the fact holds of what was found, if anything
pub record Finds {A : Type 0} (P : A → Type 0) (found : Option A) : Type 0 where
  pub is : (x : A) → found ≡ Some x → P x

pub finds : {A : Type 0} {P : A → Type 0} {x : A} → P x → Finds P (Some x)
finds {A} {P} {x} holds = record { is = λ y e. let same : x ≡ y = cc in subst P same holds }

pub finds_none : {A : Type 0} {P : A → Type 0} → Finds P None
finds_none {A} {P} = record { is = λ x e. cc }

pub finds_mapped : {A B : Type 0} {P : A → Type 0} {Q : B → Type 0} (f : A → B) (found : Option A) → Finds P found →
    ((x : A) → P x → Q (f x)) → Finds Q (option_map f found)
finds_mapped f None first more = finds_none
finds_mapped f (Some x) first more = finds (more x (first.is x refl))

pub finds_then : {A B : Type 0} {P : A → Type 0} {Q : B → Type 0} (f : A → Option B) (found : Option A) →
    Finds P found → ((x : A) → P x → Finds Q (f x)) → Finds Q (option_and_then f found)
finds_then f None first more = finds_none
finds_then f (Some x) first more = more x (first.is x refl)

pub finds_either : {A : Type 0} {P : A → Type 0} (b : Bool) {x y : Option A} → Finds P x → Finds P y →
    Finds P (if b then x else y)
finds_either true one other = one
finds_either false one other = other

abbrev NumIsU64 : Num → Type 0
NumIsU64 (unsigned n) = IsU64 n
NumIsU64 (negative z) = Unit {0}
NumIsU64 (float x) = Unit {0}

abbrev mutual
  pub DataIsU64 : Data → Type 0
  DataIsU64 null = Unit {0}
  DataIsU64 (boolean b) = Unit {0}
  DataIsU64 (number n) = NumIsU64 n
  DataIsU64 (string s) = Unit {0}
  DataIsU64 (array ds) = ItemsAreU64 ds
  DataIsU64 (object ms) = MembersAreU64 ms

  pub ItemsAreU64 : Items → Type 0
  ItemsAreU64 no_items = Unit {0}
  ItemsAreU64 (item d ds) = DataIsU64 d × ItemsAreU64 ds

  pub MembersAreU64 : Members → Type 0
  MembersAreU64 no_members = Unit {0}
  MembersAreU64 (member k d ms) = DataIsU64 d × MembersAreU64 ms

float_u64 : (sign : Bool) (p : Parts) → Finds NumIsU64 (float_of sign p)
float_u64 sign p = finds_either _ (finds tt) finds_none

-- a whole number is one only where it is below 2^64
below_u64 : (is_whole : Bool) (n : ℕ) {other : Option Num} → Finds NumIsU64 other →
    Finds NumIsU64 (if is_whole && nat_lt n (2 ^ 64) then Some (unsigned n) else other)
below_u64 is_whole n {other} rest = by (is_whole && nat_lt n (2 ^ 64)) refl
  where
    by : (b : Bool) → (is_whole && nat_lt n (2 ^ 64)) ≡ b → Finds NumIsU64 (if b then Some (unsigned n) else other)
    by true e = finds (ltb-true n (2 ^ 64) (and_parts is_whole _ e).1)
    by false e = rest

number_from_u64 : (sign : Bool) (p : Parts) → Finds NumIsU64 (number_from sign p)
number_from_u64 true p = finds_either _ (finds tt) (float_u64 true p)
number_from_u64 false p = below_u64 (is_integer p) _ (float_u64 false p)

number_u64 : (s : List ℕ) → Finds NumIsU64 (number_of s)
unfolding number_of
number_u64 s =
    finds_either (slice_index s 0 == 45) (number_from_u64 true (scan_numeral (drop 1 s)))
    (number_from_u64 false (scan_numeral s))

-- the fact of what one of three is
ordered : {A : Type 0} (P : A → Type 0) (o : Ordering) (x y z : A) → P x → P y → P z → P (match_ordering o x y z)
ordered P Less x y z f g h = f
ordered P Equal x y z f g h = g
ordered P Greater x y z f g h = h

put_u64 : (k : List ℕ) (d : Data) (ms : Members) → DataIsU64 d → MembersAreU64 ms → MembersAreU64 (put k d ms)
put_u64 k d no_members fits old = (fits, tt)
put_u64 k d (member l e ms) fits old = ordered MembersAreU64 (slice_cmp nat_cmp k l) (member k d (member l e ms))
    (member l d ms) (member l e (put k d ms)) (fits, old) (fits, old.1) (old.0, put_u64 k d ms fits old.1)

mutual
  json_u64 : (j : json.Json) → Finds DataIsU64 (of_json j)
  json_u64 json.null = finds tt
  json_u64 (json.boolean b) = finds tt
  json_u64 (json.number s) = finds_mapped number (number_of s) (number_u64 s) (λ n fits. fits)
  json_u64 (json.string s) = finds tt
  json_u64 (json.array js) = finds_mapped array (of_items js) (items_u64 js) (λ ds fits. fits)
  json_u64 (json.object ms) =
      finds_mapped object (of_members ms no_members) (members_u64 ms no_members tt) (λ found fits. fits)

  items_u64 : (js : json.Items) → Finds ItemsAreU64 (of_items js)
  items_u64 json.no_items = finds tt
  items_u64 (json.item j js) =
      finds_then (λ d. option_map (item d) (of_items js)) (of_json j) (json_u64 j)
      (λ d fits. finds_mapped (item d) (of_items js) (items_u64 js) (λ ds rest. (fits, rest)))

  members_u64 : (ms : json.Members) (old : Members) → MembersAreU64 old → Finds MembersAreU64 (of_members ms old)
  members_u64 json.no_members old held = finds held
  members_u64 (json.member k j ms) old held =
      finds_then (λ d. of_members ms (put k d old)) (of_json j) (json_u64 j)
      (λ d fits. members_u64 ms (put k d old) (put_u64 k d old fits held))

-- of what was read of any text
pub read_u64 : (bytes : List ℕ) → Finds DataIsU64 (if is_utf8 bytes then read bytes else None)
read_u64 bytes =
    finds_either (is_utf8 bytes)
    (whole_text (option_and_then (λ p. json.if_last p.0 p.1) (json.value max_depth (tokens bytes)))) finds_none
  where
    whole_text : (found : Option json.Json) → Finds DataIsU64 (option_and_then of_json found)
    whole_text None = finds_none
    whole_text (Some j) = json_u64 j

-- and of what is found in it
member_u64 : (k : List ℕ) (ms : Members) → MembersAreU64 ms → Finds DataIsU64 (get_member k ms)
member_u64 k no_members held = finds_none
member_u64 k (member l e ms) held =
    ordered (Finds DataIsU64) (slice_cmp nat_cmp k l) (get_member k ms) (Some e) (get_member k ms)
    (member_u64 k ms held.1) (finds held.0) (member_u64 k ms held.1)

pub get_u64 : (k : List ℕ) (d : Data) → DataIsU64 d → Finds DataIsU64 (get k d)
get_u64 k null fits = finds_none
get_u64 k (boolean b) fits = finds_none
get_u64 k (number n) fits = finds_none
get_u64 k (string s) fits = finds_none
get_u64 k (array ds) fits = finds_none
get_u64 k (object ms) fits = member_u64 k ms fits

pub array_u64 : (d : Data) → DataIsU64 d → Finds ItemsAreU64 (as_array d)
array_u64 null fits = finds_none
array_u64 (boolean b) fits = finds_none
array_u64 (number n) fits = finds_none
array_u64 (string s) fits = finds_none
array_u64 (array ds) fits = finds fits
array_u64 (object ms) fits = finds_none

pub list_u64 : (key : List ℕ) (d : Data) → DataIsU64 d → Finds ItemsAreU64 (list_under key d)
list_u64 key d fits = finds_then as_array (get key d) (get_u64 key d fits) array_u64

integer_u64 : (n : Num) → NumIsU64 n → Finds IsU64 (as_u64 n)
integer_u64 (unsigned n) fits = finds fits
integer_u64 (negative z) fits = finds_none
integer_u64 (float x) fits = finds_none

pub whole_u64 : (d : Data) → DataIsU64 d → Finds IsU64 (whole d)
whole_u64 null fits = finds_none
whole_u64 (boolean b) fits = finds_none
whole_u64 (number n) fits = integer_u64 n fits
whole_u64 (string s) fits = finds_none
whole_u64 (array ds) fits = finds_none
whole_u64 (object ms) fits = finds_none
