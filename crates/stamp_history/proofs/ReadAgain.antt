-- Values whose text reads as the value.
use Rattle.std.proofs.Common.{◌≡◌, ◌≤◌, ◌∙◌, ◌++◌, ℕ, ◌^◌, ◌<◌, suc, List, [], ◌∷◌, Bool, true}
use Rattle.std.proofs.Common.{false, refl, ap, sym, arith, Some, option_and_then, decimal}
use Rattle.std.proofs.Common.{append-nil, Ok}
use Rattle.std.specs.Str.{IsUtf8}
use Rattle.std.proofs.lemmas.Fmt.{IsAscii-decimal}
use Rattle.std.proofs.lemmas.Str.{IsUtf8-append, IsUtf8-nil, IsUtf8-from_ascii, is_utf8-from_IsUtf8}
use Rattle.json.specs.Json as json
use Rattle.json.specs.Lex.{tokens}
use Rattle.json.specs.Tree as tree
use Rattle.json.specs.Print.{quoted}
use Rattle.json.proofs.Printed.Decimals.{IsNumber-decimal}
use Rattle.json.proofs.Printed.Tokens.{tokens-print}
use Rattle.json.proofs.Printed.Trees.{value-json_tokens, ArePrintable-json_tokens}
use Rattle.json.proofs.Printed.Utf8.{are_ascii, IsUtf8-are_ascii, IsUtf8-quoted}
use Rattle.serde_json.specs.Data.{Data, string, array, object, Items, no_items, item, Members, no_members, member}
use Rattle.serde_json.specs.Read.{read, of_json, of_items, of_members}
use Rattle.serde_json.specs.Written.{outline, items_outline, members_outline, compact_text}
use Rattle.serde_json.specs.Written.{items_text, members_text, comma_if}
use Rattle.serde_json.proofs.Numbers.{number_of-decimal}
use Rattle.serde_json.proofs.Texts.{print-outline}
use Rattle.stamp_history.specs.JsonReading.{json_of}
use Rattle.stamp_history.specs.ReplayText.{number_data}
use Rattle.stamp_history.proofs.LineFeed.{tokens_line}

-- a value that is n deep at most, and reads again from its text
pub record ReadsAgain (n : ℕ) (d : Data) : Type 0 where
  pub numbers : tree.HasNumbers (outline d)
  pub depth : tree.depth (outline d) ≤ n
  pub same : of_json (outline d) ≡ Some d
  pub utf8 : IsUtf8 (compact_text d)

pub record ItemsReadAgain (n : ℕ) (ds : Items) : Type 0 where
  pub numbers : tree.ItemsHaveNumbers (items_outline ds)
  pub depth : tree.items_depth (items_outline ds) ≤ n
  pub same : of_items (items_outline ds) ≡ Some ds
  pub utf8 : (later : Bool) → IsUtf8 (items_text later ds)

-- of members all but that they are read in their order
pub record MembersReadAgain (n : ℕ) (ms : Members) : Type 0 where
  pub numbers : tree.MembersHaveNumbers (members_outline ms)
  pub depth : tree.members_depth (members_outline ms) ≤ n
  pub utf8 : (later : Bool) → IsUtf8 (members_text later ms)

-- a text that has the tokens of the value's own text is read as that value
tokens_read : (d : Data) (text : List ℕ) → ReadsAgain 127 d → tokens text ≡ tree.json_tokens (outline d) →
    read text ≡ Some d
tokens_read d text again lexed =
    let ts = tree.json_tokens (outline d) in
    let parsed = ap (json.value 127) (lexed ∙ sym (append-nil ts)) ∙
    value-json_tokens (outline d) 127 [] again.depth in
    ap (λ found. option_and_then of_json (option_and_then (λ p. json.if_last p.0 p.1) found)) parsed ∙ again.same

pub text_read : (d : Data) → ReadsAgain 127 d → json_of (compact_text d) ≡ Ok d
text_read d again =
    let ts = tree.json_tokens (outline d) in
    let lexed = ap tokens (sym (print-outline d)) ∙
    tokens-print ts (ArePrintable-json_tokens (outline d) again.numbers) in
    rw (is_utf8-from_IsUtf8 (compact_text d) again.utf8, tokens_read d (compact_text d) again lexed) refl

-- and so is its line
pub line_read : (d : Data) → ReadsAgain 127 d → json_of (compact_text d ++ 10 ∷ []) ≡ Ok d
line_read d again =
    let ts = tree.json_tokens (outline d) in
    let line = compact_text d ++ 10 ∷ [] in
    let lexed = ap (λ (text : List ℕ). tokens (text ++ 10 ∷ [])) (sym (print-outline d)) ∙
    tokens_line ts (ArePrintable-json_tokens (outline d) again.numbers) in
    let utf8 = IsUtf8-append (compact_text d) (10 ∷ []) again.utf8 (IsUtf8-are_ascii (10 ∷ []) refl) in
    rw (is_utf8-from_IsUtf8 line utf8, tokens_read d line again lexed) refl

comma : (later : Bool) → IsUtf8 (comma_if later)
comma true = IsUtf8-are_ascii (44 ∷ []) refl
comma false = IsUtf8-nil

pub number_again : (n : ℕ) → n < 2 ^ 64 → ReadsAgain 0 (number_data n)
number_again n fits = record {
  numbers = IsNumber-decimal n fits;
  depth = omega arith;
  same = rw (number_of-decimal n fits) refl;
  utf8 = IsUtf8-from_ascii (decimal n) (IsAscii-decimal n fits);
}

pub string_again : (name : List ℕ) → are_ascii name ≡ true → ReadsAgain 0 (string name)
string_again name ascii = record {
  numbers = tt;
  depth = omega arith;
  same = refl;
  utf8 = IsUtf8-quoted name (IsUtf8-are_ascii name ascii);
}

pub no_items_again : (n : ℕ) → ItemsReadAgain n no_items
no_items_again n = record {
  numbers = tt;
  depth = omega arith;
  same = refl;
  utf8 = λ later. IsUtf8-are_ascii (93 ∷ []) refl;
}

pub item_again : (m n : ℕ) (d : Data) (ds : Items) → m ≤ n → ReadsAgain m d → ItemsReadAgain n ds →
    ItemsReadAgain n (item d ds)
item_again m n d ds le one more = record {
  numbers = (one.numbers, more.numbers);
  depth = omega (arith, one.depth, more.depth);
  same = rw (one.same, more.same) refl;
  utf8 = λ later. IsUtf8-append (comma_if later) (compact_text d ++ items_text true ds) (comma later)
      (IsUtf8-append (compact_text d) (items_text true ds) one.utf8 (more.utf8 true));
}

pub array_again : (n : ℕ) (ds : Items) → ItemsReadAgain n ds → ReadsAgain (suc n) (array ds)
array_again n ds again = record {
  numbers = again.numbers;
  depth = omega (arith, again.depth);
  same = rw again.same refl;
  utf8 = IsUtf8-append (91 ∷ []) (items_text false ds) (IsUtf8-are_ascii (91 ∷ []) refl) (again.utf8 false);
}

pub no_members_again : (n : ℕ) → MembersReadAgain n no_members
no_members_again n = record {
  numbers = tt;
  depth = omega arith;
  utf8 = λ later. IsUtf8-are_ascii (125 ∷ []) refl;
}

pub member_again : (m n : ℕ) (key : List ℕ) (d : Data) (ms : Members) → m ≤ n → are_ascii key ≡ true →
    ReadsAgain m d → MembersReadAgain n ms → MembersReadAgain n (member key d ms)
member_again m n key d ms le ascii one more = record {
  numbers = (one.numbers, more.numbers);
  depth = omega (arith, one.depth, more.depth);
  utf8 = λ later.
      let value = IsUtf8-append (compact_text d) (members_text true ms) one.utf8 (more.utf8 true) in
      let colon = IsUtf8-append (58 ∷ []) (compact_text d ++ members_text true ms)
      (IsUtf8-are_ascii (58 ∷ []) refl) value in
      let named = IsUtf8-append (quoted key) (58 ∷ (compact_text d ++ members_text true ms))
      (IsUtf8-quoted key (IsUtf8-are_ascii key ascii)) colon in
      IsUtf8-append (comma_if later) (quoted key ++ 58 ∷ (compact_text d ++ members_text true ms)) (comma later) named;
}

pub object_again : (n : ℕ) (ms : Members) → MembersReadAgain n ms → of_members (members_outline ms) no_members ≡
    Some ms → ReadsAgain (suc n) (object ms)
object_again n ms again same = record {
  numbers = again.numbers;
  depth = omega (arith, again.depth);
  same = rw same refl;
  utf8 = IsUtf8-append (123 ∷ []) (members_text false ms) (IsUtf8-are_ascii (123 ∷ []) refl) (again.utf8 false);
}
