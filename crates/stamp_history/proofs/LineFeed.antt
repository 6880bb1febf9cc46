-- A line feed after a text that was printed of tokens changes none of them.
use Rattle.std.proofs.Common.{◌≡◌, ◌∙◌, ◌++◌, ◌&&◌, ℕ, Bool, true, false, cond, List, [], ◌∷◌, refl}
use Rattle.std.proofs.Common.{sym, ap, ap₂, append_assoc, append-nil}
use Rattle.json.specs.Token.{Token, begin_object, end_object, begin_array, end_array, key, string, number}
use Rattle.json.specs.Token.{boolean, null, bad}
use Rattle.json.specs.Word.{ends_word, word}
use Rattle.json.specs.Lex.{Lexeme, token, comma, colon, string_token, lex, between, fresh, punctuate, tokens}
use Rattle.json.specs.Print.{escape, quoted, token_text, begins, ends, print_from, print, IsPrintable, ArePrintable}
use Rattle.json.proofs.Printed.Strings.{content-escape, lex-escape}
use Rattle.json.proofs.Printed.Numbers.{lex-number, in_word-ended}
use Rattle.json.proofs.Printed.Tokens.{tokens-print}

lex_quoted : (s r : List ℕ) → lex between (quoted s ++ r) ≡ token (string s) ∷ lex between r
unfolding lex
lex_quoted s r =
    ap (λ l. lex between (34 ∷ l)) (append_assoc (escape s) (34 ∷ []) r)
    ∙ ap₂ (λ o l. token (string_token o) ∷ l) (content-escape s r) (lex-escape s r)

-- what the token's text is read as, before what is read of the rest
abbrev with_token : Token → List Lexeme → List Lexeme
with_token begin_object ls = token begin_object ∷ ls
with_token end_object ls = token end_object ∷ ls
with_token begin_array ls = token begin_array ∷ ls
with_token end_array ls = token end_array ∷ ls
with_token (key s) ls = token (string s) ∷ colon ∷ ls
with_token (string s) ls = token (string s) ∷ ls
with_token (number s) ls = token (number s) ∷ ls
with_token (boolean b) ls = token (boolean b) ∷ ls
with_token null ls = token null ∷ ls
with_token bad ls = ls

lex_token : (t : Token) (r : List ℕ) → IsPrintable t → (ends t ≡ true → ends_word r ≡ true) →
    lex between (token_text t ++ r) ≡ with_token t (lex between r)
unfolding lex word
lex_token begin_object r fits ended = refl
lex_token end_object r fits ended = refl
lex_token begin_array r fits ended = refl
lex_token end_array r fits ended = refl
lex_token (key s) r fits ended = ap (lex between) (append_assoc (quoted s) (58 ∷ []) r) ∙ lex_quoted s (58 ∷ r)
lex_token (string s) r fits ended = lex_quoted s r
lex_token (number s) r fits ended = lex-number s r fits (ended refl)
lex_token (boolean true) r fits ended =
    ap₂ (λ b l. token (cond b (boolean true) bad) ∷ l) (ended refl) (in_word-ended r (ended refl))
lex_token (boolean false) r fits ended =
    ap₂ (λ b l. token (cond b (boolean false) bad) ∷ l) (ended refl) (in_word-ended r (ended refl))
lex_token null r fits ended =
    ap₂ (λ b l. token (cond b null bad) ∷ l) (ended refl) (in_word-ended r (ended refl))
lex_token bad r fits ended = absurd fits

-- after a value stands a comma, a closing bracket, or what comes after the text
value_ends : (ts : List Token) (r : List ℕ) → ends_word r ≡ true → ends_word (print_from true ts ++ r) ≡ true
unfolding print_from
value_ends [] r ended = ended
value_ends (begin_object ∷ ts) r ended = refl
value_ends (end_object ∷ ts) r ended = refl
value_ends (begin_array ∷ ts) r ended = refl
value_ends (end_array ∷ ts) r ended = refl
value_ends (key s ∷ ts) r ended = refl
value_ends (string s ∷ ts) r ended = refl
value_ends (number s ∷ ts) r ended = refl
value_ends (boolean b ∷ ts) r ended = refl
value_ends (null ∷ ts) r ended = refl
value_ends (bad ∷ ts) r ended = refl

-- the lexemes of a text, with what comes after it, are those of the tokens
abbrev lexemes : Bool → List Token → List Lexeme
lexemes after_value [] = []
lexemes after_value (t ∷ ts) = cond (after_value && begins t) (comma ∷ []) [] ++ with_token t (lexemes (ends t) ts)

lex_separator : (b : Bool) (r : List ℕ) →
    lex between (cond b (44 ∷ []) [] ++ r) ≡ cond b (comma ∷ []) [] ++ lex between r
unfolding lex
lex_separator true r = refl
lex_separator false r = refl

lex_print : (after_value : Bool) (ts : List Token) (r : List ℕ) → ArePrintable ts → ends_word r ≡ true →
    lex between r ≡ [] → lex between (print_from after_value ts ++ r) ≡ lexemes after_value ts
unfolding print_from ArePrintable
lex_print after_value [] r fit ended none = none
lex_print after_value (t ∷ ts) r fit ended none =
    let comma_is = cond (after_value && begins t) (44 ∷ []) [] in
    let rest = print_from (ends t) ts in
    let value : ends t ≡ true → ends_word (rest ++ r) ≡ true =
    λ e. ap (λ (b : Bool). ends_word (print_from b ts ++ r)) e ∙ value_ends ts r ended in
    ap (lex between) (append_assoc comma_is (token_text t ++ rest) r
    ∙ ap (λ (l : List ℕ). comma_is ++ l) (append_assoc (token_text t) rest r))
    ∙ lex_separator (after_value && begins t) (token_text t ++ (rest ++ r))
    ∙ ap (λ (ls : List Lexeme). cond (after_value && begins t) (comma ∷ []) [] ++ ls)
    (lex_token t (rest ++ r) fit.0 value ∙ ap (with_token t) (lex_print (ends t) ts r fit.1 ended none))

pub tokens_line : (ts : List Token) → ArePrintable ts → tokens (print ts ++ 10 ∷ []) ≡ ts
unfolding lex
tokens_line ts fit =
    ap (punctuate fresh) (lex_print false ts (10 ∷ []) fit refl refl
    ∙ sym (lex_print false ts [] fit refl refl) ∙ ap (lex between) (append-nil (print ts)))
    ∙ tokens-print ts fit
