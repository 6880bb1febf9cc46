-- A command line is read in one way.
use Rattle.std.proofs.Common.{◌≡◌, ◌∙◌, ◌++◌, ℕ, List, [], ◌∷◌, Bool, true, false, refl, ap, sym, subst, true≢false}
use Rattle.std.specs.Prelude.{◌&&◌, Option, Some, None, not, if◌then◌else◌}
use Rattle.std.specs.Option.{is_some, unwrap_or}
use Rattle.std.specs.List.{flat_map, list_any}
use Rattle.std.specs.Str.Parse.{starts_with_minus}
use Rattle.stamp_cli.specs.Options.{Table, Item, flag, worded, file, stray, is_in, alone, items_of, is_stray, is_as}
use Rattle.stamp_cli.specs.Options.{are_given, given_in, words_of, IsPart, AreParts, IsReading}

-- a word alone is of one of four forms
alone_ways : (P : Item → Type 0) (t : Table) (word : List ℕ) (a b m : Bool) → is_in t.worded word ≡ a →
    is_in t.flags word ≡ b → starts_with_minus word ≡ m → P (stray word) →
    ((is_in t.worded word ≡ false) × (is_in t.flags word ≡ true) → P (flag word)) →
    ((is_in t.worded word ≡ false) × (is_in t.flags word ≡ false) × (starts_with_minus word ≡ false) → P (file word)) →
    P (alone t word)
alone_ways P t word true b m is_a is_b is_m strays flags files =
    let e : alone t word ≡ stray word = rw is_a refl in subst P (sym e) strays
alone_ways P t word false true m is_a is_b is_m strays flags files =
    let e : alone t word ≡ flag word = rw (is_a, is_b) refl in subst P (sym e) (flags (is_a, is_b))
alone_ways P t word false false true is_a is_b is_m strays flags files =
    let e : alone t word ≡ stray word = rw (is_a, is_b, is_m) refl in subst P (sym e) strays
alone_ways P t word false false false is_a is_b is_m strays flags files =
    let e : alone t word ≡ file word = rw (is_a, is_b, is_m) refl in subst P (sym e) (files (is_a, is_b, is_m))

alone_word : (t : Table) (word : List ℕ) → words_of (alone t word) ≡ word ∷ []
alone_word t word = alone_ways (λ item. words_of item ≡ word ∷ []) t word _ _ _ refl refl refl refl
    (λ _. refl) (λ _. refl)

alone_part : (t : Table) (word : List ℕ) → is_stray (alone t word) ≡ false → IsPart t (alone t word)
alone_part t word = alone_ways (λ item. is_stray item ≡ false → IsPart t item) t word _ _ _ refl refl refl
    (λ is. absurd (true≢false is)) (λ is _. is) (λ is _. is)

-- a word that no word belongs to is the first part
alone_first : (t : Table) (word : List ℕ) (rest : List (List ℕ)) → is_in t.worded word ≡ false →
    items_of t (word ∷ rest) ≡ alone t word ∷ items_of t rest
alone_first t word [] is = refl
alone_first t word (next ∷ rest) is = rw is refl

spelled_by : (t : Table) (word next : List ℕ) (rest : List (List ℕ)) (b : Bool) → is_in t.worded word ≡ b →
    flat_map words_of (items_of t rest) ≡ rest → flat_map words_of (items_of t (next ∷ rest)) ≡ next ∷ rest →
    flat_map words_of (items_of t (word ∷ next ∷ rest)) ≡ word ∷ next ∷ rest
spelled_by t word next rest true is behind after = rw is (ap (λ (ws : List (List ℕ)). word ∷ next ∷ ws) behind)
spelled_by t word next rest false is behind after = ap (flat_map words_of) (alone_first t word (next ∷ rest) is) ∙
    ap (λ (ws : List (List ℕ)). ws ++ flat_map words_of (items_of t (next ∷ rest))) (alone_word t word) ∙
    ap (λ (ws : List (List ℕ)). word ∷ ws) after

spelled : (t : Table) (args : List (List ℕ)) → flat_map words_of (items_of t args) ≡ args
spelled t [] = refl
spelled t (word ∷ []) = ap (λ (ws : List (List ℕ)). ws ++ []) (alone_word t word)
spelled t (word ∷ next ∷ rest) = spelled_by t word next rest _ refl (spelled t rest) (spelled t (next ∷ rest))

-- what is given of a list is given of its first, and of the others
first_given : (a b c : Bool) → (not a && not b && c) ≡ true → a ≡ false
first_given true b c is = absurd (true≢false (sym is))
first_given false b c is = refl

others_given : (a b c : Bool) → (not a && not b && c) ≡ true → c ≡ true
others_given true b c is = absurd (true≢false (sym is))
others_given false true c is = absurd (true≢false (sym is))
others_given false false c is = is

more : (t : Table) (item : Item) (items : List Item) → (is_stray item ≡ false → IsPart t item) →
    (are_given items ≡ true → AreParts t items) → are_given (item ∷ items) ≡ true → AreParts t (item ∷ items)
more t item items first others is = (
  first (first_given _ (list_any (is_as item) items) (are_given items) is),
  others (others_given (is_stray item) (list_any (is_as item) items) _ is),
)

parts_by : (t : Table) (word next : List ℕ) (rest : List (List ℕ)) (b : Bool) → is_in t.worded word ≡ b →
    (are_given (items_of t rest) ≡ true → AreParts t (items_of t rest)) →
    (are_given (items_of t (next ∷ rest)) ≡ true → AreParts t (items_of t (next ∷ rest))) →
    are_given (items_of t (word ∷ next ∷ rest)) ≡ true → AreParts t (items_of t (word ∷ next ∷ rest))
parts_by t word next rest true is behind after =
    let e : items_of t (word ∷ next ∷ rest) ≡ worded word next ∷ items_of t rest = rw is refl in
    subst (λ (items : List Item). are_given items ≡ true → AreParts t items) (sym e)
    (more t (worded word next) (items_of t rest) (λ _. is) behind)
parts_by t word next rest false is behind after =
    let e : items_of t (word ∷ next ∷ rest) ≡ alone t word ∷ items_of t (next ∷ rest) = rw is refl in
    subst (λ (items : List Item). are_given items ≡ true → AreParts t items) (sym e)
    (more t (alone t word) (items_of t (next ∷ rest)) (alone_part t word) after)

parts : (t : Table) (args : List (List ℕ)) → are_given (items_of t args) ≡ true → AreParts t (items_of t args)
parts t [] = λ _. tt
parts t (word ∷ []) = more t (alone t word) [] (alone_part t word) (λ _. tt)
parts t (word ∷ next ∷ rest) = parts_by t word next rest _ refl (parts t rest) (parts t (next ∷ rest))

-- parts are read back from their words
read_back : (t : Table) (items : List Item) → AreParts t items → items_of t (flat_map words_of items) ≡ items
read_back t [] are = refl
read_back t (flag name ∷ items) are =
    let e : alone t name ≡ flag name = rw (are.0.0, are.0.1) refl in
    alone_first t name (flat_map words_of items) are.0.0 ∙
    ap (λ (i : Item). i ∷ items_of t (flat_map words_of items)) e ∙
    ap (λ (is : List Item). flag name ∷ is) (read_back t items are.1)
read_back t (worded name word ∷ items) are =
    rw are.0 (ap (λ (is : List Item). worded name word ∷ is) (read_back t items are.1))
read_back t (file name ∷ items) are =
    let e : alone t name ≡ file name = rw (are.0.0, are.0.1, are.0.2) refl in
    alone_first t name (flat_map words_of items) are.0.0 ∙
    ap (λ (i : Item). i ∷ items_of t (flat_map words_of items)) e ∙
    ap (λ (is : List Item). file name ∷ is) (read_back t items are.1)
read_back t (stray word ∷ items) are = absurd are.0

pub given_reading : (t : Table) (args : List (List ℕ)) (items : List Item) → IsReading t args items →
    given_in t args ≡ Some items
given_reading t args items reading =
    let e : items_of t args ≡ items = ap (items_of t) (sym reading.spelled) ∙ read_back t items reading.parts in
    ap (λ (is : List Item). if are_given is then Some is else None) e ∙ rw reading.once refl

by_given : (t : Table) (args : List (List ℕ)) (items : List Item) (b : Bool) → are_given (items_of t args) ≡ b →
    (if b then Some (items_of t args) else None) ≡ Some items → IsReading t args items
by_given t args items true is same =
    let e : items_of t args ≡ items = ap (λ (o : Option (List Item)). unwrap_or o []) same in
    subst (IsReading t args) e (record { spelled = spelled t args; parts = parts t args is; once = is })
by_given t args items false is same = absurd (true≢false (sym (ap is_some same)))

pub reading_given : (t : Table) (args : List (List ℕ)) (items : List Item) → given_in t args ≡ Some items →
    IsReading t args items
reading_given t args items same = by_given t args items _ refl same
