-- Names of contents, and contents that are added.
use Rattle.std.proofs.Common.{ℕ, ◌≡◌, ◌≢◌, ◌⊎◌, ◌+◌, ◌<◌, ◌≤◌, Bool, true, false, List, [], ◌∷◌, ◌++◌, length}
use Rattle.std.proofs.Common.{Option, Some}
use Rattle.std.proofs.Common.{ne_eqb, suc}
use Rattle.std.proofs.Common.{None, refl, sym, ◌∙◌, ap, subst, arith, inl, inr, get_or, length-append}
use Rattle.std.specs.Prelude.{Vec, cond, if◌then◌else◌, nat_lt, not, position, slice_get, unwrap_or}
use Rattle.std.specs.List.{list_any, position_or_len}
use Rattle.std.specs.Option.{option_map_or}
use Rattle.std.specs.declared.alloc.Global.{Global}
use Rattle.std.specs.Cmp.Lexicographic.{same_text, other_text}
use Rattle.std.proofs.Math.ListN.{get_or-append}
use Rattle.std.proofs.Math.Seq.{get_or-append_seam}
use Rattle.std.proofs.lemmas.Bool.{cases_lt, lt-ltb}
use Rattle.std.proofs.lemmas.List.{length-map, length-replicate, map_push}
use Rattle.std.proofs.lemmas.List.Elements.{All-cons, All-nil, All-push}
use Rattle.std.proofs.lemmas.List.Folds.{list_any_none}
use Rattle.std.proofs.lemmas.List.Quantifiers.{position-Some}
use Rattle.std.proofs.lemmas.List.Sums.{fails_before_first, position_or_len_is}
use Rattle.std.proofs.lemmas.Option.{get_or_from_slice_get, same_Some, slice_get-get_or, slice_get_within}
use Rattle.indexmap.specs.IndexSet.{insert_key}
use Rattle.stamp_core.specs.Content.{same_words, zeros}
use Rattle.stamp_core.specs.declared.call.Call.{Call}
use Rattle.stamp_core.specs.declared.call.Call.TheVariants as call
use Rattle.stamp_core.specs.declared.reply.Reply.{Reply}
use Rattle.stamp_core.specs.declared.reply.Reply.TheVariants as reply
use Rattle.stamp_runs.specs.Names.{AreDifferent, EachOfCall, EachOfEvent, EachOfReply, call_by, event_by}
use Rattle.stamp_runs.specs.Names.{reply_by}
use Rattle.stamp_runs.specs.OneWord.{has_one_word}
use Rattle.stamp_runs.specs.declared.event.Event.{Event}
use Rattle.stamp_sets.specs.declared.small_call.SmallCall.TheVariants as small
use Rattle.stamp_sets.specs.declared.small_call.SmallReply.TheVariants as given
use Rattle.stamp_watch.specs.Names.{AreContents, IsGrown, IsNamed, name_in}
use Rattle.stamp_watch.specs.Names.{width_of, words_in}
use Rattle.stamp_watch.specs.inner.Names.{IsCallBy, IsReplyBy}
use Rattle.stamp_watch.specs.Names.{IsNumberOf, rows}
use Rattle.stamp_watch.proofs.Renamed.{each_event, same_event}

-- where a content stands, and what its name is then
data Found (contents : List (List ℕ)) (words : List ℕ) : Type 0 where
  found_at : (n : ℕ) → position (same_words words) contents ≡ Some n → slice_get contents n ≡ Some words →
      name_in contents words ≡ n ∷ [] → Found contents words
  not_found : position (same_words words) contents ≡ None → name_in contents words ≡ 0 ∷ 0 ∷ words →
      Found contents words

found_in : (contents : List (List ℕ)) (words : List ℕ) → Found contents words
found_in contents words = by (position (same_words words) contents) refl
  where
    by : (o : Option ℕ) → position (same_words words) contents ≡ o → Found contents words
    by None none = not_found none (ap (λ (o : Option ℕ). option_map_or (λ (n : ℕ). n ∷ []) o (0 ∷ 0 ∷ words)) none)
    by (Some n) some =
        let there = position-Some (same_words words) contents n [] some in
        found_at n some (slice_get-get_or contents n [] there.0 ∙
        ap (λ (c : List ℕ). Some c) (sym (same_text words _ (sym there.1))))
        (ap (λ (o : Option ℕ). option_map_or (λ (n : ℕ). n ∷ []) o (0 ∷ 0 ∷ words)) some)

-- where a content stands that has a number
pub position_there : (contents : List (List ℕ)) (words : List ℕ) (n : ℕ) → name_in contents words ≡ n ∷ [] →
    position (same_words words) contents ≡ Some n
position_there contents words n is = by (found_in contents words)
  where
    by : Found contents words → position (same_words words) contents ≡ Some n
    by (found_at m at there name) = let same : m ≡ n = cc in at ∙ ap (λ (i : ℕ). Some i) same
    by (not_found none name) = cc

-- a name of one word is a number
pub number_there : (contents : List (List ℕ)) (words : List ℕ) (n : ℕ) → name_in contents words ≡ n ∷ [] →
    slice_get contents n ≡ Some words
number_there contents words n is = by (found_in contents words)
  where
    by : Found contents words → slice_get contents n ≡ Some words
    by (found_at m at there name) =
        let same : m ≡ n = cc in subst (λ (i : ℕ). slice_get contents i ≡ Some words) same there
    by (not_found none name) = cc

pub names_differ : (contents : List (List ℕ)) → AreDifferent (name_in contents)
names_differ contents a b same = by (found_in contents a) (found_in contents b)
  where
    by : Found contents a → Found contents b → a ≡ b
    by (found_at n at there name) (found_at m at' there' name') =
        let one : n ≡ m = cc in
        same_Some a b (sym there ∙ ap (slice_get contents) one ∙ there')
    by (found_at n at there name) (not_found none name') = cc
    by (not_found none name) (found_at m at' there' name') = cc
    by (not_found none name) (not_found none' name') = cc

module _ {X : Type 0} (p : X → Bool) where
  position_is : (xs : List X) (i : ℕ) (d : X) → i < length xs → p (get_or xs i d) ≡ true →
      ((k : ℕ) → k < i → p (get_or xs k d) ≡ false) → position p xs ≡ Some i
  position_is xs i d less there before =
      ap (λ (n : ℕ). cond (nat_lt n (length xs)) (Some n) None)
      (position_or_len_is p xs i d (omega (arith, less)) before (λ _. there)) ∙
      ap (λ (b : Bool). cond b (Some i) None) (lt-ltb i (length xs) less)

  -- what is found is so where more stands behind it
  position_stays : (xs ys : List X) (i : ℕ) (d : X) → position p xs ≡ Some i → position p (xs ++ ys) ≡ Some i
  position_stays xs ys i d some =
      let there = position-Some p xs i d some in
      position_is (xs ++ ys) i d (let long = length-append xs ys in omega (arith, there.0, long))
      (ap p (get_or-append xs ys d i there.0) ∙ there.1)
      (λ k less. ap p (get_or-append xs ys d k (let most = there.0 in omega (arith, less, most))) ∙ there.2 k less)

  -- where nothing is found no element passes
  none_passes : (xs : List X) → position p xs ≡ None → (k : ℕ) (d : X) → k < length xs → p (get_or xs k d) ≡ false
  none_passes xs none k d less = by (cases_lt (position_or_len p xs) (length xs))
    where
      by : (position_or_len p xs < length xs) ⊎ (length xs ≤ position_or_len p xs) → p (get_or xs k d) ≡ false
      by (inl some) =
          let found : cond (nat_lt (position_or_len p xs) (length xs)) (Some (position_or_len p xs)) None ≡
          Some (position_or_len p xs) =
          ap (λ (b : Bool). cond b (Some (position_or_len p xs)) None) (lt-ltb (position_or_len p xs) (length xs) some)
          in
          absurd (let same : None ≡ Some (position_or_len p xs) = sym none ∙ found in cc)
      by (inr all) = fails_before_first p xs k d (omega (arith, less, all))

  -- so one that passes is found behind them
  position_push : (xs : List X) (x : X) → position p xs ≡ None → p x ≡ true →
      position p (xs ++ x ∷ []) ≡ Some (length xs)
  position_push xs x none passes = position_is (xs ++ x ∷ []) (length xs) x
      (let long = length-append xs (x ∷ []) in omega (arith, long)) (ap p (get_or-append_seam xs x [] x) ∙ passes)
      (λ k less. ap p (get_or-append xs (x ∷ []) x k less) ∙ none_passes xs none k x less)

  any_none : (xs : List X) → position p xs ≡ None → list_any p xs ≡ false
  any_none xs none = list_any_none p xs (λ k d less. none_passes xs none k d less)

same_again : (words : List ℕ) → same_words words words ≡ true
same_again words = by (same_words words words) refl
  where
    by : (b : Bool) → same_words words words ≡ b → b ≡ true
    by true is = refl
    by false is = absurd (other_text words words (sym is) refl)

-- the place among the rows is that among the vectors
first_row : (p : List ℕ → Bool) (contents : List (Vec ℕ Global)) →
    position_or_len p (rows contents) ≡ position_or_len (λ (v : Vec ℕ Global). p v.items) contents
first_row p [] = refl
first_row p (v ∷ contents) = ap (λ (n : ℕ). cond (not (p v.items)) (1 + n) 0) (first_row p contents)

pub position_rows : (p : List ℕ → Bool) (contents : List (Vec ℕ Global)) →
    position p (rows contents) ≡ position (λ (v : Vec ℕ Global). p v.items) contents
position_rows p contents =
    ap (λ (n : ℕ). cond (nat_lt n (length (rows contents))) (Some n) None) (first_row p contents) ∙
    ap (λ (n : ℕ). cond (nat_lt (position_or_len (λ (v : Vec ℕ Global). p v.items) contents) n)
    (Some (position_or_len (λ (v : Vec ℕ Global). p v.items) contents)) None)
    (length-map contents (λ (v : Vec ℕ Global). v.items))

-- a content has a number where it is found
named_at : (contents : List (List ℕ)) (words : List ℕ) (n : ℕ) → position (same_words words) contents ≡ Some n →
    name_in contents words ≡ n ∷ []
named_at contents words n some =
    ap (λ (o : Option ℕ). option_map_or (λ (i : ℕ). i ∷ []) o (0 ∷ 0 ∷ words)) some

-- it keeps its number
pub number_stays : (old more : List (List ℕ)) (words : List ℕ) → IsNamed old words →
    name_in (old ++ more) words ≡ name_in old words
number_stays old more words named = by (found_in old words)
  where
    by : Found old words → name_in (old ++ more) words ≡ name_in old words
    by (found_at n at there name) =
        named_at (old ++ more) words n (position_stays (same_words words) old more n [] at) ∙ sym name
    by (not_found none name) = absurd (let two : 0 ∷ 0 ∷ words ≡ named.0 ∷ [] = sym name ∙ named.1 in cc)

module _ {old new : List (List ℕ)} (grown : IsGrown old new) where
  pub stays : (words : List ℕ) → IsNamed old words → name_in new words ≡ name_in old words
  stays words named = ap (λ (cs : List (List ℕ)). name_in cs words) grown.are ∙ number_stays old grown.more words named

  pub named_still : (words : List ℕ) → IsNamed old words → IsNamed new words
  named_still words named = (named.0, stays words named ∙ named.1)

  pub event_stays : (e : Event) → EachOfEvent (IsNamed old) e → event_by (name_in new) e ≡ event_by (name_in old) e
  event_stays e named = same_event (name_in new) (name_in old) e (each_event stays e named)

  pub event_named_still : (e : Event) → EachOfEvent (IsNamed old) e → EachOfEvent (IsNamed new) e
  event_named_still e named = each_event named_still e named

-- zeros are the first
pub zeros_named : (width : ℕ) (contents : List (List ℕ)) → AreContents width contents →
    name_in contents (zeros width) ≡ 0 ∷ []
zeros_named width contents are = named_at contents (zeros width) 0 (position_is (same_words (zeros width)) contents 0 []
    (slice_get_within contents 0 (zeros width) are.first)
    (ap (same_words (zeros width)) (get_or_from_slice_get contents 0 (zeros width) [] are.first) ∙
    same_again (zeros width))
    (λ k less. absurd (omega (arith, less))))

pub width_is : (width : ℕ) (contents : List (List ℕ)) → AreContents width contents → width_of contents ≡ width
width_is width contents are =
    are.wide 0 [] (slice_get_within contents 0 (zeros width) are.first)

two_words : (words : List ℕ) → has_one_word (0 ∷ 0 ∷ words) ≡ false
two_words words = ne_eqb (length (0 ∷ 0 ∷ words)) 1
    (λ same. let long : suc (suc (length words)) ≡ 1 = same in omega (arith, long))

-- one of another width has no number
pub not_one_word : (width : ℕ) (contents : List (List ℕ)) (words : List ℕ) → AreContents width contents →
    length words ≢ width → has_one_word (name_in contents words) ≡ false
not_one_word width contents words are apart = by (found_in contents words)
  where
    by : Found contents words → has_one_word (name_in contents words) ≡ false
    by (found_at n at there name) = absurd (apart (ap (λ (ws : List ℕ). length ws)
        (sym (get_or_from_slice_get contents n words [] there)) ∙
        are.wide n [] (slice_get_within contents n words there)))
    by (not_found none name) = ap has_one_word name ∙ two_words words

-- one content more
module _ (old : List (List ℕ)) (words : List ℕ) where
  pub new_number : position (same_words words) old ≡ None → IsNumberOf (old ++ words ∷ []) words (length old)
  new_number none = named_at (old ++ words ∷ []) words (length old)
      (position_push (same_words words) old words none (same_again words))

  pub still_contents : (width : ℕ) → AreContents width old → length words ≡ width →
      AreContents width (old ++ words ∷ [])
  still_contents width are wide = record {
    first = slice_get-get_or (old ++ words ∷ []) 0 []
        (let long = length-append old (words ∷ []) in omega (arith, long)) ∙
        ap (λ (c : List ℕ). Some c) (get_or-append old (words ∷ []) [] 0 some ∙
        get_or_from_slice_get old 0 (zeros width) [] are.first);
    some = are.some;
    few = are.few;
    wide = All-push (λ (c : List ℕ). length c ≡ width) old words are.wide wide;
  }
    where
      some : 0 < length old
      some = slice_get_within old 0 (zeros width) are.first

-- the vectors with one more
pub rows_push : (contents : List (Vec ℕ Global)) (content : Vec ℕ Global) (words : List ℕ) → content.items ≡ words →
    position (same_words words) (rows contents) ≡ None →
    rows (insert_key (λ (v u : Vec ℕ Global). same_words v.items u.items) contents content) ≡
    rows contents ++ words ∷ []
rows_push contents content words is none =
    ap (λ (b : Bool). rows (if b then contents else contents ++ content ∷ [])) not_there ∙
    map_push (λ (v : Vec ℕ Global). v.items) contents content ∙
    ap (λ (c : List ℕ). rows contents ++ c ∷ []) is
  where
    not_there : list_any (λ (u : Vec ℕ Global). same_words content.items u.items) contents ≡ false
    not_there = ap (λ (c : List ℕ). list_any (λ (u : Vec ℕ Global). same_words c u.items) contents) is ∙
        any_none (λ (u : Vec ℕ Global). same_words words u.items) contents
        (sym (position_rows (same_words words) contents) ∙ none)

-- contents that grow are as wide
pub grown_width : (width : ℕ) (old new : List (List ℕ)) → AreContents width old → IsGrown old new →
    width_of new ≡ width_of old
grown_width width old new are grown =
    ap width_of grown.are ∙
    ap length (get_or-append old grown.more [] 0 (slice_get_within old 0 (zeros width) are.first))

module _ (contents new : List (Vec ℕ Global)) (content : Vec ℕ Global) (now : List (List ℕ)) (words : List ℕ)
    (same : rows contents ≡ now) (is : content.items ≡ words) (none : position (same_words words) now ≡ None)
    (keys : new ≡ insert_key (λ (v u : Vec ℕ Global). same_words v.items u.items) contents content) where
  pub added : rows new ≡ now ++ words ∷ []
  added = ap rows keys ∙ rows_push contents content words is (ap (position (same_words words)) same ∙ none) ∙
      ap (λ (cs : List (List ℕ)). cs ++ words ∷ []) same

  pub grown_by_one : IsGrown now (rows new)
  grown_by_one = record { more = words ∷ []; are = added }

  pub number_added : IsNumberOf (rows new) words (length contents)
  number_added = subst (λ (cs : List (List ℕ)). IsNumberOf cs words (length contents)) (sym added)
      (subst (IsNumberOf (now ++ words ∷ []) words)
      (sym (ap length same) ∙ length-map contents (λ (v : Vec ℕ Global). v.items)) (new_number now words none))

  pub width_added : (width : ℕ) → AreContents width (rows contents) → width_of (rows new) ≡ width_of now
  width_added width are = grown_width width now (rows new) (subst (AreContents width) same are) grown_by_one

  pub contents_added : (width : ℕ) → AreContents width (rows contents) → length words ≡ width →
      AreContents width (rows new)
  contents_added width are wide = subst (AreContents width) (sym added)
      (still_contents now words width (subst (AreContents width) same are) wide)

-- a call that puts if, whose contents have numbers
pub put_if_named : {mid new : List (List ℕ)} (expected words : List ℕ) (n m : ℕ) → IsGrown mid new →
    IsNumberOf mid expected n → IsNumberOf new words m → IsCallBy new (call.PutIf expected words) (small.PutIf n m)
put_if_named {mid} {new} expected words n m grown first second = record {
  named = ((n, there), (m, second));
  small_is = ap (λ (w : List ℕ). call.PutIf w (m ∷ [])) (sym there) ∙
      ap (λ (w : List ℕ). call.PutIf (name_in new expected) w) (sym second);
}
  where
    there : name_in new expected ≡ n ∷ []
    there = stays grown expected (n, first) ∙ first

-- what has that name
pub back_in_words : (contents : List (List ℕ)) (name words : List ℕ) → IsNamed contents words →
    name_in contents words ≡ name → slice_get contents (get_or name 0 0) ≡ Some words
back_in_words contents name words named same =
    ap (λ (xs : List ℕ). slice_get contents (get_or xs 0 0)) (sym same ∙ named.1) ∙
    number_there contents words named.0 named.1

pub one_word_long : (contents : List (List ℕ)) (name words : List ℕ) → IsNamed contents words →
    name_in contents words ≡ name → length name ≡ 1
one_word_long contents name words named same = ap length (sym same ∙ named.1)

-- one word is a number, and other words stay
pub number_in_words : (contents : List (List ℕ)) (name : List ℕ) → length name ≡ 1 →
    words_in contents name ≡ unwrap_or (slice_get contents (get_or name 0 0)) name
number_in_words contents [] one = absurd (cc)
number_in_words contents (number ∷ []) one = refl
number_in_words contents (number ∷ next ∷ more) one = absurd (cc)

pub others_stay : (contents : List (List ℕ)) (name : List ℕ) → length name ≢ 1 → words_in contents name ≡ name
others_stay contents [] many = refl
others_stay contents (number ∷ []) many = absurd (many refl)
others_stay contents (number ∷ next ∷ more) many = refl

put_same : {a b : List ℕ} → call.Put a ≡ call.Put b → a ≡ b
put_same same = cc

put_if_same : {a b x y : List ℕ} → call.PutIf a b ≡ call.PutIf x y → (a ≡ x) × (b ≡ y)
put_if_same same = (cc, cc)

content_same : {a b : List ℕ} → reply.Content a ≡ reply.Content b → a ≡ b
content_same same = cc

-- calls and replies by name, back in words
module _ (contents : List (List ℕ)) where
  abbrev pub IsBack : List ℕ → List ℕ → Type 0
  IsBack name found = (words : List ℕ) → IsNamed contents words → name_in contents words ≡ name → found ≡ words

  pub put_back : (told : Call) (name found : List ℕ) → EachOfCall (IsNamed contents) told →
      call_by (name_in contents) told ≡ call.Put name → IsBack name found → call.Put found ≡ told
  put_back (call.Put words) name found named same back = ap call.Put (back words named (put_same same))
  put_back _ name found named same back = cc

  pub put_if_back : (told : Call) (first name one found : List ℕ) → EachOfCall (IsNamed contents) told →
      call_by (name_in contents) told ≡ call.PutIf first name → IsBack first one → IsBack name found →
      call.PutIf one found ≡ told
  put_if_back (call.PutIf a b) first name one found named same back_one back =
      ap (λ (w : List ℕ). call.PutIf w found) (back_one a named.0 (put_if_same same).0) ∙
      ap (call.PutIf a) (back b named.1 (put_if_same same).1)
  put_if_back _ first name one found named same back_one back = cc

  pub content_back : (told : Reply) (name found : List ℕ) → EachOfReply (IsNamed contents) told →
      reply_by (name_in contents) told ≡ reply.Content name → IsBack name found → reply.Content found ≡ told
  content_back (reply.Content words) name found named same back = ap reply.Content (back words named (content_same
      same))
  content_back _ name found named same back = cc

-- a reply that has a number tells the content of this one
pub content_told : (contents : List (List ℕ)) (told : Reply) (n : ℕ) → IsReplyBy contents told (given.Content n) →
    (words : List ℕ) × ((told ≡ reply.Content words) × (name_in contents words ≡ n ∷ []))
content_told contents (reply.Content words) n is = (words, (refl, sym (content_same is.small_is)))
content_told contents _ n is = absurd (let same = is.small_is in cc)

-- zeros alone
pub one_content : (width : ℕ) → 1 ≤ width → width ≤ 16 → AreContents width (zeros width ∷ [])
one_content width some few = record {
  first = refl;
  some = some;
  few = few;
  wide = All-cons (λ (words : List ℕ). length words ≡ width) (zeros width) [] (length-replicate width 0)
      (All-nil (λ (words : List ℕ). length words ≡ width));
}
