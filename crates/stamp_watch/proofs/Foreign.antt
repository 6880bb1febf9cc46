-- The contents that a legal history tells in replies.
use Rattle.std.proofs.Common.{ℕ, ◌≡◌, ◌⊎◌, ◌≤◌, ◌==◌, Bool, true, false, List, []}
use Rattle.std.proofs.Common.{◌∷◌, ◌++◌, length, Option, Some, None}
use Rattle.std.proofs.Common.{◌+◌, zero, suc, refl, sym, ◌∙◌, ap, subst, arith, inl, inr}
use Rattle.std.specs.Prelude.{◌&&◌, if◌then◌else◌, nat_lt, IsTrue, slice_get}
use Rattle.std.specs.List.{All, Contains}
use Rattle.std.proofs.lemmas.Bool.{and_parts, false≢true}
use Rattle.std.proofs.lemmas.Bool.Decides.{nat_tests}
use Rattle.std.proofs.lemmas.List.{length-replicate}
use Rattle.std.proofs.lemmas.List.Elements.{All-cons, All-contains, All-head, All-nil, All-tail, All-weaker}
use Rattle.std.proofs.lemmas.Option.{MatchOption-at_some, none-some, same_Some}
use Rattle.stamp_core.specs.LockEvent.{LockEvent, Counts, counts}
use Rattle.stamp_core.specs.Limits.{Bounds}
use Rattle.stamp_core.specs.Call.{call_suits}
use Rattle.stamp_core.specs.Content.{content_next, same_words, zeros}
use Rattle.stamp_core.specs.History.{IsLegalFrom, IsReply, Replies, appended_by}
use Rattle.stamp_core.specs.Transition.{Transition, row, transition}
use Rattle.stamp_core.specs.declared.call.Call.{Call}
use Rattle.stamp_core.specs.declared.call.Call.TheVariants as call
use Rattle.stamp_core.specs.declared.reply.Reply.{Reply}
use Rattle.stamp_core.specs.declared.reply.Reply.TheVariants as reply
use Rattle.stamp_explain.specs.declared.observed.Observation.{Observation}
use Rattle.stamp_explain.specs.declared.observed.Returned.{Returned}
use Rattle.stamp_explain.specs.Cut.{cut, cut_entries, cut_entry, returned_by}
use Rattle.stamp_explain.specs.Explained.{Effect, IsEffectOf, IsExplained, history_of}
use Rattle.stamp_explain.specs.Observed.{ObservedHistory, IsReturnAt}
use Rattle.stamp_explain.proofs.Lists.{at_index}
use Rattle.stamp_explain.proofs.Lists.{contains_cases, contains_from_map, none_in_empty}
use Rattle.stamp_runs.specs.Names.{EachOfReply}
use Rattle.stamp_watch.specs.ReplyLaws.{IsContentOf, RepliesAreOfRecord}

-- whether it tells a content
abbrev tells_content : Reply → Bool
tells_content (reply.Content words) = true
tells_content _ = false

abbrev TellsNone : Reply → Type 0
TellsNone r = tells_content r ≡ false

-- a transition of the lock tells none
data HasPlain : Option Transition → Type 0 where
  has_none : HasPlain None
  has_own : {t : Transition} → TellsNone t.reply → HasPlain (Some t)

either : (b : Bool) {x y : Option Transition} → HasPlain x → HasPlain y → HasPlain (if b then x else y)
either true is other = is
either false is other = other

yes_or_no : (b : Bool) → TellsNone (if b then reply.Yes else reply.No)
yes_or_no true = refl
yes_or_no false = refl

row_plain : (l : Bounds) (c : Counts) (asked : Call) → HasPlain (row l c asked)
row_plain l c call.WriteLock = search (either, has_own, has_none)
row_plain l c call.ReadLock = either _ (has_own refl) has_none
row_plain l c call.Optimistic = has_own refl
row_plain l c (call.Validate s) = has_own (yes_or_no _)
row_plain l c (call.Unlock s) = search (either, has_own)
row_plain l c (call.ToWrite s) = search (either, has_own)
row_plain l c (call.ToRead s) = search (either, has_own)
row_plain l c (call.ToOptimistic s) = search (either, has_own)
row_plain l c call.IsWriteLocked = has_own (yes_or_no _)
row_plain l c call.IsReadLocked = has_own (yes_or_no _)
row_plain l c call.ReadCount = has_own refl
row_plain l c call.Get = has_none
row_plain l c (call.Put words) = has_none
row_plain l c (call.PutIf expected words) = has_none
row_plain l c _ = either _ (has_own refl) (has_own refl)

plain_reply : (t : Option Transition) (r : Reply) → HasPlain t → Replies t r → TellsNone r
plain_reply None r plain none = absurd none
plain_reply (Some t) r (has_own own) is = subst TellsNone is own

none_foreign : (width : ℕ) (r : Reply) → TellsNone r → EachOfReply (IsContentOf width) r
none_foreign width (reply.Content words) none = absurd (false≢true (sym none))
none_foreign width _ none = tt

some_there : (width : ℕ) → nat_lt 0 width ≡ true → 1 ≤ width
some_there width is = grind (arith, nat_tests)

same_length : (a b : ℕ) → (a == b) ≡ true → a ≡ b
same_length a b is = grind (arith, nat_tests)

-- a reply of lock or record tells what the record holds, if anything
module _ (limits : Bounds) (s : List LockEvent) (width : ℕ) (content : List ℕ) (r : Reply)
    (long : length content ≡ width)
  where
    by_lock : (asked : Call) → Replies (transition limits s asked) r → EachOfReply (IsContentOf width) r
    by_lock asked is = none_foreign width r
        (plain_reply (transition limits s asked) r (row_plain limits (counts s) asked) is)

    reply_known : (asked : Call) → IsTrue (call_suits width asked) → IsReply limits s content asked r →
        EachOfReply (IsContentOf width) r
    reply_known call.Get suits is = subst (EachOfReply (IsContentOf width)) (sym is)
        (record { some = some_there width suits; wide = long })
    reply_known (call.Put words) suits is = subst (EachOfReply (IsContentOf width)) (sym is) tt
    reply_known (call.PutIf expected words) suits is = subst (EachOfReply (IsContentOf width)) (sym is)
        (none_foreign width _ (yes_or_no (same_words content expected)))
    reply_known which suits is = by_lock which is

-- and the record stays as wide
next_long : (width : ℕ) (content : List ℕ) (asked : Call) (r : Reply) → length content ≡ width →
    IsTrue (call_suits width asked) → length (content_next content asked r) ≡ width
next_long width content (call.Put words) r long suits =
    same_length (length words) width (and_parts (nat_lt 0 width) (length words == width) suits).1
next_long width content (call.PutIf expected words) reply.Yes long suits = same_length (length words) width
    (and_parts (nat_lt 0 width && (length expected == width)) (length words == width) suits).1
next_long width content _ r long suits = long

-- along an order of effects
abbrev Suits : ℕ → Effect → Type 0
Suits width x = IsTrue (call_suits width x.entry.call)

effects_known : (limits : Bounds) (s : List LockEvent) (width : ℕ) (content : List ℕ) (order : List Effect) →
    length content ≡ width → All (Suits width) order → IsLegalFrom limits s content (history_of order) →
    (x : Effect) → Contains order x → EachOfReply (IsContentOf width) x.reply
effects_known limits s width content [] long suits legal x has = absurd (none_in_empty x has)
effects_known limits s width content (y ∷ order) long suits legal x has = by (contains_cases y order x has)
    (λ later. effects_known limits (s ++ appended_by (transition limits s y.entry.call)) width
    (content_next content y.entry.call y.reply) order (next_long width content y.entry.call y.reply long its)
    (All-tail (Suits width) y order suits) legal.1 x later)
  where
    its : Suits width y
    its = All-head (Suits width) y order suits

    by : (y ≡ x) ⊎ Contains order x → (Contains order x → EachOfReply (IsContentOf width) x.reply) →
        EachOfReply (IsContentOf width) x.reply
    by (inl here) _ = subst (λ (z : Effect). EachOfReply (IsContentOf width) z.reply) here
        (reply_known limits s width content y.reply long y.entry.call its legal.0)
    by (inr later) more = more later

abbrev pub EntrySuits : ℕ → Observation → Type 0
EntrySuits width e = IsTrue (call_suits width e.call)

-- so the replies of an explained history tell contents of the record
replies_known : (h : ObservedHistory) → All (EntrySuits h.width) h.entries → IsExplained h → (i : ℕ)
    (at : IsReturnAt h.entries i) → EachOfReply (IsContentOf h.width) at.return.reply
replies_known h suit explained i at = by (contains_from_map (λ (x : Effect). x.index) order i
    (explained.by.returned i at.entry at.is_entry (at.return, at.returned)))
  where
    order : List Effect
    order = explained.order

    suits : All (Suits h.width) order
    suits = All-weaker (IsEffectOf h.entries) (Suits h.width) (λ x is. at_index (EntrySuits h.width) h.entries x.index
        x.entry suit is.is_entry) order explained.by.effects

    by : (x : Effect) × (Contains order x × (x.index ≡ i)) → EachOfReply (IsContentOf h.width) at.return.reply
    by found = subst (EachOfReply (IsContentOf h.width)) same (effects_known h.limits [] h.width (zeros h.width) order
        (length-replicate h.width 0) suits explained.by.legal x found.1.0)
      where
        x : Effect
        x = found.0

        its : IsEffectOf h.entries x
        its = All-contains (IsEffectOf h.entries) order x explained.by.effects found.1.0

        entry : x.entry ≡ at.entry
        entry = same_Some x.entry at.entry (sym its.is_entry ∙ ap (λ (k : ℕ). slice_get h.entries k) found.1.1 ∙
            at.is_entry)

        same : x.reply ≡ at.return.reply
        same = sym (MatchOption-at_some (Unit {0}) (λ (q : Returned). q.reply ≡ x.reply) at.return
            (ap (λ (e : Observation). e.returned) entry ∙ at.returned) its.replies)

pub replies_are_of_record : RepliesAreOfRecord
replies_are_of_record h i at observed explained = replies_known h observed.suit explained i at

-- the entries of a cut
cut_entry_at : (last bound n j k : ℕ) (entries : List Observation) (e : Observation) → k ≡ n + j →
    slice_get entries j ≡ Some e → slice_get (cut_entries last bound n entries) j ≡ Some (cut_entry last bound k e)
cut_entry_at last bound n zero k [] e is at = absurd (none-some e at)
cut_entry_at last bound n (suc j) k [] e is at = absurd (none-some e at)
cut_entry_at last bound n zero k (f ∷ entries) e is at =
    ap (λ (m : ℕ). Some (cut_entry last bound m f)) (omega (arith, is)) ∙
    ap (λ (o : Observation). Some (cut_entry last bound k o)) (same_Some f e at)
cut_entry_at last bound n (suc j) k (f ∷ entries) e is at =
    cut_entry_at last bound (n + 1) j k entries e (omega (arith, is)) at

entry_suits : (width : ℕ) (b : Bool) (e : Observation) → EntrySuits width e →
    EntrySuits width (if b then e else record e { returned = None })
entry_suits width true e suits = suits
entry_suits width false e suits = suits

cut_suits : (width last bound n : ℕ) (entries : List Observation) → All (EntrySuits width) entries →
    All (EntrySuits width) (cut_entries last bound n entries)
cut_suits width last bound n [] suits = All-nil (EntrySuits width)
cut_suits width last bound n (e ∷ entries) suits = All-cons (EntrySuits width) (cut_entry last bound n e)
    (cut_entries last bound (n + 1) entries)
    (entry_suits width (returned_by last bound n e.returned) e (All-head (EntrySuits width) e entries suits))
    (cut_suits width last bound (n + 1) entries (All-tail (EntrySuits width) e entries suits))

-- where a cut is explained, the replies of what had returned then tell contents of the record
pub cut_replies_known : (h : ObservedHistory) (last bound : ℕ) → All (EntrySuits h.width) h.entries →
    IsExplained (cut last bound h) → (i : ℕ) (at : IsReturnAt h.entries i) →
    returned_by last bound i (Some at.return) ≡ true → EachOfReply (IsContentOf h.width) at.return.reply
cut_replies_known h last bound suit explained i at test = replies_known (cut last bound h)
    (cut_suits h.width last bound 0 h.entries suit) explained i (record {
      entry = at.entry;
      return = at.return;
      is_entry = cut_entry_at last bound 0 i i h.entries at.entry (omega arith) at.is_entry ∙
          ap (λ (b : Bool). Some (if b then at.entry else record at.entry { returned = None }))
          (ap (returned_by last bound i) at.returned ∙ test);
      returned = at.returned;
    })
