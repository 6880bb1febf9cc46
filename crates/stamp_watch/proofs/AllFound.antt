-- All replies that are possible, found by their numbers.
use Rattle.std.proofs.Common.{ℕ, ◌≡◌, ◌≢◌, ◌⊎◌, Bool, List, [], ◌∷◌}
use Rattle.std.proofs.Common.{◌++◌, length, get_or, sym}
use Rattle.std.proofs.Common.{◌∙◌, ap, subst, arith, inl, inr}
use Rattle.std.specs.Prelude.{map, if◌then◌else◌}
use Rattle.std.specs.List.{All, AllPairs, Contains}
use Rattle.std.proofs.Math.Seq.{get_or-append_seam}
use Rattle.std.proofs.lemmas.List.{get_or-map, get_or_append_left, length-append, length-map}
use Rattle.std.proofs.lemmas.List.Elements.{All-nil, All-push, All-weaker, Contains-append_left}
use Rattle.std.proofs.lemmas.List.Elements.{Contains-push, Contains-push_cases}
use Rattle.std.proofs.lemmas.List.Quantifiers.{all_pairs_push}
use Rattle.stamp_core.specs.declared.reply.Reply.{Reply}
use Rattle.stamp_core.specs.declared.reply.Reply.TheVariants as reply
use Rattle.stamp_explain.specs.Observed.{ObservedHistory}
use Rattle.stamp_explain.specs.Possible.{AreAllPossible, IsPossible}
use Rattle.stamp_explain.proofs.Lists.{contains_from_map, none_in_empty, pairs_cons, pairs_head, pairs_left, pairs_none}
use Rattle.stamp_explain.proofs.Lists.{pairs_tail}
use Rattle.stamp_runs.specs.BothRun.{AreExplained}
use Rattle.stamp_runs.specs.Names.{reply_by}
use Rattle.stamp_runs.specs.declared.event.Event.TheVariants.{Returns}
use Rattle.stamp_runs.proofs.Objects.{one_content}
use Rattle.stamp_sets.specs.SmallCall.{reply_of}
use Rattle.stamp_sets.specs.declared.small_call.SmallReply.{SmallReply}
use Rattle.stamp_sets.specs.declared.small_call.SmallReply.TheVariants as given
use Rattle.stamp_sets.proofs.Answers.{one_reply}
use Rattle.stamp_runs.specs.Names.{EachOfReply}
use Rattle.stamp_watch.specs.Names.{name_in}
use Rattle.stamp_watch.specs.ReplyLaws.{IsContentOf}
use Rattle.stamp_watch.specs.declared.trial.Trial.{Trial}
use Rattle.stamp_watch.specs.inner.Trial.{AreFound, IsFoundIn, IsFoundReply, IsReplyIn, IsTrialAt}
use Rattle.stamp_watch.proofs.TriedReplies.{known_if_possible, no_content, one_told, reply_by_number}
use Rattle.stamp_watch.proofs.Trying.{explained_by_name, name_for, not_zero}

-- where no two of a mapped list are the same, no two of the list are
pub differ_unmapped : {X Y : Type 0} (f : X → Y) (xs : List X) → AllPairs (λ (a b : Y). a ≢ b) (map f xs) →
    AllPairs (λ (a b : X). a ≢ b) xs
differ_unmapped {X} f [] all = pairs_none (λ (a b : X). a ≢ b)
differ_unmapped {X} {Y} f (x ∷ xs) all = pairs_cons (λ (a b : X). a ≢ b) x xs
    (λ k d lt same. pairs_head (λ (a b : Y). a ≢ b) (f x) (map f xs) all k (f d) (omega (arith, lt, length-map xs f))
    (ap f same ∙ sym (get_or-map f xs k d (f d) lt)))
    (differ_unmapped f xs (pairs_tail (λ (a b : Y). a ≢ b) (f x) (map f xs) all))

before_last : {X : Type 0} (xs : List X) (x : X) → AllPairs (λ (a b : X). a ≢ b) (xs ++ x ∷ []) → (y : X) →
    Contains xs y → y ≢ x
before_last xs x all y (k, lt, at) same = all k (length xs) y lt (omega (arith, length-append xs (x ∷ [])))
    (get_or_append_left xs (x ∷ []) y k lt ∙ at ∙ same ∙ sym (get_or-append_seam xs x [] y))

module _ (h : ObservedHistory) (i : ℕ) (contents : List (List ℕ)) where
  pub none_found : AreFound h i contents [] []
  none_found = record {
    only = All-nil (IsFoundIn h i contents []);
    whole = λ small has. absurd (none_in_empty small has);
    once = λ different. pairs_none (λ (a b : Reply). a ≢ b);
  }

  module _ (tried : List SmallReply) (found : List Reply) (small : SmallReply)
      (are : AreFound h i contents tried found)
    where
      still : All (IsFoundIn h i contents (tried ++ small ∷ [])) found
      still = All-weaker (IsFoundIn h i contents tried) (IsFoundIn h i contents (tried ++ small ∷ []))
          (λ told its. (its.0, (Contains-append_left tried (small ∷ []) its.0 its.1.0, its.1.1))) found are.only

      pub none_found_more : ((told : Reply) → IsReplyIn h contents told small → ¬ IsPossible h i told) →
          AreFound h i contents (tried ++ small ∷ []) found
      none_found_more none = record {
        only = still;
        whole = λ other has told its possible. by other told its possible (Contains-push_cases tried small other has);
        once = λ all. are.once (pairs_left (λ (a b : SmallReply). a ≢ b) tried (small ∷ []) all);
      }
        where
          by : (other : SmallReply) (told : Reply) → IsReplyIn h contents told other → IsPossible h i told →
              Contains tried other ⊎ (small ≡ other) → Contains found told
          by other told its possible (inl there) = are.whole other there told its possible
          by other told its possible (inr same) =
              absurd (none told (subst (IsReplyIn h contents told) (sym same) its) possible)

      pub one_found_more : (told : Reply) → IsFoundReply h i contents small told →
          AreFound h i contents (tried ++ small ∷ []) (found ++ told ∷ [])
      one_found_more told its = record {
        only = All-push (IsFoundIn h i contents (tried ++ small ∷ [])) found told still
            (small, (Contains-push tried small, its));
        whole = λ other has answer number possible. by other answer number possible
            (Contains-push_cases tried small other has);
        once = λ all. all_pairs_push (λ (a b : Reply). a ≢ b) found told
            (are.once (pairs_left (λ (a b : SmallReply). a ≢ b) tried (small ∷ []) all))
            (λ k d lt. differs all (get_or found k d) (are.only k d lt));
      }
        where
          by : (other : SmallReply) (answer : Reply) → IsReplyIn h contents answer other → IsPossible h i answer →
              Contains tried other ⊎ (small ≡ other) → Contains (found ++ told ∷ []) answer
          by other answer number possible (inl there) =
              Contains-append_left found (told ∷ []) answer (are.whole other there answer number possible)
          by other answer number possible (inr same) = subst (Contains (found ++ told ∷ []))
              (one_told contents told answer small (reply_by_number its.its_number)
              (reply_by_number (subst (IsReplyIn h contents answer) (sym same) number))) (Contains-push found told)

          differs : AllPairs (λ (a b : SmallReply). a ≢ b) (tried ++ small ∷ []) → (answer : Reply) →
              IsFoundIn h i contents tried answer → answer ≢ told
          differs all answer was same = before_last tried small all was.0 was.1.0 (one_reply was.0 small
              (was.1.1.its_number.small_is ∙ ap (reply_by (name_in contents)) same ∙ sym its.its_number.small_is))

-- the number of a reply that is told by its name
number_by_name : (h : ObservedHistory) (contents : List (List ℕ)) (told : Reply) (small : SmallReply) →
    EachOfReply (IsContentOf h.width) told → reply_of small ≡ reply_by (name_for h.width contents) told →
    IsReplyIn h contents told small
number_by_name h contents (reply.Content words) small known same = by small (same ∙ ap reply.Content name)
  where
    name : name_for h.width contents words ≡ name_in contents words
    name = ap (λ (b : Bool). if b then 0 ∷ words else name_in contents words) (not_zero h.width known.some)

    by : (number : SmallReply) → reply_of number ≡ reply.Content (name_in contents words) →
        IsReplyIn h contents (reply.Content words) number
    by (given.OfLock answer) is = absurd (no_content answer (name_in contents words) is)
    by (given.Content n) is = record {
      told = record { some = known.some; named = (n, sym (one_content is)) };
      small_is = is;
    }
number_by_name h contents (reply.Stamp s) small known same = record { told = tt; small_is = same }
number_by_name h contents reply.Yes small known same = record { told = tt; small_is = same }
number_by_name h contents reply.No small known same = record { told = tt; small_is = same }
number_by_name h contents reply.Done small known same = record { told = tt; small_is = same }
number_by_name h contents reply.Mismatch small known same = record { told = tt; small_is = same }
number_by_name h contents (reply.Count n) small known same = record { told = tt; small_is = same }

-- where none is missing among the numbers, all that are possible were found
pub all_found : {h : ObservedHistory} {i most : ℕ} {contents : List (List ℕ)} {trial : Trial} →
    IsTrialAt h i most contents trial → (tried : List SmallReply) (found : List Reply) →
    ((told : Reply) → AreExplained h.limits (trial.events.items ++ Returns trial.lane told ∷ []) →
    Contains (map reply_of tried) told) → AllPairs (λ (a b : SmallReply). a ≢ b) tried →
    AreFound h i contents tried found → AreAllPossible h i found
all_found {h} {i} {most} {contents} {trial} is tried found none_missing different are = record {
  each = All-weaker (IsFoundIn h i contents tried) (IsPossible h i) (λ told its. its.1.1.possible) found are.only;
  whole = λ told misses possible. misses (there told possible);
  once = are.once different;
}
  where
    there : (told : Reply) → IsPossible h i told → Contains found told
    there told possible =
        let number = contains_from_map reply_of tried (reply_by (name_for h.width contents) told)
        (none_missing (reply_by (name_for h.width contents) told) (subst (λ (lane : ℕ). AreExplained h.limits
        (trial.events.items ++ Returns lane (reply_by (name_for h.width contents) told) ∷ [])) (sym is.its_lane)
        (explained_by_name h is.observed is.moments is.moments_are i is.place is.at is.there contents
        trial.events.items is.numbered is.contents_are told possible))) in
        are.whole number.0 number.1.0 told (number_by_name h contents told number.0
        (known_if_possible is told possible) number.1.1) possible
