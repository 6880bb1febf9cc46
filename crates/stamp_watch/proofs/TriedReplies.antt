-- A reply that was tried, by its number.
use Rattle.std.proofs.Common.{ℕ, ◌≡◌, Bool, List, []}
use Rattle.std.proofs.Common.{◌∷◌, ◌++◌, Some, sym}
use Rattle.std.proofs.Common.{◌∙◌, ap, subst, None}
use Rattle.std.specs.Prelude.{◌↔◌, IsTrue}
use Rattle.stamp_core.specs.LockDecision.{reply_as}
use Rattle.stamp_core.specs.declared.lock_decision.LockReply.{LockReply}
use Rattle.stamp_core.specs.declared.lock_decision.LockReply.TheVariants as own
use Rattle.stamp_core.specs.declared.reply.Reply.{Reply}
use Rattle.stamp_core.specs.declared.reply.Reply.TheVariants as reply
use Rattle.stamp_explain.specs.Observed.{ObservedHistory}
use Rattle.stamp_explain.specs.Possible.{IsPossible}
use Rattle.stamp_runs.specs.BothRun.{AreExplained}
use Rattle.stamp_runs.specs.Names.{EachOfReply}
use Rattle.stamp_runs.specs.declared.event.Event.{Event}
use Rattle.stamp_runs.specs.declared.event.Event.TheVariants.{Returns}
use Rattle.stamp_sets.specs.SmallCall.{reply_of}
use Rattle.stamp_sets.specs.declared.small_call.SmallReply.{SmallReply}
use Rattle.stamp_sets.specs.declared.small_call.SmallReply.TheVariants as given
use Rattle.stamp_watch.specs.Names.{AreContents, IsWide, name_in, width_of}
use Rattle.stamp_watch.specs.ReplyLaws.{IsContentOf}
use Rattle.stamp_watch.specs.Replies.{IsUndecidedAtReply}
use Rattle.stamp_watch.specs.Verdict.{IsTooManyAt}
use Rattle.stamp_watch.specs.declared.trial.Trial.{Trial}
use Rattle.stamp_watch.specs.inner.Names.{IsReplyBy}
use Rattle.stamp_watch.specs.inner.Trial.{IsReplyIn, IsTrialAt, IsTried, with_return, words_beside}
use Rattle.stamp_watch.proofs.Named.{content_told, names_differ}
use Rattle.stamp_watch.proofs.NeverPossible.{possible_is_known}
use Rattle.stamp_watch.proofs.Renamed.{each_reply}
use Rattle.stamp_watch.proofs.Trying.{content_wide, told_event}
use Rattle.stamp_watch.proofs.Trying.{possible_there, undecided_there}

-- a content of the record is as wide as those with names
pub known_wide : (h : ObservedHistory) (contents : List (List ℕ)) (told : Reply) →
    AreContents (words_beside h.width) contents → EachOfReply (IsContentOf h.width) told →
    EachOfReply (IsWide (width_of contents)) told
known_wide h contents told are = each_reply (content_wide h.width contents are) told

pub reply_in : (h : ObservedHistory) (contents : List (List ℕ)) (told : Reply) (small : SmallReply) →
    EachOfReply (IsContentOf h.width) told → IsReplyBy contents told small → IsReplyIn h contents told small
reply_in h contents told small known is =
    record { told = told_event h.width contents (Returns 0 told) known is.named; small_is = is.small_is }

pub reply_by_number : {h : ObservedHistory} {contents : List (List ℕ)} {told : Reply} {small : SmallReply} →
    IsReplyIn h contents told small → IsReplyBy contents told small
reply_by_number {told = told} is =
    record { named = each_reply (λ words its. its.named) told is.told; small_is = is.small_is }

-- a reply of the lock is no content
pub no_content : (answer : LockReply) (words : List ℕ) → reply_as answer ≡ reply.Content words → ⊥
no_content (own.Stamp s) words same = cc
no_content own.Yes words same = cc
no_content own.No words same = cc
no_content own.Done words same = cc
no_content own.Mismatch words same = cc
no_content (own.Count n) words same = cc

-- a reply without a content is told by itself
plain_is : (contents : List (List ℕ)) (answer : LockReply) (told : Reply) →
    IsReplyBy contents told (given.OfLock answer) → told ≡ reply_as answer
plain_is contents answer (reply.Content words) is = absurd (no_content answer (name_in contents words) is.small_is)
plain_is contents answer _ is = sym is.small_is

-- one number tells one reply
pub one_told : (contents : List (List ℕ)) (told other : Reply) (small : SmallReply) → IsReplyBy contents told small →
    IsReplyBy contents other small → told ≡ other
one_told contents told other (given.OfLock answer) is its =
    plain_is contents answer told is ∙ sym (plain_is contents answer other its)
one_told contents told other (given.Content n) is its =
    let one = content_told contents told n is in
    let two = content_told contents other n its in
    one.1.0 ∙ ap reply.Content (names_differ contents one.0 two.0 (one.1.1 ∙ sym two.1.1)) ∙ sym two.1.0

-- replies with one number tell contents of the record, or neither does
pub as_known : (P : List ℕ → Type 0) (contents : List (List ℕ)) (told other : Reply) (small : SmallReply) →
    IsReplyBy contents told small → IsReplyBy contents other small → EachOfReply P other → EachOfReply P told
as_known P contents told other small is its known =
    subst (EachOfReply P) (sym (one_told contents told other small is its)) known

module _ {h : ObservedHistory} {i most : ℕ} {contents : List (List ℕ)} {trial : Trial}
    (is : IsTrialAt h i most contents trial)
  where
    -- what is possible tells a content of the record
    pub known_if_possible : (told : Reply) → IsPossible h i told → EachOfReply (IsContentOf h.width) told
    known_if_possible told possible = possible_is_known h is.observed i is.at told possible

    module _ (told : Reply) (small : SmallReply) (its : IsReplyIn h contents told small) where
      same_run : with_return trial small ≡ trial.events.items ++ Returns is.at.entry.thread (reply_of small) ∷ []
      same_run = ap (λ (lane : ℕ). trial.events.items ++ Returns lane (reply_of small) ∷ []) is.its_lane

      pub explained_if_possible : IsPossible h i told → AreExplained h.limits (with_return trial small)
      explained_if_possible possible = subst (AreExplained h.limits) (sym same_run) ((possible_there h is.observed
          is.moments is.moments_are i is.place is.at is.there contents trial.events.items is.numbered
          is.contents_are told small its).0 possible)

      pub possible_if_explained : AreExplained h.limits (with_return trial small) → IsPossible h i told
      possible_if_explained explained = (possible_there h is.observed is.moments is.moments_are i is.place is.at
          is.there contents trial.events.items is.numbered is.contents_are told small its).1
          (subst (AreExplained h.limits) same_run explained)

      pub possible_so : (b : Bool) → IsTried h.limits trial small (Some b) → IsTrue b ↔ IsPossible h i told
      possible_so b tried =
          ((λ yes. possible_if_explained (tried.0 yes)), (λ possible. tried.1 (explained_if_possible possible)))

      pub undecided_so : IsTried h.limits trial small None → IsUndecidedAtReply h i most told
      undecided_so tried = undecided_there h is.observed is.moments is.moments_are i is.place is.at is.there contents
          trial.events.items is.numbered is.contents_are told small its most tried.0
          (subst (λ (n : ℕ). IsTooManyAt h.limits
          (trial.events.items ++ Returns is.at.entry.thread (reply_of small) ∷ []) n tried.0) is.its_most
          (subst (λ (es : List Event). IsTooManyAt h.limits es trial.most tried.0) same_run tried.1))
