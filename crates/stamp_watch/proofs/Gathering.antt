-- Numbers that are gathered, and replies that are made of them.
use Rattle.std.proofs.Common.{◌≡◌, ◌≢◌, ◌⊎◌, ◌<◌, ℕ, List, [], ◌∷◌, ◌++◌, sym, subst, inl, inr, arith}
use Rattle.std.specs.Prelude.{map}
use Rattle.std.specs.List.{AllPairs, Contains}
use Rattle.std.proofs.lemmas.List.Elements.{Contains-append_left, Contains-push}
use Rattle.stamp_core.specs.declared.reply.Reply.{Reply}
use Rattle.stamp_core.specs.declared.reply.Reply.TheVariants.{Content, Stamp}
use Rattle.stamp_explain.proofs.Lists.{contains_map, pairs_map}
use Rattle.stamp_sets.specs.SmallCall.{reply_of}
use Rattle.stamp_sets.specs.declared.small_call.SmallReply.{SmallReply}
use Rattle.stamp_watch.specs.inner.Candidates.{AreAdded, as_content, as_stamp}
use Rattle.stamp_watch.proofs.Giving.{same_stamp}

-- one number more
pub added_on : (P Q : ℕ → Type 0) (old now : List ℕ) (x : ℕ) → ((n : ℕ) → Q n → P n ⊎ (n ≡ x)) →
    AreAdded P old now → AreAdded Q old (now ++ x ∷ [])
added_on P Q old now x either is = record {
  added = λ n of. by n (either n of);
  kept = λ n was. Contains-append_left now (x ∷ []) n (is.kept n was);
}
  where
    by : (n : ℕ) → P n ⊎ (n ≡ x) → Contains (now ++ x ∷ []) n
    by n (inl of) = Contains-append_left now (x ∷ []) n (is.added n of)
    by n (inr same) = subst (Contains (now ++ x ∷ [])) (sym same) (Contains-push now x)

-- they are replied
pub stamp_replied : (numbers : List ℕ) (replies : List SmallReply) (s : ℕ) → replies ≡ map as_stamp numbers →
    Contains numbers s → Contains (map reply_of replies) (Stamp s)
stamp_replied numbers replies s are among = subst (λ (rs : List SmallReply). Contains (map reply_of rs) (Stamp s))
    (sym are) (contains_map reply_of (map as_stamp numbers) (as_stamp s) (contains_map as_stamp numbers s among))

pub content_replied : (numbers : List ℕ) (replies : List SmallReply) (n : ℕ) → replies ≡ map as_content numbers →
    Contains numbers n → Contains (map reply_of replies) (Content (n ∷ []))
content_replied numbers replies n are among =
    subst (λ (rs : List SmallReply). Contains (map reply_of rs) (Content (n ∷ [])))
    (sym are) (contains_map reply_of (map as_content numbers) (as_content n)
    (contains_map as_content numbers n among))

same_contents : {a b : ℕ} → Content (a ∷ []) ≡ Content (b ∷ []) → a ≡ b
same_contents is = cc

abbrev Any : {A : Type 0} → A → Type 0
Any x = Unit {0}

-- each once
all_differ : (f : ℕ → SmallReply) (numbers : List ℕ) (replies : List SmallReply) →
    ((a b : ℕ) → reply_of (f a) ≡ reply_of (f b) → a ≡ b) → replies ≡ map f numbers →
    AllPairs (λ (a b : ℕ). a < b) numbers → AllPairs (λ (a b : Reply). a ≢ b) (map reply_of replies)
all_differ f numbers replies one are rises =
    subst (λ (rs : List SmallReply). AllPairs (λ (a b : Reply). a ≢ b) (map reply_of rs)) (sym are)
    (pairs_map (λ (a b : SmallReply). reply_of a ≢ reply_of b) (λ (a b : Reply). a ≢ b) Any reply_of (map f numbers)
    (λ x y _ _ apart. apart) (λ k d less. tt)
    (pairs_map (λ (a b : ℕ). a < b) (λ (a b : SmallReply). reply_of a ≢ reply_of b) Any f numbers
    (λ a b _ _ less same. let is : a ≡ b = one a b same in omega (arith, less, is)) (λ k d less. tt) rises))

pub stamps_differ : (numbers : List ℕ) (replies : List SmallReply) → replies ≡ map as_stamp numbers →
    AllPairs (λ (a b : ℕ). a < b) numbers → AllPairs (λ (a b : Reply). a ≢ b) (map reply_of replies)
stamps_differ numbers replies are rises = all_differ as_stamp numbers replies (λ a b same. same_stamp same) are rises

pub contents_differ : (numbers : List ℕ) (replies : List SmallReply) → replies ≡ map as_content numbers →
    AllPairs (λ (a b : ℕ). a < b) numbers → AllPairs (λ (a b : Reply). a ≢ b) (map reply_of replies)
contents_differ numbers replies are rises = all_differ as_content numbers replies (λ a b same. same_contents same) are
    rises
