-- The possible ones of the replies that were tried so far.
use Rattle.std.proofs.Common.{◌≢◌, List, [], ◌∷◌, ◌++◌, length, get_or, sym, ◌∙◌, arith}
use Rattle.std.specs.Prelude.{◌↔◌}
use Rattle.std.specs.List.{All, AllPairs, Contains}
use Rattle.std.proofs.Math.Seq.{get_or-append_seam}
use Rattle.std.proofs.lemmas.List.{get_or_append_left, length-append}
use Rattle.std.proofs.lemmas.List.Elements.{All-contains, All-push, All-weaker, Contains-append_left}
use Rattle.std.proofs.lemmas.List.Elements.{Contains-push}
use Rattle.std.proofs.lemmas.List.Quantifiers.{all_pairs_push}
use Rattle.stamp_core.specs.declared.reply.Reply.{Reply}

abbrev AreDifferent : List Reply → Type 0
AreDifferent replies = AllPairs (λ (a b : Reply). a ≢ b) replies

-- of those that were tried these are the ones that hold; each once if all are different
pub record AreChosen (P : Reply → Type 0) (tried found : List Reply) : Type 0 where
  pub only : All (λ (r : Reply). Contains tried r × P r) found
  pub whole : All (λ (r : Reply). P r → Contains found r) tried
  pub once : AreDifferent tried → AreDifferent found

pub chosen : (P : Reply → Type 0) (tried found : List Reply) → AreChosen P tried found → (r : Reply) →
    Contains found r ↔ (Contains tried r × P r)
chosen P tried found are r = (
  λ has. All-contains (λ (q : Reply). Contains tried q × P q) found r are.only has,
  λ both. All-contains (λ (q : Reply). P q → Contains found q) tried r are.whole both.0 both.1,
)

module _ (P : Reply → Type 0) (tried found : List Reply) (reply : Reply) (are : AreChosen P tried found) where
  -- those before the last are different, and others than it
  front : AreDifferent (tried ++ reply ∷ []) → AreDifferent tried
  front all i j d lt inside same = all i j d lt (omega (arith, inside, length-append tried (reply ∷ [])))
      (get_or_append_left tried (reply ∷ []) d i (omega (arith, lt, inside)) ∙ same ∙
      sym (get_or_append_left tried (reply ∷ []) d j inside))

  other : AreDifferent (tried ++ reply ∷ []) → (r : Reply) → Contains tried r → r ≢ reply
  other all r (k, lt, at) same = all k (length tried) r lt (omega (arith, length-append tried (reply ∷ [])))
      (get_or_append_left tried (reply ∷ []) r k lt ∙ at ∙ same ∙ sym (get_or-append_seam tried reply [] r))

  pub one_chosen : P reply → AreChosen P (tried ++ reply ∷ []) (found ++ reply ∷ [])
  one_chosen is = record {
    only = All-push (λ (r : Reply). Contains (tried ++ reply ∷ []) r × P r) found reply
        (All-weaker (λ (r : Reply). Contains tried r × P r) (λ (r : Reply). Contains (tried ++ reply ∷ []) r × P r)
        (λ r both. (Contains-append_left tried (reply ∷ []) r both.0, both.1)) found are.only)
        (Contains-push tried reply, is);
    whole = All-push (λ (r : Reply). P r → Contains (found ++ reply ∷ []) r) tried reply
        (All-weaker (λ (r : Reply). P r → Contains found r) (λ (r : Reply). P r → Contains (found ++ reply ∷ []) r)
        (λ r go holds. Contains-append_left found (reply ∷ []) r (go holds)) tried are.whole)
        (λ _. Contains-push found reply);
    once = λ all. all_pairs_push (λ (a b : Reply). a ≢ b) found reply (are.once (front all))
        (λ k d lt. other all (get_or found k d) (are.only k d lt).0);
  }

  pub none_more_chosen : ¬ P reply → AreChosen P (tried ++ reply ∷ []) found
  none_more_chosen isnt = record {
    only = All-weaker (λ (r : Reply). Contains tried r × P r) (λ (r : Reply). Contains (tried ++ reply ∷ []) r × P r)
        (λ r both. (Contains-append_left tried (reply ∷ []) r both.0, both.1)) found are.only;
    whole = All-push (λ (r : Reply). P r → Contains found r) tried reply are.whole (λ is. absurd (isnt is));
    once = λ all. are.once (front all);
  }
