-- All replies that are possible, found by their numbers.
use Rattle.std.proofs.Common.{ℕ, ◌≢◌, List}
use Rattle.std.proofs.Common.{[]}
use Rattle.std.specs.List.{Contains}
use Rattle.std.proofs.lemmas.List.Elements.{All-nil}
use Rattle.stamp_core.specs.declared.reply.Reply.{Reply}
use Rattle.stamp_explain.specs.Observed.{ObservedHistory}
use Rattle.stamp_explain.specs.Possible.{AreAllPossible, ArePossible, IsPossible}
use Rattle.stamp_explain.proofs.Choosing.{AreChosen}
use Rattle.stamp_explain.proofs.Lists.{none_in_empty, pairs_none}

-- where no reply is possible none is found
pub none_possible : (h : ObservedHistory) (i : ℕ) (tried : List Reply) → ((r : Reply) → ¬ IsPossible h i r) →
    ArePossible h i tried []
none_possible h i tried none = record {
  each = λ r. ((λ has. absurd (none_in_empty r has)), (λ both. absurd (none r both.1)));
  once = λ different. pairs_none (λ (a b : Reply). a ≢ b);
}

pub all_impossible : (h : ObservedHistory) (i : ℕ) → ((r : Reply) → ¬ IsPossible h i r) → AreAllPossible h i []
all_impossible h i none = record {
  each = All-nil (IsPossible h i);
  whole = λ r _. none r;
  once = pairs_none (λ (a b : Reply). a ≢ b);
}

-- before any reply was tried
pub none_chosen : (P : Reply → Type 0) → AreChosen P [] []
none_chosen P = record {
  only = All-nil (λ (r : Reply). Contains [] r × P r);
  whole = All-nil (λ (r : Reply). P r → Contains [] r);
  once = λ different. pairs_none (λ (a b : Reply). a ≢ b);
}
