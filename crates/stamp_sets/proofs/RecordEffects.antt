-- What calls of a record do, by the numbers of its contents.
use Rattle.std.proofs.Common.{ℕ, ◌≡◌, ◌≢◌, ◌⊎◌, List, [], ◌∷◌, Bool, true, false}
use Rattle.std.proofs.Common.{refl, sym, ◌∙◌, ap, inl, inr}
use Rattle.std.specs.Prelude.{slice_index_or, if◌then◌else◌}
use Rattle.std.specs.Cmp.Lexicographic.{bytes_decides, same_text}
use Rattle.std.proofs.lemmas.Bool.{cases_Bool}
use Rattle.stamp_core.specs.Content.{content_next, same_words}
use Rattle.stamp_core.specs.declared.call.Call.{Call}
use Rattle.stamp_core.specs.declared.call.Call.TheVariants.{Get, Put, PutIf}
use Rattle.stamp_core.specs.declared.lock_decision.LockReply.TheVariants as lock
use Rattle.stamp_core.specs.declared.reply.Reply.{Reply}
use Rattle.stamp_core.specs.declared.reply.Reply.TheVariants.{Yes, No, Content}
use Rattle.stamp_runs.specs.Object.{RecordStep}
use Rattle.stamp_sets.specs.declared.small_call.SmallReply.TheVariants as small
use Rattle.stamp_sets.specs.Judged.{guarded}
use Rattle.stamp_sets.proofs.Answers.{IsAnswered, Stays}

one_number : (number other : ℕ) → number ∷ [] ≡ other ∷ [] → number ≡ other
one_number number other same = ap (λ (words : List ℕ). slice_index_or words 0 0) same

pub put_answered : (number next : ℕ) → IsAnswered guarded number (Put (next ∷ [])) (small.OfLock lock.Done) next
put_answered number next = record {
  some = λ s holds. (next ∷ [], (record { replies = refl; leaves = refl }, refl));
  only = λ s left other holds step. (step.replies, step.leaves);
}

module _ (number : ℕ) where
  pub get_stays : Stays guarded number Get
  get_stays s next reply holds step = step.leaves

  pub get_answered : IsAnswered guarded number Get (small.Content number) number
  get_answered = record {
    some = λ s holds. (s, (record { replies = ap Content (sym holds); leaves = refl }, holds));
    only = λ s next other holds step. (step.replies ∙ ap Content holds, step.leaves ∙ holds);
  }

  module _ (expected next : ℕ) (b : Bool)
      (tested : (s : List ℕ) → s ≡ number ∷ [] → same_words s (expected ∷ []) ≡ b) where
    abbrev asked : Call
    asked = PutIf (expected ∷ []) (next ∷ [])

    answer : (s left : List ℕ) (other : Reply) → s ≡ number ∷ [] → RecordStep s asked other left →
        other ≡ (if b then Yes else No)
    answer s left other holds step = step.replies ∙ ap (λ (x : Bool). if x then Yes else No) (tested s holds)

    leaves : (s left : List ℕ) (other reply : Reply) → other ≡ reply → RecordStep s asked other left →
        left ≡ content_next s asked reply
    leaves s left other reply same step = step.leaves ∙ ap (λ (r : Reply). content_next s asked r) same

    put_if_step : (s : List ℕ) (reply : Reply) → s ≡ number ∷ [] → reply ≡ (if b then Yes else No) →
        RecordStep s asked reply (content_next s asked reply)
    put_if_step s reply holds is_reply = record {
      replies = is_reply ∙ sym (ap (λ (x : Bool). if x then Yes else No) (tested s holds));
      leaves = refl;
    }

  -- the content is the expected one
  pub put_if_yes : (expected next : ℕ) → expected ≡ number →
      IsAnswered guarded number (PutIf (expected ∷ []) (next ∷ [])) (small.OfLock lock.Yes) next
  put_if_yes expected next same = record {
    some = λ s holds. (next ∷ [], (put_if_step expected next true yes s Yes holds refl, refl));
    only = λ s left other holds step. let is_yes = answer expected next true yes s left other holds step in
        (is_yes, leaves expected next true yes s left other Yes is_yes step);
  }
    where
      yes : (s : List ℕ) → s ≡ number ∷ [] → same_words s (expected ∷ []) ≡ true
      yes s holds = (bytes_decides s (expected ∷ [])).1 (holds ∙ ap (λ (n : ℕ). n ∷ []) (sym same))

  -- it is another one
  module _ (expected next : ℕ) (apart : expected ≢ number) where
    no : (s : List ℕ) → s ≡ number ∷ [] → same_words s (expected ∷ []) ≡ false
    no s holds = by (cases_Bool (same_words s (expected ∷ [])))
      where
        by : (same_words s (expected ∷ []) ≡ true) ⊎ (same_words s (expected ∷ []) ≡ false) →
            same_words s (expected ∷ []) ≡ false
        by (inl same) =
            absurd (apart (one_number expected number (sym (same_text s (expected ∷ []) (sym same)) ∙ holds)))
        by (inr other) = other

    pub put_if_stays : Stays guarded number (PutIf (expected ∷ []) (next ∷ []))
    put_if_stays s left other holds step = leaves expected next false no s left other No
        (answer expected next false no s left other holds step) step

    pub put_if_no : IsAnswered guarded number (PutIf (expected ∷ []) (next ∷ [])) (small.OfLock lock.No) number
    put_if_no = record {
      some = λ s holds. (s, (put_if_step expected next false no s No holds refl, holds));
      only = λ s left other holds step.
          (answer expected next false no s left other holds step, put_if_stays s left other holds step ∙ holds);
    }
