-- What the calls of the lock and of the record do.
use Rattle.std.proofs.Common.{◌≡◌, ◌+◌, ℕ, suc, arith, Bool, true, false, List, [], ◌∷◌, ◌++◌, length, refl}
use Rattle.std.proofs.Common.{sym, ◌∙◌, ap, subst, inl, inr, ◌⊎◌}
use Rattle.std.specs.Prelude.{if◌then◌else◌}
use Rattle.std.proofs.lemmas.List.{length-append}
use Rattle.std.specs.Cmp.Lexicographic.{same_text}
use Rattle.std.proofs.lemmas.Bool.{cases_Bool}
use Rattle.stamp_core.specs.LockEvent.{LockEvent}
use Rattle.stamp_core.specs.LockEvent.LockEvent.{ReadAcquired}
use Rattle.stamp_core.specs.Limits.{Bounds}
use Rattle.stamp_core.specs.Transition.{transition}
use Rattle.stamp_core.specs.History.{Replies, appended_by}
use Rattle.stamp_core.specs.Content.{same_words}
use Rattle.stamp_core.specs.declared.call.Call.{Call}
use Rattle.stamp_core.specs.declared.call.Call.TheVariants.{Get, Put, PutIf}
use Rattle.stamp_core.specs.declared.reply.Reply.{Reply}
use Rattle.stamp_core.specs.declared.reply.Reply.TheVariants.{Yes, No, Done, Content}
use Rattle.stamp_runs.specs.Object.{LockStep, RecordStep}
use Rattle.stamp_runs.specs.LockRun.{DoSame}
use Rattle.stamp_runs.specs.Run.{DoesAs}
use Rattle.stamp_runs.specs.Position.{Overwrites, OverwritesNever}
use Rattle.stamp_runs.specs.RunLaws.{LockOverwritesNever, PutsOverwrite, ReadsChangeNothing, SameAreAlike}

pub reads_change_nothing : ReadsChangeNothing
reads_change_nothing = ((λ s t reply step. step.leaves), λ expected words s t step. step.leaves)

-- none and one word
apart : ◌≡◌ {A = List ℕ} [] (0 ∷ []) → ⊥
apart same = cc

pub one_content : {a b : List ℕ} → Content a ≡ Content b → a ≡ b
one_content same = cc

pub get_never : OverwritesNever RecordStep Get
get_never reply t over = apart (one_content (sym (over.may []).replies ∙ (over.may (0 ∷ [])).replies))

put_if_never : (expected words : List ℕ) → OverwritesNever RecordStep (PutIf expected words)
put_if_never expected words reply t over = by (cases_Bool (same_words [] expected))
    (cases_Bool (same_words (0 ∷ []) expected))
  where
    is_so : {b : Bool} (content : List ℕ) → same_words content expected ≡ b → reply ≡ (if b then Yes else No)
    is_so content same = subst (λ (x : Bool). reply ≡ (if x then Yes else No)) same (over.may content).replies

    stays : (content : List ℕ) → reply ≡ No → t ≡ content
    stays content is_no = (subst (λ (x : Reply). RecordStep content (PutIf expected words) x t) is_no (over.may
        content)).leaves

    yes_or_no : Yes ≡ No → ⊥
    yes_or_no same = cc

    by : (same_words [] expected ≡ true) ⊎ (same_words [] expected ≡ false) →
        (same_words (0 ∷ []) expected ≡ true) ⊎ (same_words (0 ∷ []) expected ≡ false) → ⊥
    by (inl one) (inl other) = apart (same_text [] expected (sym one) ∙ sym (same_text (0 ∷ []) expected (sym other)))
    by (inl one) (inr other) = yes_or_no (sym (is_so [] one) ∙ is_so (0 ∷ []) other)
    by (inr one) (inl other) = yes_or_no (sym (is_so (0 ∷ []) other) ∙ is_so [] one)
    by (inr one) (inr other) = apart (sym (stays [] (is_so [] one)) ∙ stays (0 ∷ []) (is_so (0 ∷ []) other))

pub put_overwrites : (words : List ℕ) → Overwrites RecordStep (Put words) Done words
put_overwrites words = record {
  may = λ s. record { replies = refl; leaves = refl };
  answer = λ s next other step. step.replies;
  leaves = λ s next other step. step.leaves;
}

pub puts_overwrite : PutsOverwrite
puts_overwrite call reply t = (
  is_put call,
  λ is. subst (λ (c : Call). Overwrites RecordStep c reply t) (sym is.0)
      (subst (λ (r : Reply). Overwrites RecordStep (Put t) r t) (sym is.1) (put_overwrites t)),
)
  where
    is_put : (call : Call) → Overwrites RecordStep call reply t → (call ≡ Put t) × (reply ≡ Done)
    is_put (Put words) over = (ap Put (sym (over.may []).leaves), (over.may []).replies)
    is_put Get over = absurd (get_never reply t over)
    is_put (PutIf expected words) over = absurd (put_if_never expected words reply t over)
    is_put _ over = absurd (over.may []).replies

-- the lock only appends: no state is left of one that has more events
pub lock_overwrites_never : LockOverwritesNever
lock_overwrites_never limits call reply t over = omega (arith, long, appends)
  where
    more : List LockEvent
    more = ReadAcquired ∷ t

    long : length more ≡ suc (length t)
    long = refl

    appends : length t ≡ length more + length (appended_by (transition limits more call))
    appends = ap length (over.may more).appends ∙ length-append more (appended_by (transition limits more call))

pub does_as : (limits : Bounds) (call other : Call) → DoSame limits call other → DoesAs (LockStep limits) call other
does_as limits call other same s t reply step = record {
  replies = subst (λ x. Replies x reply) (same s) step.replies;
  appends = subst (λ x. t ≡ s ++ appended_by x) (same s) step.appends;
}

pub same_are_alike : SameAreAlike
same_are_alike limits call other same = record {
  does = does_as limits call other same;
  done_by = does_as limits other call (λ s. sym (same s));
}
