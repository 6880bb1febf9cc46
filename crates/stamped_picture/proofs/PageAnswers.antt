-- The answer to an input, of which a page was made or none.
use Rattle.std.proofs.Common.{◌≡◌, ◌≢◌, ◌≤◌, ℕ, List, length, Bool, true, false, Result, Ok, Err, IfOk, IfErr}
use Rattle.std.proofs.Common.{IsOkUnless, refl, sym, ◌∙◌, ap, arith}
use Rattle.std.proofs.lemmas.Bool.{false≢true}
use Rattle.stamp_core.specs.Record.{Recorded}
use Rattle.stamp_cli.specs.Answer.{IsInputAnswer}
use Rattle.stamp_cli.specs.Refusal.{refusal}
use Rattle.stamp_cli.specs.Source.{most_bytes}
use Rattle.stamp_cli.specs.inner.Refusal.{is_of_end}
use Rattle.stamp_cli.specs.declared.faults.ServeFault.{ServeFault}
use Rattle.stamp_cli.specs.declared.faults.ServeFault.TheVariants.{Memory}
use Rattle.stamp_explain.specs.Observed.{ObservedHistory}
use Rattle.stamp_history.specs.History.{recorded_of}
use Rattle.stamp_history.specs.declared.read_error.ReadError.{ReadError}
use Rattle.stamp_history.specs.declared.read_error.ReadError.TheVariants as reading
use Rattle.stamp_observed.specs.ObservedReading.{observed_of}
use Rattle.stamped_picture.specs.declared.answer.Drawing as made
use Rattle.stamped_picture.specs.Answer.{drawing_in}
use Rattle.stamped_picture.specs.Page.{AnswersPage, IsObservedPage, IsRecordedPage, is_at_first_entry}
use Rattle.stamped_picture.specs.inner.Page.{HoldsUnlessMemory}

-- want of memory is no fault of an end
pub memory_is_inner : {A : Type 0} (made : Result A ServeFault) → IsOkUnless made Memory →
    IfErr made (λ (e : ServeFault). is_of_end e ≡ false)
memory_is_inner (Ok page) memory = tt
memory_is_inner (Err e) memory = ap is_of_end memory

-- an error at the first entry is not want of memory
not_memory : (e : ReadError) → is_at_first_entry e ≡ true → e ≢ reading.Memory
not_memory e first same = false≢true (ap is_at_first_entry (sym same) ∙ first)

-- memory aside, an input that is not too long is no recorded history for this error
pub record IsNoRecord (input : List ℕ) (e : ReadError) : Type 0 where
  pub within : length input ≤ most_bytes
  pub refused : e ≢ reading.Memory → recorded_of input ≡ Err e

module _ (most : ℕ) (head tail input : List ℕ) where
  -- the page of a recorded history
  pub recorded_answer : (history : Recorded) (page : Result made.Drawing ServeFault) → length input ≤ most_bytes →
      recorded_of input ≡ Ok history →
      IfOk page (λ (p : made.Drawing). IsRecordedPage head tail history (drawing_in p)) → IsOkUnless page Memory →
      HoldsUnlessMemory (IsInputAnswer (AnswersPage most head tail) input) page
  recorded_answer history (Ok page) within is page_is memory = record {
    too_long = λ over. absurd (omega (arith, over, within));
    read = λ _. rw is page_is;
  }
  recorded_answer history (Err e) within is page_is memory = λ not. absurd (not memory)

  -- the refusal of what is no recorded history
  pub refused_answer : (e : ReadError) (fault : ServeFault) → IsNoRecord input e → is_at_first_entry e ≡ false →
      fault ≡ refusal e → fault ≢ Memory → IsInputAnswer (AnswersPage most head tail) input (Err fault)
  refused_answer e fault none later same not = record {
    too_long = λ over. absurd (omega (arith, over, none.within));
    read = λ _. rw (none.refused (λ memory. not (same ∙ ap refusal memory)), later) (ap Err same);
  }

  -- the refusal of what is no observed history, either
  pub unread_answer : (e unread : ReadError) (fault : ServeFault) → IsNoRecord input e →
      is_at_first_entry e ≡ true → (unread ≢ reading.Memory → observed_of input ≡ Err unread) →
      fault ≡ refusal unread → fault ≢ Memory → IsInputAnswer (AnswersPage most head tail) input (Err fault)
  unread_answer e unread fault none first is same not = record {
    too_long = λ over. absurd (omega (arith, over, none.within));
    read = λ _. rw (none.refused (not_memory e first), first, is (λ memory. not (same ∙ ap refusal memory)))
        (ap Err same);
  }

  -- the page of an observed history
  pub observed_answer : (e : ReadError) (h : ObservedHistory) (page : Result made.Drawing ServeFault) →
      IsNoRecord input e → is_at_first_entry e ≡ true → observed_of input ≡ Ok h →
      IfOk page (λ (p : made.Drawing). IsObservedPage most head tail h (drawing_in p)) → IsOkUnless page Memory →
      HoldsUnlessMemory (IsInputAnswer (AnswersPage most head tail) input) page
  observed_answer e h (Ok page) none first is page_is memory = record {
    too_long = λ over. absurd (omega (arith, over, none.within));
    read = λ _. rw (none.refused (not_memory e first), first, is) page_is;
  }
  observed_answer e h (Err fault) none first is page_is memory = λ not. absurd (not memory)
