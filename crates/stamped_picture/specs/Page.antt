-- The page that answers an input, or why there is none.
use Rattle.std.specs.Prelude.{ℕ, ◌≡◌, ◌≢◌, ◌==◌, ◌++◌, Bool, true, false, List, [], Option, Result, Ok, Err}
use Rattle.stamp_core.specs.Record.{Recorded}
use Rattle.stamp_cli.specs.Answer.{IsInputAnswer, AnswersRead}
use Rattle.stamp_cli.specs.Refusal.{refusal}
use Rattle.stamp_cli.specs.Source.{Reads}
use Rattle.stamp_cli.specs.declared.faults.ServeFault.{ServeFault}
use Rattle.stamp_cli.specs.declared.line.Verdict.{Verdict}
use Rattle.stamp_cli.specs.declared.line.Verdict.TheVariants.{Accepted, Bad}
use Rattle.stamp_explain.specs.Observed.{ObservedHistory}
use Rattle.stamp_history.specs.History.{recorded_of}
use Rattle.stamp_history.specs.declared.field.Field.{Field}
use Rattle.stamp_history.specs.declared.field.Field.TheVariants.{Entry}
use Rattle.stamp_history.specs.declared.read_error.ReadError.{ReadError}
use Rattle.stamp_history.specs.declared.read_error.ReadError.TheVariants.{NotHistory}
use Rattle.stamp_observed.specs.ObservedReading.{observed_of}
use Rattle.stamp_picture.specs.declared.picture.Fault.{Fault}
use Rattle.stamp_picture.specs.Picture.{IsJudged}
use Rattle.stamped_picture.specs.declared.explanation.Explanation.{Explanation}
use Rattle.stamped_picture.specs.declared.explanation.Explanation.TheVariants.{Faulty, Explained, Stuck}
use Rattle.stamped_picture.specs.declared.explanation.Explanation.TheVariants.{StuckWithin, Undecided}
use Rattle.stamped_picture.specs.declared.faults.PictureFault.{PictureFault}
use Rattle.stamped_picture.specs.declared.faults.PictureFault.TheVariants.{Serve, NoInput, TooMany}
use Rattle.stamped_picture.specs.Answer.{DrawingView, verdict_in}
use Rattle.stamped_picture.specs.Explanation.{IsExplanation}
use Rattle.stamped_picture.specs.PageData.{recorded_text, observed_data_text}

-- the page has a recorded history's text and verdict as its data
pub record IsRecordedPage (head tail : List ℕ) (history : Recorded) (page : DrawingView) : Type 0 where
  pub verdict : Result ℕ Fault
  pub judged : IsJudged history verdict
  pub text : page.text ≡ head ++ (recorded_text history verdict ++ tail)
  pub says : page.verdict ≡ verdict_in verdict

abbrev pub explanation_verdict : Explanation → Verdict
explanation_verdict (Faulty fault) = Bad
explanation_verdict (Explained order) = Accepted
explanation_verdict (Stuck stuck) = Bad
explanation_verdict (StuckWithin i j) = Bad
explanation_verdict (Undecided i) = Bad

-- the page has an observed history's text, and what explains it, as its data
pub record IsObservedPage (most : ℕ) (head tail : List ℕ) (h : ObservedHistory) (page : DrawingView) : Type 0 where
  pub found : Explanation
  pub is : IsExplanation h most found
  pub text : page.text ≡ head ++ (observed_data_text h found ++ tail)
  pub says : page.verdict ≡ explanation_verdict found

abbrev pub is_first_entry : Field → Bool
is_first_entry (Entry i) = i == 0
is_first_entry _ = false

-- the first entry is none of a recorded history: so it is with each observed one that has an entry
abbrev pub is_at_first_entry : ReadError → Bool
is_at_first_entry (NotHistory field) = is_first_entry field
is_at_first_entry _ = false

-- the answer to what an input reads as, if that is an observed history
abbrev pub IsObservedAnswer : ℕ → List ℕ → List ℕ → Result ObservedHistory ReadError →
    Result DrawingView ServeFault → Type 0
IsObservedAnswer most head tail (Ok h) (Ok page) = IsObservedPage most head tail h page
IsObservedAnswer most head tail (Ok h) (Err fault) = ⊥
IsObservedAnswer most head tail (Err e) answer = answer ≡ Err (refusal e)

-- the answer to an input that is no recorded history: that of an observed one if the first entry is none, and else
-- what a check of it is refused by
abbrev pub IsOtherAnswer : Bool → ℕ → List ℕ → List ℕ → ReadError → List ℕ → Result DrawingView ServeFault → Type 0
IsOtherAnswer true most head tail e input answer = IsObservedAnswer most head tail (observed_of input) answer
IsOtherAnswer false most head tail e input answer = answer ≡ Err (refusal e)

-- the answer to what an input reads as: a recorded history, or something else
abbrev pub IsPageAnswer : ℕ → List ℕ → List ℕ → Result Recorded ReadError → List ℕ → Result DrawingView ServeFault →
    Type 0
IsPageAnswer most head tail (Ok history) input (Ok page) = IsRecordedPage head tail history page
IsPageAnswer most head tail (Ok history) input (Err fault) = ⊥
IsPageAnswer most head tail (Err e) input answer =
    IsOtherAnswer (is_at_first_entry e) most head tail e input answer

abbrev pub AnswersPage : ℕ → List ℕ → List ℕ → List ℕ → Result DrawingView ServeFault → Type 0
AnswersPage most head tail input answer = IsPageAnswer most head tail (recorded_of input) input answer

-- the answer to an input, or that there was none
abbrev pub AnswersPageInput : ℕ → List ℕ → List ℕ → List ℕ → Result DrawingView PictureFault → Type 0
AnswersPageInput most head tail input (Ok page) =
    (input ≢ []) × IsInputAnswer (AnswersPage most head tail) input (Ok page)
AnswersPageInput most head tail input (Err (Serve fault)) =
    (input ≢ []) × IsInputAnswer (AnswersPage most head tail) input (Err fault)
AnswersPageInput most head tail input (Err NoInput) = input ≡ []
AnswersPageInput most head tail input (Err (TooMany n)) = ⊥

-- a source was read as input, and this is the answer
abbrev pub AnswersPageSource : ℕ → List ℕ → List ℕ → Option (List ℕ) → Option (List ℕ) → ℕ →
    Result DrawingView PictureFault → Type 0
AnswersPageSource most head tail old new taken answer =
    AnswersRead (Reads old new) (AnswersPageInput most head tail) taken answer
