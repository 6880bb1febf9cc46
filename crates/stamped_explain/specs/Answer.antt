-- The line that answers an observed history, with the note beside it, or why there is none.
use Rattle.std.specs.Prelude.{◌≡◌, ◌≢◌, ℕ, List, [], Option, Result, Ok, Err, String}
use Rattle.std.specs.declared.alloc.AllocError.{AllocError}
use Rattle.std.specs.declared.alloc.Global.{Global}
use Rattle.stamp_cli.specs.Answer.{LineView, IsInputAnswer, AnswersRead, line_in, with_line_feed}
use Rattle.stamp_cli.specs.Refusal.{refusal}
use Rattle.stamp_cli.specs.Source.{Reads}
use Rattle.stamp_cli.specs.declared.faults.ServeFault.{ServeFault}
use Rattle.stamp_explain.specs.Observed.{ObservedHistory}
use Rattle.stamp_history.specs.declared.read_error.ReadError.{ReadError}
use Rattle.stamp_observed.specs.ObservedReading.{observed_of}
use Rattle.stamped_explain.specs.declared.orders.Explaining.{Explaining}
use Rattle.stamped_explain.specs.declared.faults.ExplainFault.{ExplainFault}
use Rattle.stamped_explain.specs.declared.faults.ExplainFault.TheVariants.{Serve, NoInput}
use Rattle.stamped_explain.specs.declared.finding.Finding.{Finding}
use Rattle.stamped_explain.specs.Finding.{IsFinding}
use Rattle.stamped_explain.specs.FindingText.{IsFindingText, finding_verdict}
use Rattle.stamped_explain.specs.Note.{IsNote}
use Rattle.stamped_explain.specs.declared.answer.LineAndNote as made
use Rattle.stamped_explain.specs.declared.answer.VerdictAndNote.{VerdictAndNote}

-- a line and the note beside it, as contracts see them
pub record LineAndNoteView : Type 0 where
  pub line : LineView
  pub note : Result (Option (String Global)) AllocError

abbrev pub view_in : made.LineAndNote → LineAndNoteView
view_in answer = record { line = line_in answer.line; note = answer.note }

-- the line as it is written
abbrev pub line_with_feed : LineAndNoteView → List ℕ
line_with_feed answer = with_line_feed answer.line

abbrev pub AreVerdictAndNoteOf : LineAndNoteView → VerdictAndNote → Type 0
AreVerdictAndNoteOf answer told = (told.verdict ≡ answer.line.verdict) × (told.note ≡ answer.note)

-- this is found of an observed history, it is written so, and this is the note
pub record SaysWhatIsFound (h : ObservedHistory) (asked : Explaining) (answer : LineAndNoteView) : Type 0 where
  pub found : Finding
  pub is : IsFinding h asked.most found
  pub says : IsFindingText h asked found answer.line.text
  pub verdict : answer.line.verdict ≡ finding_verdict found
  pub note : IsNote h asked found answer.note

-- the answer to what an input reads as
abbrev pub IsExplainAnswer : Explaining → Result ObservedHistory ReadError → Result LineAndNoteView ServeFault →
    Type 0
IsExplainAnswer asked (Ok h) (Ok answer) = SaysWhatIsFound h asked answer
IsExplainAnswer asked (Ok h) (Err fault) = ⊥
IsExplainAnswer asked (Err e) answer = answer ≡ Err (refusal e)

-- without the line feed
abbrev pub AnswersExplain : Explaining → List ℕ → Result LineAndNoteView ServeFault → Type 0
AnswersExplain asked input answer = IsExplainAnswer asked (observed_of input) answer

-- the answer to an input, or that there was none
abbrev pub AnswersInput : Explaining → List ℕ → Result LineAndNoteView ExplainFault → Type 0
AnswersInput asked input (Ok answer) = (input ≢ []) × IsInputAnswer (AnswersExplain asked) input (Ok answer)
AnswersInput asked input (Err (Serve fault)) = (input ≢ []) × IsInputAnswer (AnswersExplain asked) input (Err fault)
AnswersInput asked input (Err NoInput) = input ≡ []

-- a source was read as input, and this is the answer
abbrev pub AnswersSource : Explaining → Option (List ℕ) → Option (List ℕ) → ℕ → Result LineAndNoteView ExplainFault →
    Type 0
AnswersSource asked old new taken answer = AnswersRead (Reads old new) (AnswersInput asked) taken answer
