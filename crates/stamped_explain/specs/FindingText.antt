-- The line of what is found of an observed history, and what it says.
use Rattle.std.specs.Prelude.{ℕ, ◌≡◌, List, ◌++◌, codes, decimal, length}
use Rattle.stamp_cli.specs.CheckText.{ok_text}
use Rattle.stamp_cli.specs.declared.line.Verdict.{Verdict}
use Rattle.stamp_cli.specs.declared.line.Verdict.TheVariants.{Accepted, Bad}
use Rattle.stamp_core.specs.Record.{Recorded}
use Rattle.stamp_history.specs.HistoryText.{history_text}
use Rattle.stamp_explain.specs.Observed.{ObservedHistory}
use Rattle.stamp_observed.specs.Small.{IsStuckAs}
use Rattle.stamp_observed.specs.ObservedText.{observed_text}
use Rattle.stamp_observed.specs.declared.judging.ObservedWhy.{ObservedWhy}
use Rattle.stamp_observed.specs.declared.judging.ObservedWhy.TheVariants.{Interval, Overlap}
use Rattle.stamp_observed.specs.declared.judging.ObservedFault.{ObservedFault}
use Rattle.stamped_explain.specs.declared.finding.Finding.{Finding}
use Rattle.stamped_explain.specs.declared.finding.Finding.TheVariants.{Faulty, Explained, Stuck, StuckWithin}
use Rattle.stamped_explain.specs.declared.finding.Finding.TheVariants.{Undecided}
use Rattle.stamped_explain.specs.declared.orders.Explaining.{Explaining}
use Rattle.stamped_explain.specs.declared.orders.Shown.{Shown}
use Rattle.stamped_explain.specs.declared.orders.Shown.TheVariants.{Entry, Small}
use Rattle.stamped_explain.specs.declared.orders.Form.{Form}
use Rattle.stamped_explain.specs.declared.orders.Form.TheVariants.{History, Judgement}

abbrev pub why_text : ObservedWhy → List ℕ
why_text Interval = codes "interval"
why_text Overlap = codes "overlap"

abbrev pub bad_text : ObservedFault → List ℕ
bad_text fault = codes "bad " ++ decimal fault.entry ++ codes " " ++ why_text fault.why

-- a recorded history as its text, or as the line by which a check accepts it
abbrev pub explained_text : Form → Recorded → List ℕ
explained_text History made = history_text made
explained_text Judgement made = ok_text (length made.entries)

abbrev pub stuck_line : ℕ → List ℕ
stuck_line i = codes "stuck " ++ decimal i

abbrev pub undecided_line : ℕ → List ℕ
undecided_line i = codes "undecided " ++ decimal i

-- a history that is stuck as this one is at the return of this entry, as its text
pub record IsTextOfSmall (h : ObservedHistory) (most i : ℕ) (text : List ℕ) : Type 0 where
  pub small : ObservedHistory
  pub stuck : IsStuckAs h most i small
  pub says : text ≡ observed_text small

-- what is written of a history that is stuck at the return of this entry
abbrev pub IsStuckText : Shown → ObservedHistory → ℕ → ℕ → List ℕ → Type 0
IsStuckText Entry h most i text = text ≡ stuck_line i
IsStuckText Small h most i text = IsTextOfSmall h most i text

-- what is written of what is found
abbrev pub IsFindingText : ObservedHistory → Explaining → Finding → List ℕ → Type 0
IsFindingText h asked (Faulty fault) text = text ≡ bad_text fault
IsFindingText h asked (Explained made) text = text ≡ explained_text asked.form made
IsFindingText h asked (Stuck i) text = IsStuckText asked.shown h asked.most i text
IsFindingText h asked (StuckWithin i j) text = text ≡ undecided_line i
IsFindingText h asked (Undecided i) text = text ≡ undecided_line i

abbrev pub finding_verdict : Finding → Verdict
finding_verdict (Faulty fault) = Bad
finding_verdict (Explained made) = Accepted
finding_verdict (Stuck i) = Bad
finding_verdict (StuckWithin i j) = Bad
finding_verdict (Undecided i) = Bad
