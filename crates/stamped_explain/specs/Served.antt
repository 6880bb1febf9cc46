-- How the program serves an order.
use Rattle.std.specs.Prelude.{ℕ, ◌≡◌, List, None, Result}
use Rattle.stamp_cli.specs.Shell.{EndsView, HasHelped, HasServed}
use Rattle.stamp_cli.specs.Source.{most_reads, most_taken}
use Rattle.stamp_cli.specs.declared.faults.ServeFault.TheVariants.{Memory, ReadFault, WriteFault}
use Rattle.stamp_cli.specs.declared.shell.Answered as shell
use Rattle.stamped_explain.specs.declared.faults.ExplainFault.{ExplainFault}
use Rattle.stamped_explain.specs.declared.faults.ExplainFault.TheVariants.{Serve}
use Rattle.stamped_explain.specs.declared.orders.ExplainOrder.{ExplainOrder}
use Rattle.stamped_explain.specs.declared.orders.ExplainOrder.TheVariants.{Help, Explain}
use Rattle.stamped_explain.specs.Answer.{LineAndNoteView, AnswersSource, line_with_feed}

-- what was answered is the verdict of this line, and the note beside it
pub record IsAnsweredBy (answer : LineAndNoteView) (answered : shell.Answered) : Type 0 where
  pub verdict : answered.verdict ≡ answer.line.verdict
  pub note : answered.note ≡ answer.note
  pub not_lacking : answered.no_witness ≡ None

-- it tells how it is called by this text; an explanation is served as its answer says
abbrev pub IsServed : List ℕ → ExplainOrder → EndsView → EndsView → Result shell.Answered ExplainFault → Type 0
IsServed help Help old new result = HasHelped (Serve WriteFault) help old new result
IsServed help (Explain asked) old new result = HasServed (Serve ReadFault) (Serve WriteFault) (Serve Memory)
    (AnswersSource asked) IsAnsweredBy line_with_feed most_reads most_taken old new result
