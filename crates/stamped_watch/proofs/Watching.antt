-- What is served by the shell of the program is what was judged.
use Rattle.std.proofs.Common.{◌≡◌, Ok}
use Rattle.std.specs.Prelude.{Result}
use Rattle.stamp_cli.specs.Serving.{HasWritten, WritesAnswer}
use Rattle.stamp_cli.specs.Shell.{ProgramView}
use Rattle.stamp_cli.specs.declared.faults.ServeFault.{ServeFault}
use Rattle.stamp_cli.specs.declared.faults.ServeFault.TheVariants.{ReadFault, WriteFault}
use Rattle.stamp_cli.specs.declared.shell.Answered.{Answered}
use Rattle.stamped_watch.specs.declared.finding.Finding.{Finding}
use Rattle.stamped_watch.specs.declared.orders.Watching.{Watching}
use Rattle.stamped_watch.specs.declared.serving.Watched.{Watched}
use Rattle.stamped_watch.specs.Progress.{HasTold}
use Rattle.stamped_watch.specs.Served.{AnswersStream, HasReadOn, HasWatched, IsAnsweredBy, line_of}
use Rattle.stamped_watch.specs.Witness.{lack_of}
use Rattle.stamped_watch.proofs.LinesTold.{told_of_answer}

module _ (asked : Watching) (old new : ProgramView) where
  abbrev Answers : Result Finding ServeFault → Type 0
  Answers = AnswersStream asked old.ends.left new.ends.left old.ends.reads new.ends.reads

  abbrev IsOf : Finding → Watched → Type 0
  IsOf finding watched = IsAnsweredBy asked old.ends.left new.ends.left old.ends.reads new.ends.reads old.witness
      new.witness finding watched

  abbrev Reads : {A : Type 0} → Result A ServeFault → Type 0
  Reads {A} result = HasReadOn {A = A} ReadFault old.ends.left new.ends.left old.ends.reads new.ends.reads result

  abbrev Writes : {A : Type 0} → Result A ServeFault → Type 0
  Writes {A} result =
      HasWritten {A = A} WriteFault old.ends.sent new.ends.sent old.ends.writes new.ends.writes result

  abbrev Tells : {A : Type 0} → Result A ServeFault → Type 0
  Tells {A} result = HasTold {A = A} asked old.ends.left new.ends.left old.ends.reads new.ends.reads
      old.told.sent new.told.sent old.told.writes new.told.writes result

  pub of_ok : (watched : Watched) (answered : Answered) → Reads (Ok watched) →
      WritesAnswer Answers IsOf line_of old.ends.sent new.ends.sent old.ends.writes new.ends.writes (Ok watched) →
      Writes (Ok watched) → Tells (Ok watched) → answered.verdict ≡ watched.verdict → answered.note ≡ watched.note →
      answered.no_witness ≡ lack_of watched.shown → HasWatched asked old new (Ok answered)
  of_ok watched answered reads ok writes told verdict note lack = record {
    reads = record {
      made = reads.made;
      added = reads.added;
      to_end = reads.to_end;
      bytes = reads.bytes;
      took = reads.took;
      count = reads.count;
      failed = ((λ same. absurd (cc)), (λ any. let not = reads.failed.1 any in absurd (cc)));
    };
    ok = (
      ok.0,
      ok.1,
      record { watched = watched; of_it = ok.2; verdict = verdict; note = note; lack = lack },
      ok.3,
      ok.4,
    );
    refused = tt;
    writes = record {
      failed = ((λ same. absurd (cc)), (λ any. let not = writes.failed.1 any in absurd (cc)));
      silent = tt;
    };
    front = λ same. absurd (cc);
    told = told_of_answer asked _ _ _ _ _ _ _ _ watched answered told;
    silent = tt;
  }
