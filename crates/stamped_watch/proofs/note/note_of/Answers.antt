use Rattle.std.proofs.Common.{Some, sym, subst}
use Rattle.std.specs.Prelude.{Ok}
use Rattle.stamped_watch.specs.declared.finding.Finding.{Finding}
use Rattle.stamped_watch.specs.Note.{IsNote}
use Rattle.stamped_watch.specs.StreamJudge.{EndsInStream}
use Rattle.stamped_watch.proofs.note.note_of.Goals as goal

pub returns-in_ok-stuck_note-in-Stuck : goal.returns-in_ok-stuck_note-in-Stuck
returns-in_ok-stuck_note-in-Stuck c fed keeps ends =
    subst (λ (f : Finding). IsNote c.args.asked fed f (Ok (Some c.in_ok-stuck_note-in-Stuck.field-0)))
    (sym c.in-Stuck.is)
    (c.in_ok-stuck_note-in-Stuck.ensures c.args.asked.most c.args.asked.ahead fed keeps
    (subst (λ (f : Finding). EndsInStream fed c.args.judge.now.judge f) c.in-Stuck.is ends))
