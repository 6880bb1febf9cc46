use Rattle.std.proofs.Common.{Option, subst, sym}
use Rattle.std.specs.Prelude.{IfSome}
use Rattle.stamp_watch.specs.declared.ended_call.EndedCall.{EndedCall}
use Rattle.stamp_watch.specs.EndedCall.{IsEndedAt}
use Rattle.stamp_watch.proofs.EndedAt.{kept_ended}
use Rattle.stamp_watch.proofs.online.Judge.ended_at.Goals as goal

pub returns-clause-call : goal.returns-clause-call
returns-clause-call c limits run keeps =
    subst (λ (o : Option EndedCall). IfSome o (λ (call : EndedCall). IsEndedAt run c.args.number call))
    (sym c.kept_end.ensures) (kept_ended limits run c.args.self.now.course c.args.number keeps)
