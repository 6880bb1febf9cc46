use Rattle.std.proofs.Common.{subst, sym}
use Rattle.std.specs.Prelude.{◌==◌, ◌↔◌, not, IsTrue}
use Rattle.stamp_core.specs.declared.reply.Reply.{Reply}
use Rattle.stamp_check.specs.Migration.{CanRespell}
use Rattle.stamp_check.proofs.RespelledReplies.{told_by_number}
use Rattle.stamp_check.proofs.migration.can_respell.Goals as goal

pub returns-else-stamp-eq0 : goal.returns-else-stamp-eq0
returns-else-stamp-eq0 c =
    subst (λ (r : Reply). IsTrue (not (c.respelling.result == 0)) ↔ CanRespell r) (sym c.in-Stamp.is)
    (told_by_number c.in-Stamp.stamp c.respelling.result c.if-stamp-eq0.false c.respelling.ensures)
