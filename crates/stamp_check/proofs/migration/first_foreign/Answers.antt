use Rattle.std.proofs.Common.{subst}
use Rattle.std.proofs.lemmas.List.{take_all}
use Rattle.std.proofs.lemmas.List.Elements.{All-more}
use Rattle.stamp_core.specs.declared.entry.Entry.{Entry}
use Rattle.stamp_check.specs.Migration.{CanRespell, AllCanRespell}
use Rattle.stamp_check.proofs.migration.first_foreign.Goals as goal

pub loop-i-preserved : goal.loop-i-preserved
loop-i-preserved c =
    All-more (λ (e : Entry). CanRespell e.reply) c.args.entries.now c.loop-i.i c.index-entries-i.result
    c.loop-i-test.true c.loop-i.invariant
    (subst (λ (e : Entry). CanRespell e.reply) c.index-entries-i.is
    (c.can_respell.ensures.0 c.if-not-can_respell.false))

pub returns : goal.returns
returns c = subst AllCanRespell (take_all c.loop-i.i c.args.entries.now c.loop-i-test.false) c.loop-i.invariant
