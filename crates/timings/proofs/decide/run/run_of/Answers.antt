use Rattle.std.proofs.Common.{◌+◌, sym, subst}
use Rattle.timings.specs.declared.decide.run.Run.{Run}
use Rattle.timings.proofs.Running.{Running, start, more}
use Rattle.timings.proofs.decide.run.run_of.Goals as goal

pub loop-i-init : goal.loop-i-init
loop-i-init c =
    start c.args.limits c.opening_in.result c.bits.result
    (c.opening_in.ensures.represented c.args.limits (sym c.layout.ensures.layout)) c.bits.ensures.bits

pub loop-i-preserved : goal.loop-i-preserved
loop-i-preserved c =
    subst (λ (run : Run). Running c.args.limits (c.loop-i.i + 1) run) (sym c.taken-run.ensures)
    (more c.args.limits c.loop-i.i c.loop-i.run c.word-word.result c.call_at-call.result c.decide.result
    c.loop-i.invariant
    c.call_at-call.ensures.call c.word-word.ensures c.decide.ensures.number c.decide.ensures.decides)
