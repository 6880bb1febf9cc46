use Rattle.std.proofs.Common.{take, refl}
use Rattle.stamp_check.proofs.EntryByEntry.{entry_suits, found}
use Rattle.stamp_check.proofs.checking.check.Goals as goal

pub returns-in-Some : goal.returns-in-Some
returns-in-Some c =
    let r = c.args.history.now in
    let entries = c.entries-entries.result.now in
    let i = c.loop-i.i in
    let suits = entry_suits r entries i c.index-entries-i.result c.entries-entries.ensures.entries
    c.loop-i-test.true c.index-entries-i.is c.entries-entries.ensures.known in
    found r c.limits-limits.result r.width entries i c.index-entries-i.result c.in-Some.why
    c.limits-limits.ensures refl c.entries-entries.ensures.entries c.loop-i-test.true c.index-entries-i.is
    c.loop-i.invariant.linearized
    (c.in-Some.ensures.behind r.width (take i entries) c.loop-i.invariant suits)
