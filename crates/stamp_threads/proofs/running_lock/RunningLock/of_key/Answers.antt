use Rattle.std.proofs.Common.{sym}
use Rattle.stamp_threads.proofs.NewLock.{lock_opens, opening_number}
use Rattle.stamp_threads.proofs.running_lock.RunningLock.of_key.Goals as goal

pub of_words-requires : goal.of_words-requires
of_words-requires c = lock_opens c.args.key.limits _
    (opening_number c.args.key.limits c.opening_in.result _
    (c.opening_in.ensures.represented c.args.key.limits (sym c.layout.ensures.layout))
    c.bits-opening.ensures.bits)
