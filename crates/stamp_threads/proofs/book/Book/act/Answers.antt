use Rattle.std.proofs.Common.{◌≡◌, ◌<◌, length, arith}
use Rattle.std.proofs.lemmas.Grind.{common_steps}
use Rattle.stamp_threads.proofs.OneCallMore.{admitted, kept_more}
use Rattle.stamp_threads.proofs.book.Book.act.Goals as goal

pub transition-requires-clause-admitted : goal.transition-requires-clause-admitted
transition-requires-clause-admitted c = admitted _ _ c.self.invariant

pub invariant_of-self-2 : goal.invariant_of-self-2
invariant_of-self-2 c =
    let book = c.self.invariant.book.room in
    let here : c.len-at.result ≡ length c.self.inside.entries.items = grind (arith, common_steps) in
    let room : length c.self.inside.entries.items < c.self.inside.most =
    grind (arith, common_steps) in
    rw (c.in_ok-push.ensures.items, c.entry_at.ensures, here)
    (kept_more _ c.args.thread c.args.call c.self.invariant.book c.requires.lock_call
    c.self.inside.word _ c.requires.thread room c.self.invariant.represented c.in-Some.ensures)
