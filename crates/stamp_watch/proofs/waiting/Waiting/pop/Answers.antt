use Rattle.std.proofs.Common.{◌≡◌, ◌+◌, ◌-◌, ◌∙◌, ap, arith, ℕ, get_or, set}
use Rattle.stamp_runs.specs.Run.{lane_of}
use Rattle.stamp_watch.specs.Waiting.{count_of}
use Rattle.stamp_watch.proofs.CountingWaiting.{counted_pop, first_counted}
use Rattle.stamp_watch.proofs.waiting.Waiting.pop.Goals as goal

pub returns-clause-counted : goal.returns-clause-counted
returns-clause-counted c = counted_pop c.args.self.now _ c.in-Some.event c.requires.counted c.in-Some.ensures.items
    (ap (λ (n : ℕ). set c.args.self.now.counts n (get_or c.args.self.now.counts n 0 - 1)) c.lane_of-lane.ensures ∙
    ap (λ (n : ℕ). set c.args.self.now.counts (lane_of c.in-Some.event) n)
    (let counted : get_or c.args.self.now.counts (lane_of c.in-Some.event) 0 ≡
    count_of (lane_of c.in-Some.event) c.pop_front.new.self.items + 1 = first_counted c.args.self.now c.in-Some.event
    c.pop_front.new.self.items 0 c.requires.counted c.in-Some.ensures.items in omega (arith, counted)))
