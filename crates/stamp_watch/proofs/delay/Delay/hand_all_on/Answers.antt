use Rattle.std.proofs.Common.{arith, ◌∙◌}
use Rattle.stamp_watch.proofs.Delaying.{ready_still}
use Rattle.stamp_watch.proofs.delay.Delay.hand_all_on.Goals as goal

pub hand_on-requires-clause-ready : goal.hand_on-requires-clause-ready
hand_on-requires-clause-ready c = ready_still c.args.self.now c.waiting.self c.requires.ready
    c.waiting.invariant.delayed c.waiting.invariant.going

pub returns-in-Waits-clause-delayed : goal.returns-in-Waits-clause-delayed
returns-in-Waits-clause-delayed c limits most ahead run is = c.in_ok-handed.ensures.delayed limits most ahead run
    (c.waiting.invariant.delayed limits most ahead run is)

pub returns-in-Finds-clause-delayed : goal.returns-in-Finds-clause-delayed
returns-in-Finds-clause-delayed c limits most ahead run is = c.in_ok-handed.ensures.delayed limits most ahead run
    (c.waiting.invariant.delayed limits most ahead run is)

pub waiting-preserved : goal.waiting-preserved
waiting-preserved c =
    let handed = rw c.in-Passes.is at c.in_ok-handed.ensures.handed in
    let told = rw c.in-Passes.is at c.in_ok-handed.ensures.told in
    record {
      delayed = λ limits most ahead run is. c.in_ok-handed.ensures.delayed limits most ahead run
          (c.waiting.invariant.delayed limits most ahead run is);
      going = told;
      long = handed.0.long ∙ c.waiting.invariant.long;
      ahead = handed.0.ahead ∙ c.waiting.invariant.ahead;
      few = omega (arith, handed.1, c.waiting.invariant.few);
    }
