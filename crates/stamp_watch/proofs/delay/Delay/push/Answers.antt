use Rattle.std.proofs.Common.{◌∷◌, ◌++◌, ◌∙◌, ℕ, List, [], refl}
use Rattle.std.proofs.lemmas.Result.{IfOk-weaker}
use Rattle.stamp_core.specs.Limits.{Bounds}
use Rattle.stamp_runs.specs.declared.event.Event.{Event}
use Rattle.stamp_watch.specs.Delay.{IsDelayed}
use Rattle.stamp_watch.specs.Verdict.{AreOfLanes}
use Rattle.stamp_watch.proofs.Delaying.{delayed_waits, ready_then}
use Rattle.stamp_watch.proofs.delay.Delay.push.Goals as goal
use Rattle.stamp_watch.proofs.delay.Delay.push.Goals.{In_ok-push}

-- one more event waits
pub delayed_here : (c : In_ok-push) (limits : Bounds) (most ahead : ℕ) (run : List Event) →
    IsDelayed limits most ahead run c.args.self.now → AreOfLanes (run ++ c.args.event.now ∷ []) →
    IsDelayed limits most ahead (run ++ c.args.event.now ∷ []) (record {
      alloc = c.begin_aside.new.self.alloc;
      limits = c.begin_aside.new.self.limits;
      judge = c.begin_aside.new.self.judge;
      ahead = c.begin_aside.new.self.ahead;
      waiting = c.push.new.self;
      aside = c.begin_aside.new.self.aside;
      passed = c.begin_aside.new.self.passed;
      first_late = c.begin_aside.new.self.first_late;
      shown = c.begin_aside.new.self.shown;
    })
delayed_here c limits most ahead run is whole = delayed_waits limits most ahead run c.begin_aside.new.self
    c.args.event.now (c.in_ok-begun.ensures.begun limits most ahead run is whole) whole c.in_ok-begun.ensures.spared _
    refl refl refl c.in_ok-push.ensures.counted c.in_ok-push.ensures.items refl refl refl refl

pub hand_all_on-requires-clause-ready : goal.hand_all_on-requires-clause-ready
hand_all_on-requires-clause-ready c = ready_then c.args.self.now _ c.args.event.now c.requires.ready
    (delayed_here ((goal.at.hand_all_on-requires-clause-ready c).In_ok-push))
    (c.in_ok-begun.ensures.told ∙ c.in-None.is)

pub returns-in-Some-clause-delayed : goal.returns-in-Some-clause-delayed
returns-in-Some-clause-delayed c = delayed_here ((goal.at.returns-in-Some-clause-delayed c).In_ok-push)

pub returns-in-None-clause-delayed : goal.returns-in-None-clause-delayed
returns-in-None-clause-delayed c = IfOk-weaker c.hand_all_on.result _ _ (λ found goes limits most ahead run is whole.
    goes limits most ahead (run ++ c.args.event.now ∷ [])
    (delayed_here ((goal.at.returns-in-None-clause-delayed c).In_ok-push) limits most ahead run is whole))
    c.hand_all_on.ensures.delayed
