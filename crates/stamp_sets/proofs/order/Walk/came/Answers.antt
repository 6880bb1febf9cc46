use Rattle.std.proofs.Common.{refl}
use Rattle.std.proofs.lemmas.Result.{on_ok_weaker}
use Rattle.stamp_sets.proofs.ReadingBack.{back_freed, back_hid, back_took}
use Rattle.stamp_sets.proofs.order.Walk.came.Goals as goal

pub returns-in-Takes : goal.returns-in-Takes
returns-in-Takes c = on_ok_weaker c.push_turns.result (λ pushed older order walks. back_took older order
    c.args.self.now _ c.args.link.now walks (c.is_same.ensures.0 c.if-not-is_same.false) refl refl c.in-Takes.is refl
    pushed) c.push_turns.ensures

pub returns-in-Frees : goal.returns-in-Frees
returns-in-Frees c = on_ok_weaker c.freed.result (λ freed older order walks. back_freed older order c.args.self.now
    c.freed.new.self c.args.link.now walks (c.is_same.ensures.0 c.if-not-is_same.false) freed.position freed.point
    c.in-Frees.is freed.none freed.out) c.freed.ensures

pub returns-in-Hides : goal.returns-in-Hides
returns-in-Hides c = on_ok_weaker c.push_turns-in-Hides.result (λ pushed older order walks. back_hid older order
    c.args.self.now _ c.args.link.now walks (c.is_same.ensures.0 c.if-not-is_same.false) refl refl c.in-Hides.is refl
    pushed) c.push_turns-in-Hides.ensures
