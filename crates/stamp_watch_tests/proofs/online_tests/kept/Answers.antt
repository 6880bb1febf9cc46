use Rattle.stamp_watch_tests.proofs.online_tests.kept.Goals as goal

pub loop-event-preserved : goal.loop-event-preserved
loop-event-preserved c = (c.in_ok-push.ensures.known, c.in_ok-push.ensures.keeping c.loop-event.invariant.1)
