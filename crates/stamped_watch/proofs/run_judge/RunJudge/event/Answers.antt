use Rattle.std.proofs.Common.{ℕ, ◌≡◌, ◌<◌, ◌∙◌, ap, subst, sym}
use Rattle.stamp_runs.specs.Run.{lane_of}
use Rattle.stamp_runs.specs.Names.{EachOfEvent}
use Rattle.stamp_watch.specs.Names.{IsByNumber, IsWide, width_of}
use Rattle.stamp_watch.proofs.Named.{width_is}
use Rattle.stamped_watch.specs.EventBytes.{lane_in}
use Rattle.stamped_watch.specs.Stream.{words_of_record}
use Rattle.stamped_watch.proofs.Streaming.{first_of}
use Rattle.stamped_watch.proofs.run_judge.RunJudge.event.Goals as goal

pub unreachable-requires : goal.unreachable-requires
unreachable-requires c =
    let has = c.event_behind-event.ensures in
    let lane : lane_of c.event_behind-event.result ≡ lane_in c.args.front.now =
    has.front.lane ∙ ap lane_in (first_of 16 c.args.front.now c.args.behind.now c.told-front) in
    let width : width_of c.args.self.now.names ≡ c.args.width =
    width_is (words_of_record c.args.self.now.width) c.args.self.now.names c.requires.contents ∙
    ap words_of_record c.requires.front.0 in
    (subst (IsByNumber c.args.self.now.names c.event.new.self c.event_behind-event.result) c.in-None.is
    c.in_ok-event.ensures.event) (
      subst (λ (n : ℕ). n < 256) (sym lane) (c.fits-front 1),
      subst (λ (n : ℕ). EachOfEvent (IsWide n) c.event_behind-event.result) (sym width) has.front.fits,
    )
