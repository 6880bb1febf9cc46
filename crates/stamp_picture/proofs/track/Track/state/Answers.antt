use Rattle.stamp_picture.proofs.Tracking.{shows}
use Rattle.stamp_picture.proofs.track.Track.state.Goals as goal

pub returns : goal.returns
returns c = shows c.args.limits c.args.width c.args.self.now c.mode_in.result c.writes.result c.content_shown.result
    c.mode_in.ensures c.writes.ensures c.content_shown.ensures
