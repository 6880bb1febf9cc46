use Rattle.std.proofs.Common.{◌∙◌, sym}
use Rattle.stamp_picture.proofs.Tracking.{goes_on, waits, leaves}
use Rattle.stamp_picture.proofs.track.Track.advance.Goals as goal

pub returns-in-Some : goal.returns-in-Some
returns-in-Some c = goes_on c.args.limits c.args.entry.now c.args.self.now _ c.next_content-self.result
    (λ events now. (c.in-Some.ensures.after events now).0) c.next_content-self.ensures

pub returns-in_default : goal.returns-in_default
returns-in_default c =
    goes_on c.args.limits c.args.entry.now c.args.self.now c.args.self.now.word c.next_content-self.result
    (λ events now. waits c.args.limits c.args.entry.now.call c.args.self.now.word events now
    (c.in_default.ensures.after events now)) c.next_content-self.ensures

pub returns-else-is_lock_call : goal.returns-else-is_lock_call
returns-else-is_lock_call c =
    goes_on c.args.limits c.args.entry.now c.args.self.now c.args.self.now.word c.next_content-self.result
    (λ events now. leaves c.args.limits c.args.entry.now.call c.args.self.now.word events
    (sym c.is_lock_call.ensures ∙ c.if-is_lock_call.false) now) c.next_content-self.ensures
