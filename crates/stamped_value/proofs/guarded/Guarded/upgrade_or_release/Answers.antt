use Rattle.std.proofs.Common.{ap, ◌∙◌, arith}
use Rattle.stamp_core.specs.LockDecision.{reply_as}
use Rattle.stamp_core.specs.declared.reply.Reply.TheVariants.{Stamp}
use Rattle.stamped_value.specs.inner.ValueLock.{token}
use Rattle.stamped_value.proofs.Outcomes.{upgraded, released_read}
use Rattle.stamped_value.proofs.Tokens.{calls_by}
use Rattle.stamped_value.proofs.guarded.Guarded.upgrade_or_release.Goals as goal

pub returns-then-writing-ne0-clause-upgraded : goal.returns-then-writing-ne0-clause-upgraded
returns-then-writing-ne0-clause-upgraded g c =
    let is = ap reply_as c.in-Stamp.is in
    let now = (upgraded _ c.call.ensures.in_range _ _ _ _ is _ c.requires.seated.holds c.call.ensures.made).0
    (omega arith) in (
      record { table = c.call.ensures.table; stands = c.call.ensures.stands; holds = now.0.0 },
      calls_by _ _ _ _ _ c.call.ensures.made c.call.ensures.machine _ is,
      now.0.1,
      now.1,
    )

pub release_read-requires-clause-held : goal.release_read-requires-clause-held
release_read-requires-clause-held g c =
    let is = ap reply_as c.in-Stamp.is in
    let now = (upgraded _ c.call.ensures.in_range _ _ _ _ is _ c.requires.seated.holds c.call.ensures.made).1
    c.if-writing-ne0.false in now.0 ∙ c.requires.seated.holds

pub returns-clause-released : goal.returns-clause-released
returns-clause-released g c none =
    let is = ap reply_as c.in-Stamp.is in
    let now = (upgraded _ c.call.ensures.in_range _ _ _ _ is _ c.requires.seated.holds c.call.ensures.made).1
    c.if-writing-ne0.false in
    let released = released_read _ c.release_read.ensures.in_range _ _ _ _ (now.0 ∙ c.requires.seated.holds)
    c.release_read.ensures.made in (
      record { table = c.release_read.ensures.table; stands = c.release_read.ensures.stands; holds = released.1 },
      record {
        refused = token c.args.self.now c.call.new.seat.me;
        asked = calls_by _ _ _ _ _ c.call.ensures.made c.call.ensures.machine _ (is ∙ ap Stamp c.if-writing-ne0.false);
        released = calls_by _ _ _ _ _ c.release_read.ensures.made c.release_read.ensures.machine _ released.0;
      },
    )
