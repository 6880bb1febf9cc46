use Rattle.std.proofs.Common.{◌<◌, rules, inl, inr}
use Rattle.stamp_core.specs.declared.call.Call.TheVariants.{Validate}
use Rattle.stamp_core.specs.declared.reply.Reply.TheVariants.{Yes}
use Rattle.stamped_lock.specs.Made.{Made}
use Rattle.stamped_lock.proofs.Validating.{unwritten}
use Rattle.stamped_lock.proofs.handle.LockHandle.read_lent.Goals as goal

pub returns-in_default : goal.returns-in_default
returns-in_default g c = inr (c.try_optimistic_read.new.self, inl (search rules), c.read_with_lent.ensures)

pub returns : goal.returns
returns g c = inr (
  c.validate-valid.new.self,
  inr (c.in-Some.stamp, c.try_optimistic_read.new.self, search rules, search rules),
  c.read_with_lent-2.ensures,
)

pub returns-then-valid : goal.returns-then-valid
returns-then-valid g c =
    let before = c.try_optimistic_read.new.self in
    let after = c.validate-valid.new.self in
    let some : 0 < c.in-Some.stamp = search rules in
    let valid : Made (Validate c.in-Some.stamp) Yes before after = search rules in
    inl (record {
      read = record {
        stamp = c.in-Some.stamp;
        some = some;
        between = before;
        began = c.in-Some.ensures.made;
        ran = search rules;
        ended = valid;
      };
      unwritten = unwritten c.in-Some.stamp c.args.self.now before after some c.in-Some.ensures.made valid;
    })
