use Rattle.std.proofs.Common.{◌<◌, rules, inl}
use Rattle.stamp_core.specs.declared.call.Call.TheVariants.{Validate}
use Rattle.stamp_core.specs.declared.reply.Reply.TheVariants.{Yes}
use Rattle.stamped_lock.specs.Made.{Made}
use Rattle.stamped_lock.proofs.Validating.{unwritten}
use Rattle.stamped_lock.proofs.handle.LockHandle.read_optimistically_mut.Goals as goal

pub returns-then-unwritten : goal.returns-then-unwritten
returns-then-unwritten g c =
    let before = c.try_optimistic_read.new.self in
    let after = c.validate-unwritten.new.self in
    let some : 0 < c.in-Some.stamp = search rules in
    let valid : Made (Validate c.in-Some.stamp) Yes before after = search rules in
    inl (record {
      read = record {
        stamp = c.in-Some.stamp;
        some = some;
        between = before;
        began = c.in-Some.ensures.made;
        ran = search rules;
        ended = valid;
      };
      unwritten = unwritten c.in-Some.stamp c.args.self.now before after some c.in-Some.ensures.made valid;
    })
