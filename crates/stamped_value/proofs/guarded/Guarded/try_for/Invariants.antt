use Rattle.std.proofs.Common.{◌≡◌}
use Rattle.stamp_core.specs.declared.reply.Reply.TheVariants.{Stamp}
use Rattle.stamped_value.specs.Stands.{Stands}
use Rattle.stamped_value.specs.Timed.{TriedAtLast}
use Rattle.stamped_value.specs.inner.ValueLock.{token}
use Rattle.stamped_value.proofs.guarded.Guarded.try_for.Given as goal

-- each call so far was answered 0
abbrev pub invariant-loop : goal.invariant-loop
invariant-loop g l = record {
  table : l.seat.table_id ≡ l.self.table;
  stands : Stands l.self.limits l.seat.me;
  tried : TriedAtLast l.fn.call (Stamp 0) (token l.self l.fn.seat.me) (token l.self l.seat.me);
}
