use Rattle.std.proofs.Common.{arith}
use Rattle.stamp_sets.proofs.open_call.OpenCall.is_ahead.Goals as goal

pub returns : goal.returns
returns c does = record {
  reply = c.in-Returns.reply;
  answer = c.in-Returns-ends.answer;
  place = c.in-Returns.place;
  later = c.in-Returns-ends.later;
  first_is = c.in-Returns.is;
  other_is = c.in-Returns-ends.is;
  sooner = omega (arith, c.if-place-later.false);
  same = c.is_same_reply.ensures.0 c.if-not-is_same_reply.false;
  alike = c.does_same.ensures does;
}
