use Rattle.std.proofs.Common.{◌∙◌, ap, sym}
use Rattle.stamp_sets.specs.SmallCall.{reply_of}
use Rattle.stamp_sets.proofs.watch.Watch.returns.Goals as goal

pub returns-clause-told : goal.returns-clause-told
returns-clause-told c taken = record {
  was = record {
    begun = c.in-Some.begun;
    told = c.in-Returns.told;
    place = c.in-Returns.place;
    is_open = sym c.open_call.ensures ∙ c.in-Some.is;
    ends = c.in-Returns.is;
    same = ap reply_of (c.is_same_reply.ensures.0 c.if-not-is_same_reply.false);
    due = c.if-place-self.false;
  };
  opens = (c.in_ok-take_returned.ensures.goes c.if-not-branch.false c.in-Returns.told c.in-Returns.place
      c.in-Returns.is c.if-place-self.false).opens;
  last = (c.in_ok-take_returned.ensures.goes c.if-not-branch.false c.in-Returns.told c.in-Returns.place
      c.in-Returns.is c.if-place-self.false).last;
  limits = (c.in_ok-take_returned.ensures.goes c.if-not-branch.false c.in-Returns.told c.in-Returns.place
      c.in-Returns.is c.if-place-self.false).limits;
}
