use Rattle.stamp_explain.specs.Explained.{IsExplained}
use Rattle.stamped_picture.proofs.Until.{gives_no_order}
use Rattle.stamped_picture.proofs.explanation.order_until.Goals as goal
use Rattle.stamped_picture.proofs.explanation.order_until.Goals.{In_ok-seen}

explained : (c : In_ok-seen) → IsExplained c.in_ok-seen.seen
explained c = c.requires.explained c.in_ok-seen.seen c.in_ok-seen.ensures.seen

pub returns-in-Ok : goal.returns-in-Ok
returns-in-Ok c = record {
  seen = c.in_ok-seen.seen;
  is_seen = c.in_ok-seen.ensures.seen;
  is = c.in-Ok.ensures;
}

pub returns : goal.returns
returns c = record {
  seen = c.in_ok-seen.seen;
  is_seen = c.in_ok-seen.ensures.seen;
  is = gives_no_order c.in-Err.refused (explained (goal.at.returns c).In_ok-seen) c.in_default.not-Memory
      c.in-Err.ensures;
}
