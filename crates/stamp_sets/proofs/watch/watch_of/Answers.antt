use Rattle.std.proofs.Common.{ap, ◌∙◌}
use Rattle.std.specs.Prelude.{option_map}
use Rattle.stamp_sets.proofs.Pairing.{asked}
use Rattle.stamp_sets.proofs.Traces.{new_trace}
use Rattle.stamp_sets.proofs.watch.watch_of.Goals as goal

pub returns-clause-watching : goal.returns-clause-watching
returns-clause-watching c = record {
  form = tt;
  lock_is = c.in_ok-lock.ensures.object;
  record_is = c.in_ok-record.ensures.object;
  lock = record {
    keeps = c.in_ok-lock.ensures.keeps;
    opens = λ lane. ap (option_map asked) (c.in_ok-lock.ensures.idle lane);
  };
  «record» = record {
    keeps = c.in_ok-record.ensures.keeps;
    opens = λ lane. ap (option_map asked) (c.in_ok-record.ensures.idle lane);
  };
}

pub returns-clause-traced : goal.returns-clause-traced
returns-clause-traced c is = record {
  watching = returns-clause-watching c;
  lock = record {
    keeps = new_trace c.in_ok-lock.lock c.new-3.result c.in_ok-lock.ensures.new (c.new-3.ensures.on ∙ is)
        c.new-3.ensures.none;
    numbers = c.new-3.ensures.nothing;
  };
  «record» = record {
    keeps = new_trace c.in_ok-record.record c.new-4.result c.in_ok-record.ensures.new (c.new-4.ensures.on ∙ is)
        c.new-4.ensures.none;
    numbers = c.new-4.ensures.nothing;
  };
}
