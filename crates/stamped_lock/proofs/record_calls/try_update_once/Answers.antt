use Rattle.std.proofs.Common.{refl}
use Rattle.std.specs.Fn.{FnReturnsAt}
use Rattle.stamped_lock.proofs.Tries.{put_over, seen_now, try_refused}
use Rattle.stamped_lock.proofs.record_calls.try_update_once.Goals as goal

pub f-requires : goal.f-requires
f-requires g c = c.requires.callable _ _ c.in_ok-word.ensures.value c.in_ok-word.ensures.ok.rule
    (seen_now _ _ _ _ _ refl c.in_ok-word.ensures.ok)

pub returns-in_default-clause-ok : goal.returns-in_default-clause-ok
returns-in_default-clause-ok g c = (
  c.in_ok-word.ensures.value,
  record { shown = _; shows = refl; says = record { met = c.in_default.ensures } },
  seen_now _ _ _ _ _ refl c.in_ok-word.ensures.ok,
)

pub returns-in-Ok-clause-ok : goal.returns-in-Ok-clause-ok
returns-in-Ok-clause-ok g c = (
  c.in_ok-word.ensures.value,
  c.in_ok-word.ensures.ok.rule,
  record {
    value = c.in-Some.new;
    ran = record { shown = _; shows = refl; says = record { met = c.in-Some.ensures } };
    made = put_over _ _ _ _ _ _ _ refl c.in_ok-word.ensures.ok c.in-Ok.ensures.ok;
  },
)

pub returns-in-Err-clause-err : goal.returns-in-Err-clause-err
returns-in-Err-clause-err g c = try_refused (FnReturnsAt g.F.Fn c.args.f.now) _ _ _ _ _ _ _ _ _ refl
    (record { shown = _; shows = refl; says = record { met = c.in-Some.ensures } })
    c.in_ok-word.ensures.ok c.in-Err.ensures.err
