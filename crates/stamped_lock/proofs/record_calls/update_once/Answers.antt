use Rattle.std.proofs.Common.{refl}
use Rattle.stamped_lock.proofs.Tries.{put_over, seen_now}
use Rattle.stamped_lock.proofs.record_calls.update_once.Goals as goal

pub f-value-requires : goal.f-value-requires
f-value-requires g c = c.requires.callable _ _ c.in_ok-word.ensures.value c.in_ok-word.ensures.ok.rule
    (seen_now _ _ _ _ _ refl c.in_ok-word.ensures.ok)

pub returns-clause-ok : goal.returns-clause-ok
returns-clause-ok g c = record {
  value = c.f-value.result;
  ran = record { shown = _; shows = refl; says = record { met = c.f-value.ensures } };
  made = put_over _ _ _ _ _ _ _ refl c.in_ok-word.ensures.ok c.in_ok-replace.ensures.ok;
}
