use Rattle.std.proofs.Common.{rules, refl}
use Rattle.stamped_lock.specs.inner.RecordCalls.{handle_of}
use Rattle.stamped_lock.proofs.Tries.{put_over, seen_now}
use Rattle.stamped_lock.proofs.wide_handle.WideHandle.update_lent.Goals as goal

pub change-requires : goal.change-requires
change-requires g c = c.requires.callable _ (handle_of c.self.inside.running.now c.see_once.new.pass.view)
    (search rules) (search rules) (rw (← c.self.view_is, c.copy_from_slice.ensures.after)
    (seen_now _ _ _ _ _ refl c.in_ok-word.ensures.ok))

pub replace_from_once-requires-clause-rule : goal.replace_from_once-requires-clause-rule
replace_from_once-requires-clause-rule g c = (c.requires.rule _ _ (search rules) (search rules) c.change.ensures).1

pub returns-clause-ran : goal.returns-clause-ran
returns-clause-ran g c = (_, _, c.change.ensures, c.copy_from_slice.ensures.after, refl)

pub returns-clause-ok : goal.returns-clause-ok
returns-clause-ok g c = rw (← c.self.view_is)
    (put_over _ _ _ _ _ _ _ refl c.in_ok-word.ensures.ok c.in_ok-replace_from_once.ensures.ok)
