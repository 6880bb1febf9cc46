-- The release of a mode, by a guard that is released or dropped.
use Rattle.std.proofs.Common.{◌≡◌, ℕ, refl}
use Rattle.stamp_core.specs.Limits.{AreInRange}
use Rattle.stamp_core.specs.declared.call.Call.TheVariants.{UnlockWrite, UnlockRead}
use Rattle.stamp_core.specs.declared.reply.Reply.{Reply}
use Rattle.stamp_core.specs.declared.reply.Reply.TheVariants as reply
use Rattle.stamp_machines.specs.declared.machine.Turn.TheVariants.{Done}
use Rattle.stamp_threads.specs.GoesAsMachine.{GoesAsMachine}
use Rattle.stamped_value.specs.declared.view.Held.TheVariants.{Reading, Writing}
use Rattle.stamped_value.specs.Held.{stamp_held}
use Rattle.stamped_value.specs.ValueCalls.{Calls}
use Rattle.stamped_value.specs.ValueLock.{ValueLock}
use Rattle.stamped_value.specs.ValueMade.{Seen, ValueMade}
use Rattle.stamped_value.specs.inner.ValueLock.{token}
use Rattle.stamped_value.proofs.Outcomes.{released_read, released_write}
use Rattle.stamped_value.proofs.Tokens.{calls_by, by_held}

module _ {T : Type 0} (lock : ValueLock T) (range : AreInRange lock.limits) (answered : Reply) (v w : Seen T)
    (s : ℕ) where
  pub releases_read : v.0.held ≡ Reading s → ValueMade lock.limits (UnlockRead s) answered v w →
      GoesAsMachine lock.limits (UnlockRead s) v.0.pass w.0.pass (Done answered) →
      Calls (UnlockRead (stamp_held v.0.held)) reply.Done (token lock v) (token lock w)
  releases_read held made machine = by_held lock UnlockRead s _ v w _ held refl
      (calls_by lock _ _ v w made machine _ (released_read _ range _ v w s held made).0)

  pub releases_write : v.0.held ≡ Writing s → ValueMade lock.limits (UnlockWrite s) answered v w →
      GoesAsMachine lock.limits (UnlockWrite s) v.0.pass w.0.pass (Done answered) →
      Calls (UnlockWrite (stamp_held v.0.held)) reply.Done (token lock v) (token lock w)
  releases_write held made machine = by_held lock UnlockWrite s _ v w _ held refl
      (calls_by lock _ _ v w made machine _ (released_write _ range _ v w s held made).0)
