-- Two handles that met.
use Rattle.std.specs.Prelude.{◌≡◌}
use mathlib.Core.List.{IsPrefix}
use Rattle.stamp_threads.specs.LockPassesMet.{LockPassesMet}
use Rattle.stamp_threads.specs.PassView.{every}
use Rattle.stamp_threads.specs.LockLog.{IsLegalLog}
use Rattle.stamp_threads.specs.OneHistory.{AreOrdered, Agree}
use Rattle.stamped_value.specs.Values.{HasValues}
use Rattle.stamped_value.specs.ValueLock.{ValueToken}

module _ {T : Type 0} where
  -- the handle is one of the same lock still, and holds what it held
  pub record HoldsSame (a b : ValueToken T) : Type 0 where
    pub lock : b.lock ≡ a.lock
    pub held : b.me.0.held ≡ a.me.0.held
    pub hold : b.me.1 ≡ a.me.1

  -- a' and b' are a and b after they met: both know one history, and one list of values with one for each of its
  -- versions, which begin with what either knew. They made no call, and hold what they held
  pub record HandlesMet (a b a' b' : ValueToken T) : Type 0 where
    pub passes : LockPassesMet a.lock.limits a.me.0.pass b.me.0.pass a'.me.0.pass b'.me.0.pass
    pub first_begins : IsPrefix a.me.0.values a'.me.0.values
    pub second_begins : IsPrefix b.me.0.values a'.me.0.values
    pub alike : b'.me.0.values ≡ a'.me.0.values
    pub are : HasValues a.lock.limits a'.me.0.pass.known a'.me.0.values
    pub same : HoldsSame a a' × HoldsSame b b'

-- Handles that meet agreed before they met: on the one history, and on its values.
abbrev pub HandlesAgree : Type 0 → Type 0
HandlesAgree T = (a b a' b' : ValueToken T) → HandlesMet a b a' b'
    → Agree every (IsLegalLog a.lock.limits) a.me.0.pass b.me.0.pass × AreOrdered a.me.0.values b.me.0.values
