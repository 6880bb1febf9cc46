-- The first entry of a recorded history that breaks something, and the first thing that it breaks.
use Rattle.std.specs.Prelude.{ℕ, ◌≡◌, List, take, slice_get, Some}
use Rattle.stamp_core.specs.Limits.{Bounds}
use Rattle.stamp_core.specs.Record.{Recorded}
use Rattle.stamp_core.specs.Linearized.{HasPointInside, RisesAbove, FollowsItsThread, IsAnswered, AreLinearized}
use Rattle.stamp_core.specs.declared.entry.Entry.{Entry}
use Rattle.stamp_check.specs.declared.checking.Why.{Why}
use Rattle.stamp_check.specs.declared.checking.Why.TheVariants.{Interval, Order, Overlap, Reply}

-- the first thing that an entry breaks after those before it: its interval, the order of points,
-- the order of its thread's calls, or its reply
abbrev pub Breaks : Bounds → ℕ → List Entry → Entry → Why → Type 0
Breaks limits width before e Interval = ¬ HasPointInside e
Breaks limits width before e Order = HasPointInside e × ¬ RisesAbove before e
Breaks limits width before e Overlap = HasPointInside e × RisesAbove before e × ¬ FollowsItsThread before e
Breaks limits width before e Reply = HasPointInside e × RisesAbove before e × FollowsItsThread before e ×
    ¬ IsAnswered limits width before e

-- the entries before entry i are linearized, and after them it breaks this first
pub record IsFirstFault (r : Recorded) (i : ℕ) (why : Why) : Type 0 where
  pub entry : Entry
  pub is_entry : slice_get r.entries i ≡ Some entry
  pub before : AreLinearized r.limits r.width (take i r.entries)
  pub breaks : Breaks r.limits r.width (take i r.entries) entry why
