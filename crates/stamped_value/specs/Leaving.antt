-- How a handle or a guard leaves its lock for good.
use Rattle.std.specs.Prelude.{◌≡◌}
use base.Fml.{Fml, fsep, fex}
use denote.RattleType.{RattleType}
use Rattle.atomic_table.specs.Seated.{fact}
use Rattle.lent_table.specs.Lending.{has_left}
use Rattle.lent_table.specs.declared.shared.Left.{Left}
use Rattle.stamp_core.specs.declared.call.Call.TheVariants.{UnlockWrite, UnlockRead}
use Rattle.stamp_core.specs.declared.reply.Reply.TheVariants.{Done}
use Rattle.stamped_value.specs.contracts.view.ValueView.{the_row}
use Rattle.stamped_value.specs.declared.view.ValueView.{ValueView}
use Rattle.stamped_value.specs.Held.{stamp_held}
use Rattle.stamped_value.specs.ValueLock.{ValueToken}
use Rattle.stamped_value.specs.ValueCalls.{Calls}
use Rattle.stamped_value.specs.Outcomes.{LeavesWhatWritten}

module _ {T : Type 0} where
  -- it was a seat of the token's lock, and knew what the token does
  abbrev pub IsLeft : ValueToken T → Left (ValueView T) → Type 0
  IsLeft h left = (left.table_id ≡ h.lock.table) × (left.view ≡ h.me.0)

  -- read mode was released first, by the stamp that the guard held
  abbrev pub LeftReleased : ValueToken T → Left (ValueView T) → Type 0
  LeftReleased g left = (after : ValueToken T) × Calls (UnlockRead (stamp_held g.me.0.held)) Done g after
      × IsLeft after left

  -- write mode was released so, and what was written is the last value
  abbrev pub LeftWritten : ValueToken T → Left (ValueView T) → Type 0
  LeftWritten g left = (after : ValueToken T) × Calls (UnlockWrite (stamp_held g.me.0.held)) Done g after
      × LeavesWhatWritten g.me after.me × IsLeft after left

-- a seat left for good, and this holds of it. Whoever still has a seat, or forgot it in a mode, can't say so: a seat
-- leaves once, with what it knows then
abbrev pub a_seat_left : (T : RattleType) → (Left (ValueView T.Denot) → Type 0) → Fml
a_seat_left T Is = fex (Left (ValueView T.Denot)) (λ left.
    fsep (fact (Is left)) (has_left (the_row T).coded.code left.table_id left.id left.view))
