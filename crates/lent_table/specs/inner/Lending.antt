-- What is owned while a step goes on, and before a table is made.
use Rattle.std.specs.Prelude.{ℕ}
use base.Fraction.{full_share}
use base.Fml.{Fml, ftrue, fsep, fex}
use denote.RattleType.{RattleType}
use denote.RawPtr.{Ptr, InBlock, lies_at}
use Rattle.atomic_table.specs.Seated.{fact}
use Rattle.counted_slot.specs.Counting.{share}
use Rattle.lent_table.specs.Table.{Hold, none, reads, writes}
use Rattle.lent_table.specs.Lending.{TableId, counted, reading, round_of}

module _ (R : RattleType) (z : TableId) where
  -- the whole round
  abbrev pub resting : R.Denot → ℕ → Fml
  resting x a = fsep (share z.round_name a full_share) (round_of R z a x)

  -- the same while a step goes on, where a writer has a round of its own
  abbrev pub hold_steps : Hold R.Denot → Fml
  hold_steps none = ftrue
  hold_steps (reads x) = fsep (fex ℕ (reading R z x)) (counted R z 1)
  hold_steps (writes x) = fex ℕ (resting x)

-- a value in memory that a pointer owns
abbrev pub plot_owns : (R : RattleType) → Ptr → R.Denot → Fml
plot_owns R p x = fsep (fact (InBlock p)) (lies_at R full_share p x)
