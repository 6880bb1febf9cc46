-- A table may be shared and a seat may go to another thread, where the value may be sent and shared.
use Rattle.std.proofs.Common.{ℕ, ◌∷◌}
use base.Fraction.{full_share}
use base.Stored.{Gv}
use base.Fml.{Lft}
use base.Shift.{Keyless}
use denote.RattleType.{RattleType}
use denote.RawPtr.{Ptr}
use denote.Param.Send.{IsSend, IsSync, part_keyless}
use types.Keyed.{entry_keyless}
use Rattle.atomic_table.specs.Seated.{halved}
use Rattle.atomic_table.proofs.Sent.{roster_keyless}
use Rattle.lent_table.specs.Table.{Home, away, lent, Hold, none, reads, writes, State, Me}
use Rattle.lent_table.specs.Lending.{TableId, age, kept, round_of, home_owns, hold_owns, seat_owns}
use Rattle.lent_table.specs.Lending.{inner, table_owns, table_shares}

module _ (R : RattleType) (s : IsSend R) (y : IsSync R) (z : TableId) where
  kept_keyless : Keyless (kept R z)
  kept_keyless = λ x. (part_keyless R s full_share x _ _, tt)

  round_keyless : (a : ℕ) (x : R.Denot) → Keyless (round_of R z a x)
  round_keyless a x = (y.shared x z.block z.offset (a ∷ age z), (tt, kept_keyless))

  home_keyless : (h : Home R.Denot) → Keyless (home_owns R z h)
  home_keyless away = (tt, λ e c. (tt, tt))
  home_keyless (lent m x) = ((λ a. ((λ e c. (tt, tt)), round_keyless a x)), λ e c. (tt, tt))

  hold_keyless : (o : Hold R.Denot) → Keyless (hold_owns R z o)
  hold_keyless none = tt
  hold_keyless (reads x) = ((λ a. ((λ e c. (tt, tt)), y.shared x z.block z.offset (a ∷ age z))), λ e c. (tt, tt))
  hold_keyless (writes x) = λ a. (tt, (tt, kept_keyless))

  module _ {V : Type 0} (c : V → Gv) where
    pub seat_keyless : (id : ℕ) (me : Me R.Denot V) → Keyless (seat_owns R c z id me)
    seat_keyless id me = (hold_keyless me.1, entry_keyless halved z.views_name id _)

    module _ (holds : State R.Denot V → Type 0) (w p : Ptr) where
      inner_keyless : Keyless (inner R c holds w p z)
      inner_keyless = λ t. (tt, ((home_keyless t.home, roster_keyless c z.views_name 0 t.views), λ _. tt))

      pub owns_keyless : Keyless (table_owns R c holds w p z)
      unfolding Rattle.lent_table.specs.Lending.under
      owns_keyless = (tt, (((λ _. tt), inner_keyless), (inner_keyless, kept_keyless)))

      pub shares_keyless : (ν : Lft) → Keyless (table_shares R c holds w p z ν)
      unfolding Rattle.lent_table.specs.Lending.under
      shares_keyless ν = ((λ _. tt), ((λ _. tt), inner_keyless))
