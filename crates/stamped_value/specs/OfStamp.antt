-- The value that a read stamp or an optimistic stamp stands for.
use Rattle.std.specs.Prelude.{◌≡◌, ◌⊎◌, ◌↔◌, ℕ, Bool, IsTrue, List}
use mathlib.Core.Option.{some}
use lib.ListN.{get_elem?}
use Rattle.stamp_core.specs.Layout.{Units}
use Rattle.stamp_core.specs.Limits.{Bounds, units}
use Rattle.stamp_core.specs.Stamp.{IsReadStamp, IsWriteStamp, IsOptimisticStamp}
use Rattle.stamp_core.specs.StampKind.{OfSomeVersion}
use Rattle.stamp_core.specs.declared.reply.Reply.{Reply}
use Rattle.stamp_core.specs.declared.reply.Reply.TheVariants.{Yes}
use Rattle.stamped_value.specs.Values.{IsLastOf}

module _ {T : Type 0} where
  -- the stamp is a read stamp or the optimistic stamp of a version, and x is that version's value
  pub record IsOfStamp (limits : Bounds) (values : List T) (s : ℕ) (x : T) : Type 0 where
    pub version : ℕ
    pub stamp : IsReadStamp (units limits) version s ⊎ IsOptimisticStamp (units limits) version s
    pub nth : get_elem? values version ≡ some x

  -- the stamp has a value, and it is the last one
  pub record IsOfLast (limits : Bounds) (values : List T) (s : ℕ) : Type 0 where
    pub has : (x : T) × IsOfStamp limits values s x
    pub last : (x : T) → IsOfStamp limits values s x → IsLastOf values x

abbrev pub IsSomeWriteStamp : Units → ℕ → Type 0
IsSomeWriteStamp u s = OfSomeVersion (λ k. IsWriteStamp u k s)

-- yes where the lock answers yes to Validate, unless the stamp is a write stamp
abbrev pub IsYesButForWriters : Bounds → ℕ → Reply → Bool → Type 0
IsYesButForWriters limits s reply result =
    IsTrue result ↔ ((reply ≡ Yes) × (IsSomeWriteStamp (units limits) s → ⊥))
