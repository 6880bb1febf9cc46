-- The stamp of an optimistic read: 0 beside a writer, and else more.
use Rattle.std.proofs.Common.{◌≡◌, ◌≢◌, ℕ, ◌<◌, ◌≤◌, ◌+◌, ◌*◌, ◌==◌, if◌then◌else◌, List, Option, Some, None}
use Rattle.std.proofs.Common.{refl, sym, ap, subst, arith, zero, suc}
use Rattle.stamp_core.specs.LockEvent.{LockEvent, write_count, writers}
use Rattle.stamp_core.specs.Layout.{units_of}
use Rattle.stamp_core.specs.Limits.{Bounds, units}
use Rattle.stamp_core.specs.Stamp.{optimistic_stamp}
use Rattle.stamp_core.specs.Transition.{Transition}
use Rattle.stamp_core.specs.Decision.{Stays}
use Rattle.stamp_core.specs.declared.layout.Layout.TheVariants.{One, Two}
use Rattle.stamp_core.specs.declared.layout.Layout.{Layout}
use Rattle.stamp_core.specs.declared.call.Call.TheVariants.{Optimistic}
use Rattle.stamp_core.specs.declared.reply.Reply.{Reply}
use Rattle.stamp_core.specs.declared.reply.Reply.TheVariants.{Stamp}

some_product : (version k : ℕ) → 0 < version → 0 < version * (k + 1)
some_product zero k some = absurd (omega (arith, some))
some_product (suc n) k some = omega arith

of_version : (layout : Layout) (k : ℕ) → 0 < optimistic_stamp (units_of layout) k
unfolding units_of
of_version One k = some_product _ k (omega arith)
of_version Two k = some_product _ k (omega arith)

-- the number of the stamp that is answered
abbrev number_in : Reply → ℕ
number_in (Stamp stamp) = stamp
number_in _ = 0

abbrev stamp_in : Option Transition → ℕ
stamp_in None = 0
stamp_in (Some t) = number_in t.reply

no_writer : (writers : ℕ) → writers ≤ 1 → writers ≢ 1 → writers ≡ 0
no_writer zero few other = refl
no_writer (suc zero) few other = absurd (other refl)
no_writer (suc (suc n)) few other = absurd (omega (arith, few))

module _ (limits : Bounds) (events : List LockEvent) (stamp : ℕ)
    (stays : Stays limits events Optimistic (Stamp stamp)) where
  number : (if writers events == 0 then optimistic_stamp (units limits) (write_count events) else 0) ≡ stamp
  number = ap stamp_in stays

  pub none_beside_a_writer : writers events ≡ 1 → stamp ≡ 0
  none_beside_a_writer writing = sym (rw writing at number)

  pub some_beside_none : writers events ≤ 1 → writers events ≢ 1 → 0 < stamp
  some_beside_none few other =
      subst (λ (n : ℕ). 0 < n) (rw (no_writer _ few other) at number) (of_version limits.layout (write_count events))
