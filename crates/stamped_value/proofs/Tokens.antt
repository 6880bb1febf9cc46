-- The calls of handles and guards, by those of their seats.
use Rattle.std.proofs.Common.{◌≡◌, ℕ, List, refl, ap, sym, ◌∙◌, subst, Some}
use Rattle.lent_table.specs.Table.{Hold, reads, writes, value_of}
use Rattle.stamp_core.specs.Limits.{Bounds}
use Rattle.stamp_core.specs.declared.call.Call.{Call}
use Rattle.stamp_core.specs.declared.reply.Reply.{Reply}
use Rattle.stamp_core.specs.declared.reply.Reply.TheVariants.{Stamp}
use Rattle.stamp_machines.specs.declared.machine.Turn.TheVariants.{Done}
use Rattle.stamp_threads.specs.GoesAsMachine.{GoesAsMachine}
use Rattle.stamped_value.specs.declared.view.Held.{Held}
use Rattle.stamped_value.specs.declared.view.Held.TheVariants.{Reading}
use Rattle.stamped_value.specs.Values.{IsLastOf}
use Rattle.stamped_value.specs.Held.{HasHold, stamp_held}
use Rattle.stamped_value.specs.Stands.{Stands}
use Rattle.stamped_value.specs.inner.Outcomes.{ReadsLast}
use Rattle.stamped_value.specs.ValueLock.{ValueLock}
use Rattle.stamped_value.specs.inner.ValueLock.{token}
use Rattle.stamped_value.specs.ValueMade.{Seen, ValueMade}
use Rattle.stamped_value.specs.ValueCalls.{Calls}

module _ {T : Type 0} (lock : ValueLock T) where
  module _ (call : Call) (answered : Reply) (v w : Seen T) (made : ValueMade lock.limits call answered v w)
      (machine : GoesAsMachine lock.limits call v.0.pass w.0.pass (Done answered)) where
    pub calls_by : (reply : Reply) → answered ≡ reply → Calls call reply (token lock v) (token lock w)
    calls_by reply is = record {
      lock = refl;
      made = subst (λ (r : Reply). ValueMade lock.limits call r v w) is made;
      machine = subst (λ (r : Reply). GoesAsMachine lock.limits call v.0.pass w.0.pass (Done r)) is machine;
    }

    -- the answer is the stamp that the seat holds then
    pub calls_held : (s : ℕ) → answered ≡ Stamp s → (held : Held) → w.0.held ≡ held → stamp_held held ≡ s →
        Calls call (Stamp (stamp_held w.0.held)) (token lock v) (token lock w)
    calls_held s is held holds stamp =
        calls_by (Stamp (stamp_held w.0.held)) (is ∙ ap Stamp (sym (ap stamp_held holds ∙ stamp)))

  -- the call is by the stamp that the seat held
  pub by_held : (asks : ℕ → Call) (s : ℕ) (held : Held) (v w : Seen T) (reply : Reply) → v.0.held ≡ held →
      stamp_held held ≡ s → Calls (asks s) reply (token lock v) (token lock w) →
      Calls (asks (stamp_held v.0.held)) reply (token lock v) (token lock w)
  by_held asks s held v w reply holds stamp calls =
      subst (λ (n : ℕ). Calls (asks n) reply (token lock v) (token lock w)) (sym (ap stamp_held holds ∙ stamp)) calls

module _ {T : Type 0} (limits : Bounds) (w : Seen T) (stands : Stands limits w) where
  -- whoever holds read mode reads the last value
  pub reads_last : (s : ℕ) → w.0.held ≡ Reading s → ReadsLast w
  reads_last s held = subst (λ (h : Held). HasHold h w.0.values w.1) held stands.hold

  pub is_last : (s : ℕ) → w.0.held ≡ Reading s → (x : T) → w.1 ≡ reads x → IsLastOf w.0.values x
  is_last s held x is =
      let r = reads_last s held in
      let same : r.0 ≡ x = cc (r.1, is) in subst (λ (y : T). IsLastOf w.0.values y) same r.2

-- the last value, by what a seat writes
pub last_written : {T : Type 0} (values : List T) (hold : Hold T) (x y : T) → hold ≡ writes x → IsLastOf values x →
    hold ≡ writes y → IsLastOf values y
last_written {T} values hold x y had last has =
    let same : x ≡ y = cc (had, has) in subst (λ (z : T). IsLastOf values z) same last

-- who reads is shown what it reads
pub shown_read : {T : Type 0} (hold : Hold T) (x y : T) → hold ≡ reads x → value_of hold ≡ Some y → hold ≡ reads y
shown_read hold x y has shown = let same : Some x ≡ Some y = sym (ap value_of has) ∙ shown in cc

-- and so is who writes
pub shown_written : {T : Type 0} (hold : Hold T) (x y : T) → hold ≡ writes x → value_of hold ≡ Some y →
    hold ≡ writes y
shown_written hold x y has shown = let same : Some x ≡ Some y = sym (ap value_of has) ∙ shown in cc
