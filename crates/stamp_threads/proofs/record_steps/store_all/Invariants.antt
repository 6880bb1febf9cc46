use Rattle.std.proofs.Common.{◌≡◌, ℕ}
use Rattle.stamp_threads.specs.declared.record_view.RecordPhase.TheVariants.{Writing}
use Rattle.stamp_threads.specs.Seats.{alone}
use Rattle.stamp_threads.specs.RecordPass.{first_of}
use Rattle.stamp_threads.specs.inner.RecordRule.{with_phase}
use Rattle.stamp_threads.proofs.record_steps.store_all.Given as goal

abbrev pub invariant-loop-i : goal.invariant-loop-i
invariant-loop-i g l = record {
  table : l.seat.table_id ≡ l.initial.seat.table_id;
  learned : (puts_before : ℕ) → (first_of l.initial.seat.me.0).phase ≡ Writing puts_before l.words 0 →
      l.seat.me ≡ alone (with_phase (first_of l.initial.seat.me.0)
      (Writing puts_before l.words l.i));
}
