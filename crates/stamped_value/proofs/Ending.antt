-- When a guarded value is closed, the rule tells how it ends: what was lent is the last value.
use Rattle.std.proofs.Common.{Bool, true, false, ◌≡◌, ◌≢◌, ℕ, ◌≤◌, ◌==◌, List, sym, subst, ◌∙◌, MatchBool, arith}
use Rattle.std.specs.Prelude.{IsTrue, ◌↔◌}
use mathlib.Core.List.{IsPrefix}
use mathlib.Core.Option.{some}
use lib.ListN.{get_elem?}
use Rattle.lent_table.specs.Table.{Home, away, lent, Closes}
use Rattle.stamp_core.specs.Limits.{Bounds, AreInRange}
use Rattle.stamp_core.specs.LockEvent.{LockEvent, Counts, counts, writers}
use Rattle.stamp_core.specs.IsWellFormed.{IsWellFormed}
use Rattle.stamp_core.specs.Word.{HoldsForEvents, word_at}
use Rattle.stamp_core.proofs.WellFormedPush.{obeys_now}
use Rattle.stamp_machines.specs.LockNumber.{RepresentsAt}
use Rattle.stamp_threads.specs.LockLog.{LockLog, events_after}
use Rattle.stamp_threads.specs.PassView.{IsPart, every}
use Rattle.stamped_value.specs.Values.{IsLastOf}
use Rattle.stamped_value.specs.Ends.{Ends, EndsWithLast, EndsWithWriter, writers_left}
use Rattle.stamped_value.specs.declared.view.ValueView.{ValueView}
use Rattle.stamped_value.specs.inner.VersionRule.{IsKept, HomeIs}
use Rattle.stamped_value.proofs.Passing.{part_now}

-- with no writer left, the value is at home, and is the last
lent_last : {T : Type 0} (c : Counts) (values : List T) (home : Home T) → HomeIs c values home → c.writers ≡ 0 →
    (x : T) × IsLastOf values x × (home ≡ lent c.readers x)
lent_last {T} c values home is none = subst
    (λ (n : ℕ). MatchBool (n == 0) ((x : T) × IsLastOf values x × (home ≡ lent c.readers x)) (home ≡ away)) none is

-- there is one writer or none
no_writer : (limits : Bounds) (events : List LockEvent) → IsWellFormed limits events → writers events ≢ 1 →
    writers events ≡ 0
no_writer limits events formed not_one =
    let one : writers events ≤ 1 = (obeys_now limits events formed).within.one_writer in omega (arith, not_one, one)

module _ {T : Type 0} {enterable : Bool} (limits : Bounds) (first : T) (word : ℕ) (x : T) (views : List (ValueView T))
    (closes : Closes (IsKept enterable limits first) word x views) where
  abbrev log : LockLog
  log = closes.1.log

  abbrev events : List LockEvent
  events = events_after limits log

  represents_last : RepresentsAt limits word events
  represents_last = subst (λ (n : ℕ). RepresentsAt limits n events) closes.2 closes.1.represents

  parts_of : (k : ℕ) (v : ValueView T) → get_elem? views k ≡ some v →
      IsPart every log v.pass × IsPrefix v.values closes.1.values
  parts_of k v at =
      let here = subst (λ (vs : List (ValueView T)). get_elem? vs k ≡ some v) (sym closes.3) at in (
        part_now limits log closes.1.roots closes.0.views closes.1.legal closes.1.passes k v here,
        (closes.1.fits k v here).begins,
      )

  left_are : writers_left views ≡ writers events
  left_are = subst (λ (vs : List (ValueView T)). writers_left vs ≡ writers events) closes.3 closes.1.writers_are

  ends_so : Ends limits first views
  ends_so = record {
    word = word;
    log = log;
    legal = closes.1.legal;
    represents = represents_last;
    values = closes.1.values;
    are = closes.1.are;
    opens = closes.1.opens;
    parts = parts_of;
    writers_are = left_are;
  }

  module _ (range : AreInRange limits) (writing : Bool)
      (told : HoldsForEvents (word_at limits word) (λ events. IsTrue writing ↔ (writers events ≡ 1))) where
    pub ends_with_writer : writing ≡ true → EndsWithWriter limits first views
    ends_with_writer is = record { ends = ends_so; writer = left_are ∙ (told limits events range represents_last).0 is }

    pub ends_with_last : writing ≡ false → EndsWithLast limits first views x
    unfolding ends_so
    ends_with_last is =
        let not_one : writers events ≢ 1 = λ one. let yes = (told limits events range represents_last).1 one in cc in
        let none : writers events ≡ 0 = no_writer limits events closes.1.represents.well_formed not_one in
        let t = lent_last (counts events) closes.1.values closes.0.home closes.1.home none in
        record {
          ends = ends_so;
          nobody = left_are ∙ none;
          last = subst (IsLastOf closes.1.values) (sym (closes.4 (counts events).readers t.0 t.2)) t.1;
        }
