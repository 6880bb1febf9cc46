use Rattle.std.proofs.Common.{ℕ, ap, sym, ◌∙◌, ◌+◌, eq-eqb, ne_eqb, arith}
use Rattle.stamp_threads.specs.declared.record_view.RecordShape.{RecordShape}
use Rattle.stamp_threads.specs.RecordWord.{writer_unit}
use Rattle.stamp_threads.specs.RecordLog.{puts}
use Rattle.stamp_threads.specs.RecordPass.{first_of}
use Rattle.stamp_threads.specs.inner.RecordPass.{Seated}
use Rattle.stamp_threads.proofs.RecordWords.{unit_small}
use Rattle.stamp_threads.proofs.RecordPromises.{put_goes_on, acquired_word_of, found_small, found_large, held_small}
use Rattle.stamp_threads.proofs.RecordPromises.{put_busy_of, put_spent_of, put_lost_of, put_made_of}
use Rattle.stamp_threads.proofs.wide_record.WideRecord.put_from_once.Goals as goal

pub writes_of-requires : goal.writes_of-requires
writes_of-requires g c =
    let learned = rw c.self.invariant.0 at c.load_for_put-loaded.ensures.learned in
    rw c.layout-layout.ensures.layout (found_large _ _ _ _ learned.left)

pub overflow_add-held : goal.overflow_add-held
overflow_add-held g c =
    let learned = rw c.self.invariant.0 at c.load_for_put-loaded.ensures.learned in
    let s = found_small _ _ _ _ learned.left c.versions.ensures.in_range in
    let u = unit_small c.layout-layout.result in
    omega (arith, c.writer_unit.ensures)

pub acquire-found-requires-clause-free : goal.acquire-found-requires-clause-free
acquire-found-requires-clause-free g c =
    let learned = rw c.self.invariant.0 at c.load_for_put-loaded.ensures.learned in
    let test = sym (rw c.layout-layout.ensures.layout at c.has_writer.ensures) ∙ c.if-has_writer.false in
    let t = put_goes_on _ _ _ _ learned test
    (rw (c.writes_of.ensures, c.versions.ensures.versions, c.layout-layout.ensures.layout) at
    c.if-writes_of-versions.false) in
    let held = rw c.layout-layout.ensures.layout at
    (ap (λ (n : ℕ). c.load_for_put-loaded.result + n) c.writer_unit.ensures) in
    rw c.self.invariant.0 (puts learned.log, t.1, held, t.2)

pub store_all-requires-clause-writing : goal.store_all-requires-clause-writing
store_all-requires-clause-writing g c =
    let got = rw (eq-eqb _ _ c.if-found-loaded.false) at c.acquire-found.ensures.learned in
    (puts got.log, ap (λ (m : Seated). (first_of m.0).phase) got.after)

pub released-free-requires : goal.released-free-requires
released-free-requires g c =
    let learned = rw c.self.invariant.0 at c.load_for_put-loaded.ensures.learned in
    let test = sym (rw c.layout-layout.ensures.layout at c.has_writer.ensures) ∙ c.if-has_writer.false in
    rw (c.writer_unit.ensures, c.layout-layout.ensures.layout)
    (held_small _ _ _ _ learned.left c.versions.ensures.in_range test)

pub release-requires-clause-writing : goal.release-requires-clause-writing
release-requires-clause-writing g c =
    let got = rw (eq-eqb _ _ c.if-found-loaded.false) at c.acquire-found.ensures.learned in
    let phase = ap (λ (m : Seated). (first_of m.0).phase) got.after in
    let test = sym (rw c.layout-layout.ensures.layout at c.has_writer.ensures) ∙ c.if-has_writer.false in
    let w = acquired_word_of _ _ c.self.invariant.0 _ _ _ _ _ got c.if-found-loaded.false test in
    let held = rw c.layout-layout.ensures.layout at
    (ap (λ (n : ℕ). c.load_for_put-loaded.result + n) c.writer_unit.ensures) in (
      puts got.log,
      ap (λ (m : Seated). (first_of m.0).phase)
          (c.store_all.ensures.learned (puts got.log) phase),
      held ∙ w,
      rw c.layout-layout.ensures.layout at c.released-free.ensures ∙
          ap (λ (z : RecordShape). c.load_for_put-loaded.result + c.writer_unit.result + writer_unit z.limits.layout)
          (sym c.self.invariant.0),
    )

pub returns-then-has_writer-clause-err : goal.returns-then-has_writer-clause-err
returns-then-has_writer-clause-err g c =
    let test = sym (rw c.layout-layout.ensures.layout at c.has_writer.ensures) ∙ c.if-has_writer.true in
    rw (← c.self.view_is, ← c.pass.view_is)
    (put_busy_of _ _ c.self.invariant.0 _ _ _ c.load_for_put-loaded.ensures.learned c.pass.invariant.1 test)

pub returns-then-writes_of-versions-clause-err : goal.returns-then-writes_of-versions-clause-err
returns-then-writes_of-versions-clause-err g c =
    let test = sym (rw c.layout-layout.ensures.layout at c.has_writer.ensures) ∙ c.if-has_writer.false in
    rw (← c.self.view_is, ← c.pass.view_is)
    (put_spent_of _ _ c.self.invariant.0 _ _ _ c.load_for_put-loaded.ensures.learned c.pass.invariant.1 test
    (rw (c.writes_of.ensures, c.versions.ensures.versions, c.layout-layout.ensures.layout) at
    c.if-writes_of-versions.true))

pub returns-then-found-loaded-clause-err : goal.returns-then-found-loaded-clause-err
returns-then-found-loaded-clause-err g c =
    let test = sym (rw c.layout-layout.ensures.layout at c.has_writer.ensures) ∙ c.if-has_writer.false in
    rw (← c.self.view_is, ← c.pass.view_is)
    (put_lost_of _ _ c.self.invariant.0 _ _ _ c.load_for_put-loaded.ensures.learned c.pass.invariant.1 test _ _
    (rw (ne_eqb _ _ c.if-found-loaded.true) at c.acquire-found.ensures.learned)
    c.if-found-loaded.true)

pub returns-clause-ok : goal.returns-clause-ok
returns-clause-ok g c =
    let got = rw (eq-eqb _ _ c.if-found-loaded.false) at c.acquire-found.ensures.learned in
    let phase = ap (λ (m : Seated). (first_of m.0).phase) got.after in
    let held = rw c.layout-layout.ensures.layout at
    (ap (λ (n : ℕ). c.load_for_put-loaded.result + n) c.writer_unit.ensures) in
    rw (← c.self.view_is, ← c.pass.view_is)
    (put_made_of _ _ c.self.invariant.0 _ _ _ _ _ _ _ _ _ c.load_for_put-loaded.ensures.learned got
    c.if-found-loaded.false (c.store_all.ensures.learned (puts got.log) phase) held
    c.release.ensures.learned)
