use Rattle.std.proofs.Common.{ℕ, ap, refl, ◌∙◌, ◌+◌, eq-eqb, ne_eqb, arith}
use Rattle.stamp_threads.specs.RecordLog.{puts}
use Rattle.stamp_threads.specs.RecordPass.{first_of}
use Rattle.stamp_threads.specs.inner.RecordPass.{Seated}
use Rattle.stamp_threads.proofs.RecordWords.{unit_small}
use Rattle.stamp_threads.proofs.RecordPromises.{stands_free, stands_large, stands_small, stands_held_small}
use Rattle.stamp_threads.proofs.RecordPromises.{goes_over, none_left, overtaken, held_word, writer_puts, replaced}
use Rattle.stamp_threads.proofs.wide_record.WideRecord.replace_from_once.Goals as goal

pub writes_of-requires : goal.writes_of-requires
writes_of-requires g c =
    let stands = rw (← c.self.view_is) at c.requires.stands in
    rw c.layout-layout.ensures.layout (stands_large _ _ _ stands)

pub overflow_add-held : goal.overflow_add-held
overflow_add-held g c =
    let stands = rw (← c.self.view_is) at c.requires.stands in
    let s = stands_small _ _ _ stands c.versions.ensures.in_range in
    let u = unit_small c.layout-layout.result in
    omega (arith, c.writer_unit.ensures)

pub acquire-found-requires-clause-free : goal.acquire-found-requires-clause-free
acquire-found-requires-clause-free g c =
    let stands = rw (← c.self.view_is, ← c.pass.view_is) at c.requires.stands in
    let less = goes_over _ _ _ stands
    (rw (c.writes_of.ensures, c.versions.ensures.versions, c.layout-layout.ensures.layout) at
    c.if-writes_of-versions.false) in
    let held = rw c.layout-layout.ensures.layout at
    (ap (λ (n : ℕ). c.args.word + n) c.writer_unit.ensures) in
    rw c.self.invariant.0 (_, stands_free _ _ _ stands, held, less)

pub store_all-requires-clause-writing : goal.store_all-requires-clause-writing
store_all-requires-clause-writing g c =
    let got = rw (eq-eqb _ _ c.if-found-word.false) at c.acquire-found.ensures.learned in
    (puts got.log, ap (λ (m : Seated). (first_of m.0).phase) got.after)

pub released-free-requires : goal.released-free-requires
released-free-requires g c =
    let stands = rw (← c.self.view_is, ← c.pass.view_is) at c.requires.stands in
    rw (c.writer_unit.ensures, c.layout-layout.ensures.layout)
    (stands_held_small _ _ _ stands c.versions.ensures.in_range)

pub release_over-requires-clause-writing : goal.release_over-requires-clause-writing
release_over-requires-clause-writing g c =
    let stands = rw (← c.self.view_is, ← c.pass.view_is) at c.requires.stands in
    let got = rw c.self.invariant.0 at (rw (eq-eqb _ _ c.if-found-word.false) at c.acquire-found.ensures.learned) in
    let phase = ap (λ (m : Seated). (first_of m.0).phase) got.after in
    let stored = rw c.self.invariant.0 at c.store_all.ensures.learned in
    let held = rw c.layout-layout.ensures.layout at
    (ap (λ (n : ℕ). c.args.word + n) c.writer_unit.ensures) in
    rw c.self.invariant.0 (
      puts got.log,
      ap (λ (m : Seated). (first_of m.0).phase) (stored (puts got.log) phase),
      held ∙ held_word _ _ _ stands _ _ _ got c.if-found-word.false,
      rw c.layout-layout.ensures.layout at c.released-free.ensures,
      writer_puts _ _ _ stands _ _ _ got c.if-found-word.false _ (stored (puts got.log) phase),
    )

pub returns-then-writes_of-versions-clause-err : goal.returns-then-writes_of-versions-clause-err
returns-then-writes_of-versions-clause-err g c =
    let stands = rw (← c.self.view_is) at c.requires.stands in
    rw (← c.self.view_is) (
      refl,
      none_left _ _ _ stands
          (rw (c.writes_of.ensures, c.versions.ensures.versions, c.layout-layout.ensures.layout) at
          c.if-writes_of-versions.true),
    )

pub returns-then-found-word-clause-err : goal.returns-then-found-word-clause-err
returns-then-found-word-clause-err g c =
    let stands = rw (← c.self.view_is, ← c.pass.view_is) at c.requires.stands in
    let learned = rw c.self.invariant.0 at (rw (ne_eqb _ _ c.if-found-word.true) at c.acquire-found.ensures.learned) in
    rw (← c.self.view_is, ← c.pass.view_is)
    (refl, overtaken _ _ _ stands _ _ learned c.pass.invariant.1 c.if-found-word.true)

pub returns-clause-ok : goal.returns-clause-ok
returns-clause-ok g c =
    let stands = rw (← c.self.view_is, ← c.pass.view_is) at c.requires.stands in
    let got = rw c.self.invariant.0 at (rw (eq-eqb _ _ c.if-found-word.false) at c.acquire-found.ensures.learned) in
    let phase = ap (λ (m : Seated). (first_of m.0).phase) got.after in
    let stored = rw c.self.invariant.0 at c.store_all.ensures.learned in
    let held = rw c.layout-layout.ensures.layout at
    (ap (λ (n : ℕ). c.args.word + n) c.writer_unit.ensures) in
    rw (← c.self.view_is, ← c.pass.view_is)
    (replaced _ _ _ stands _ _ _ got c.if-found-word.false _ (stored (puts got.log) phase) _ _ held
    (rw c.self.invariant.0 at c.release_over.ensures.learned))
