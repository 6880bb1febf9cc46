use Rattle.std.proofs.Common.{ap, sym, ◌∙◌, rules}
use Rattle.stamp_threads.specs.declared.record_view.RecordShape.{RecordShape}
use Rattle.stamp_threads.specs.Seats.{alone}
use Rattle.stamp_threads.specs.RecordLog.{puts}
use Rattle.stamp_threads.specs.RecordPass.{first_of}
use Rattle.stamp_threads.specs.inner.RecordPass.{Seated}
use Rattle.stamp_threads.proofs.RecordPromises.{get_goes_on, get_busy_of, see_lost_of, has_seen_of}
use Rattle.stamp_threads.proofs.RecordPromises.{deny_lost_of, denied_of}
use Rattle.stamp_threads.proofs.record_see.see_or_deny.Goals as goal

pub load_all-requires-clause-loading : goal.load_all-requires-clause-loading
load_all-requires-clause-loading g c =
    let t = rw c.requires.shape.0 at c.load_for_get-loaded.ensures.learned in
    let test = sym (rw c.layout.ensures.layout at c.has_writer.ensures) ∙ c.if-has_writer.false in
    (puts t.log, get_goes_on _ _ _ _ t test)

pub see-again-requires-clause-loading : goal.see-again-requires-clause-loading
see-again-requires-clause-loading g c =
    let t = rw c.requires.shape.0 at c.load_for_get-loaded.ensures.learned in
    let test = sym (rw c.layout.ensures.layout at c.has_writer.ensures) ∙ c.if-has_writer.false in
    let phase = get_goes_on _ _ _ _ t test in (
      puts t.log,
      ap (λ (m : Seated). (first_of m.0).phase) (c.load_all.ensures.learned (puts t.log) phase),
      c.load_all.ensures.long ∙
          (c.requires.long ∙ sym (ap (λ (z : RecordShape). z.width) c.requires.shape.0)),
    )

pub see-again-requires-clause-seat : goal.see-again-requires-clause-seat
see-again-requires-clause-seat g c =
    let t = rw c.requires.shape.0 at c.load_for_get-loaded.ensures.learned in
    let test = sym (rw c.layout.ensures.layout at c.has_writer.ensures) ∙ c.if-has_writer.false in
    let phase = get_goes_on _ _ _ _ t test in
    let is = c.load_all.ensures.learned (puts t.log) phase in
    (search rules, search rules, is ∙ sym (ap (λ (m : Seated). alone (first_of m.0)) is))

pub deny-again-requires-clause-loading : goal.deny-again-requires-clause-loading
deny-again-requires-clause-loading g c =
    let t = rw c.requires.shape.0 at c.load_for_get-loaded.ensures.learned in
    let test = sym (rw c.layout.ensures.layout at c.has_writer.ensures) ∙ c.if-has_writer.false in
    let phase = get_goes_on _ _ _ _ t test in (
      puts t.log,
      ap (λ (m : Seated). (first_of m.0).phase) (c.load_all.ensures.learned (puts t.log) phase),
      c.load_all.ensures.long ∙
          (c.requires.long ∙ sym (ap (λ (z : RecordShape). z.width) c.requires.shape.0)),
    )

pub deny-again-requires-clause-seat : goal.deny-again-requires-clause-seat
deny-again-requires-clause-seat g c =
    let t = rw c.requires.shape.0 at c.load_for_get-loaded.ensures.learned in
    let test = sym (rw c.layout.ensures.layout at c.has_writer.ensures) ∙ c.if-has_writer.false in
    let phase = get_goes_on _ _ _ _ t test in
    let is = c.load_all.ensures.learned (puts t.log) phase in
    (search rules, search rules, is ∙ sym (ap (λ (m : Seated). alone (first_of m.0)) is))

pub returns-then-has_writer-clause-err : goal.returns-then-has_writer-clause-err
returns-then-has_writer-clause-err g c =
    let test = sym (rw c.layout.ensures.layout at c.has_writer.ensures) ∙ c.if-has_writer.true in
    get_busy_of _ _ c.requires.shape.0 _ _ _ c.load_for_get-loaded.ensures.learned c.requires.idle test

pub returns-then-again-loaded-clause-err : goal.returns-then-again-loaded-clause-err
returns-then-again-loaded-clause-err g c =
    let test = sym (rw c.layout.ensures.layout at c.has_writer.ensures) ∙ c.if-has_writer.false in
    see_lost_of _ _ c.requires.shape.0 _ _ _ _ _ _ c.load_for_get-loaded.ensures.learned test
    c.load_all.ensures.learned _ _ c.see-again.ensures.learned c.if-again-loaded.true

pub returns-then-same-clause-ok : goal.returns-then-same-clause-ok
returns-then-same-clause-ok g c =
    let test = sym (rw c.layout.ensures.layout at c.has_writer.ensures) ∙ c.if-has_writer.false in
    rw (← c.are_same-same.ensures.0 c.if-same.true)
    (has_seen_of _ _ c.requires.shape.0 _ _ _ _ _ _ c.load_for_get-loaded.ensures.learned test
    c.load_all.ensures.learned _ _ c.see-again.ensures.learned c.if-again-loaded.false
    (c.load_all.ensures.long ∙ c.requires.long))

pub returns-then-again-loaded-2-clause-err : goal.returns-then-again-loaded-2-clause-err
returns-then-again-loaded-2-clause-err g c =
    let test = sym (rw c.layout.ensures.layout at c.has_writer.ensures) ∙ c.if-has_writer.false in
    deny_lost_of _ _ c.requires.shape.0 _ _ _ _ _ _ _ _ c.load_for_get-loaded.ensures.learned test
    c.load_all.ensures.learned _ _ c.deny-again.ensures.learned c.if-again-loaded-2.true

pub returns-clause-ok : goal.returns-clause-ok
returns-clause-ok g c =
    let test = sym (rw c.layout.ensures.layout at c.has_writer.ensures) ∙ c.if-has_writer.false in
    denied_of _ _ c.requires.shape.0 _ _ _ _ _ _ _ _ c.load_for_get-loaded.ensures.learned test
    c.load_all.ensures.learned _ _ c.deny-again.ensures.learned c.if-again-loaded-2.false
