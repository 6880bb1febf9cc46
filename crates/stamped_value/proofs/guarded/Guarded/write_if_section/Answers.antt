use Rattle.std.proofs.Common.{refl, inl, inr}
use Rattle.stamped_value.specs.inner.ValueLock.{token}
use Rattle.stamped_value.proofs.Testing.{still_same}
use Rattle.stamped_value.proofs.guarded.Guarded.write_if_section.Goals as goal

pub returns-in-Some-upgrade_or_release-clause-section : goal.returns-in-Some-upgrade_or_release-clause-section
returns-in-Some-upgrade_or_release-clause-section g c =
    let yes = c.in-Some.ensures.yes in
    let got = c.in-Some-upgrade_or_release.ensures.upgraded in
    let ends = c.write_held.ensures.ends in
    inl (record {
      reading = c.in-Some.reading;
      reader = token c.args.self.now c.read_where.new.seat.me;
      tested = yes.1;
      writing = c.in-Some-upgrade_or_release.writing;
      writer = token c.args.self.now c.upgrade_or_release.new.seat.me;
      upgraded = got.1;
      ends = ends;
      same = still_same c.read_where.new.seat.me c.upgrade_or_release.new.seat.me _ _ got.3 yes.1.has ends.has;
    })

pub returns-in-None-clause-section : goal.returns-in-None-clause-section
returns-in-None-clause-section g c =
    let tested = c.in-Some.ensures.yes.1 in
    let gave_up = (c.in-None.ensures.released refl).1 in
    inr (
      token c.args.self.now c.upgrade_or_release.new.seat.me,
      record {
        reading = c.in-Some.reading;
        reader = token c.args.self.now c.read_where.new.seat.me;
        tested = tested;
        gives_up = gave_up;
      },
      c.write_where.ensures.section,
    )
