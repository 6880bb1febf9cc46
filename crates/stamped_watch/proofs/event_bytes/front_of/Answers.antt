use Rattle.std.proofs.Common.{ℕ, ◌*◌, Option, sym, subst}
use Rattle.stamped_watch.specs.inner.EventBytes.{IsLongerAs}
use Rattle.stamped_watch.specs.EventBytes.{IsWidth}
use Rattle.stamped_watch.proofs.Plain.{longer_content, longer_put, longer_put_if}
use Rattle.stamped_watch.proofs.event_bytes.front_of.Goals as goal

pub returns-in-18 : goal.returns-in-18
returns-in-18 c =
    let some = (subst IsWidth c.in_ok-width.was c.requires).0 in (
      c.in_ok-width.was,
      subst (λ (k : ℕ). IsLongerAs c.args.width k c.args.lane (8 * c.in_ok-width.width))
          (sym c.in-18.is) (subst (λ (o : Option ℕ). IsLongerAs o 18 c.args.lane (8 * c.in_ok-width.width))
          (sym c.in_ok-width.was) (longer_put c.in_ok-width.width c.args.lane some)),
    )

pub returns-in-19 : goal.returns-in-19
returns-in-19 c =
    let some = (subst IsWidth c.in_ok-width.was c.requires).0 in (
      c.in_ok-width.was,
      subst (λ (k : ℕ). IsLongerAs c.args.width k c.args.lane (16 * c.in_ok-width.width))
          (sym c.in-19.is) (subst (λ (o : Option ℕ). IsLongerAs o 19 c.args.lane (16 * c.in_ok-width.width))
          (sym c.in_ok-width.was) (longer_put_if c.in_ok-width.width c.args.lane some)),
    )

pub returns-in-38 : goal.returns-in-38
returns-in-38 c =
    let some = (subst IsWidth c.in_ok-width.was c.requires).0 in (
      c.in_ok-width.was,
      subst (λ (k : ℕ). IsLongerAs c.args.width k c.args.lane (8 * c.in_ok-width.width))
          (sym c.in-38.is) (subst (λ (o : Option ℕ). IsLongerAs o 38 c.args.lane (8 * c.in_ok-width.width))
          (sym c.in_ok-width.was) (longer_content c.in_ok-width.width c.args.lane some)),
    )
