use Rattle.std.proofs.Common.{◌≡◌, true, false, rules, refl, inl, inr}
use Rattle.stamped_lock.proofs.handle.LockHandle.write_if.Goals as goal

pub returns-then-not-branch : goal.returns-then-not-branch
returns-then-not-branch g c =
    let no : c.in_ok-read_lent.field-0 ≡ false = search rules in inl (refl, rw no at c.in_ok-read_lent.ensures)

pub returns : goal.returns
returns g c =
    let yes : c.in_ok-read_lent.field-0 ≡ true = search rules in
    inr (inr (c.read_lent.new.self, rw yes at c.in_ok-read_lent.ensures, c.write_tested.ensures))
