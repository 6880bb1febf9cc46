use Rattle.std.specs.Prelude.{◌≡◌, fold, take}
use Rattle.stamped_watch.specs.Calls.{IsTold, Told, told_with}
use Rattle.stamped_watch.proofs.begun.Calls.push_all.Given as goal

abbrev pub invariant-loop-i : goal.invariant-loop-i
invariant-loop-i l = (told : Told) → told.events ≡ 0 → IsTold l.fn.self told →
    IsTold l.self (fold told_with told (take l.i l.events))
