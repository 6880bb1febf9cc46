-- A new lock: no history, and the first pass alone.
use Rattle.std.proofs.Common.{◌≡◌, ℕ, Bool, [], ◌∷◌, refl, sym, subst}
use Rattle.atomic_table.specs.Table.{opening}
use Rattle.stamp_core.specs.Limits.{Bounds}
use Rattle.stamp_core.specs.Word.{LockWord, Represents}
use Rattle.stamp_machines.specs.LockNumber.{RepresentsAt}
use Rattle.stamp_threads.specs.PassView.{IsPart, every}
use Rattle.stamp_threads.specs.LockPass.{first_pass}
use Rattle.stamp_threads.specs.inner.LockRule.{IsKept}
use Rattle.stamp_threads.proofs.Beginnings.{begins_all}
use Rattle.stamp_threads.proofs.NewComers.{stands_alone}

first_part : IsPart every [] first_pass
first_part = record { known = begins_all []; own = refl; given = tt }

pub lock_opens : {enterable : Bool} (limits : Bounds) (word : ℕ) → RepresentsAt limits word [] →
    IsKept enterable limits (opening (word ∷ []) [] (first_pass ∷ []))
lock_opens limits word represents = record {
  log = [];
  roots = 1;
  one_root = λ _. refl;
  one_word = refl;
  legal = record { calls = tt; legal = tt };
  represents = represents;
  passes = stands_alone (IsPart every []) [] first_pass refl refl first_part tt;
}

pub opening_number : (limits : Bounds) (word : LockWord) (number : ℕ) → Represents limits word [] →
    number ≡ word.bits → RepresentsAt limits number []
opening_number limits word number represents is =
    subst (λ (w : LockWord). Represents limits w [])
    (λ i. record { layout = represents.layout i; bits = sym is i }) represents
