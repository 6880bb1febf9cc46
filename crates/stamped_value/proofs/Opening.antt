-- A new guarded value: no history, the first value alone, and one seat, which holds no mode.
use Rattle.std.proofs.Common.{Bool, ℕ, [], ◌∷◌, refl}
use Rattle.lent_table.specs.Table.{opening}
use Rattle.stamp_core.specs.Limits.{Bounds}
use Rattle.stamp_machines.specs.LockNumber.{RepresentsAt}
use Rattle.stamp_threads.specs.PassView.{IsPart, every}
use Rattle.stamp_threads.specs.LockPass.{first_pass}
use Rattle.stamp_threads.proofs.Beginnings.{begins_all}
use Rattle.stamp_threads.proofs.ListElements.{only_one}
use Rattle.stamp_threads.proofs.NewComers.{stands_alone}
use Rattle.stamped_value.specs.declared.view.ValueView.{ValueView}
use Rattle.stamped_value.specs.declared.view.Held.TheVariants.{Free}
use Rattle.stamped_value.specs.inner.VersionRule.{IsKept, Fits}

-- the first seat, as it is before it has seen the word
abbrev pub first_view : {T : Type 0} → ValueView T
first_view = record { pass = first_pass; values = []; held = Free }

pub value_opens : {T : Type 0} {enterable : Bool} (limits : Bounds) (word : ℕ) (x : T) →
    RepresentsAt limits word [] → IsKept enterable limits x (opening word (first_view {T = T}) x)
value_opens {T} limits word x represents = record {
  log = [];
  values = x ∷ [];
  roots = 1;
  one_root = λ _. refl;
  legal = record { calls = tt; legal = tt };
  represents = represents;
  passes = stands_alone (IsPart every []) [] first_pass refl refl
      (record { known = begins_all []; own = refl; given = tt }) tt;
  are = refl;
  opens = ([], refl);
  home = (x, ([], refl), refl);
  fits = only_one (λ k v. Fits limits [] (x ∷ []) v) first_view
      (record { begins = (x ∷ [], refl); matches = tt; all = λ held. absurd (held refl) });
  readers_are = refl;
  writers_are = refl;
}
