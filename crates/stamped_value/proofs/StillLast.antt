-- While a seat's stamp matches no version ends: to a reader the last value that it knows is still the last one.
use Rattle.std.proofs.Common.{◌≡◌, ℕ, suc, ◌<◌, List, [], ◌∷◌, ◌++◌, length, ap, sym, ◌∙◌, subst, arith}
use Rattle.std.proofs.Common.{append-nil, length-append}
use Rattle.std.specs.Prelude.{count_by}
use mathlib.Core.List.{IsPrefix}
use Rattle.lent_table.specs.Table.{Hold}
use Rattle.stamp_core.specs.Limits.{Bounds, AreInRange}
use Rattle.stamp_core.specs.LockEvent.{LockEvent, is_write_released, write_count, readers}
use Rattle.stamp_core.specs.Layout.{units_of}
use Rattle.stamp_core.specs.Stamp.{IsReadStamp}
use Rattle.stamp_core.specs.IsWellFormed.{IsWellFormed}
use Rattle.stamp_core.specs.declared.layout.Layout.{Layout}
use Rattle.stamp_core.proofs.TwoLayouts.{either_layout}
use Rattle.stamp_core.proofs.WellFormedPush.{obeys_now}
use Rattle.stamp_core.proofs.StampValidity.{legal_is_well_formed}
use Rattle.stamp_threads.specs.LockLog.{LockLog, events_after, history_in, IsLegalLog}
use Rattle.stamped_value.specs.declared.view.Held.{Held}
use Rattle.stamped_value.specs.declared.view.Held.TheVariants.{Free, Reading, Writing}
use Rattle.stamped_value.specs.Values.{HasValues}
use Rattle.stamped_value.specs.Held.{HasHold, Matches}

pub log_is_well_formed : (limits : Bounds) (log : LockLog) → AreInRange limits → IsLegalLog limits log →
    IsWellFormed limits (events_after limits log)
log_is_well_formed limits log range legal = legal_is_well_formed limits 0 (history_in log) range legal.legal

-- a read stamp is of one version
one_version : (l : Layout) (k j s : ℕ) → IsReadStamp (units_of l) k s → IsReadStamp (units_of l) j s → k ≡ j
one_version l k j s x y = grind (arith, either_layout l, x.number, x.most, y.number, y.most)

-- beside a reader every version that began has ended
all_ended : (limits : Bounds) (events : List LockEvent) → IsWellFormed limits events → 0 < readers events →
    count_by is_write_released events ≡ write_count events
all_ended limits events well_formed some =
    let o = obeys_now limits events well_formed in
    let few = o.write_acquired in
    let apart = o.within.apart in grind arith

-- a list is no longer than its beginning only where it is the same
same_list : {A : Type 0} (xs ys : List A) → IsPrefix xs ys → length ys ≡ length xs → ys ≡ xs
same_list xs ys (zs, e) same = by zs e
  where
    by : (zs : List _) → xs ++ zs ≡ ys → ys ≡ xs
    by [] e = sym e ∙ append-nil xs
    by (z ∷ zs) e = absurd (omega (arith, length-append xs (z ∷ zs), ap length e, same))

module _ {T : Type 0} (limits : Bounds) (range : AreInRange limits) (old new : LockLog) (xs ys : List T)
    (was_legal : IsLegalLog limits old) (legal : IsLegalLog limits new) (were : HasValues limits old xs)
    (are : HasValues limits new ys) (begins : IsPrefix xs ys) where
  same_values : (s : ℕ) → Matches limits (events_after limits old) (Reading s) →
      Matches limits (events_after limits new) (Reading s) → ys ≡ xs
  same_values s first now =
      let version = one_version limits.layout _ _ s now.0 first.0 in
      let before = all_ended limits _ (log_is_well_formed limits old range was_legal) first.1 in
      let after = all_ended limits _ (log_is_well_formed limits new range legal) now.1 in
      same_list xs ys begins (are ∙ (ap suc (after ∙ (version ∙ sym before)) ∙ sym were))

  -- what a seat has of the value, it has still
  pub has_still : (held : Held) (hold : Hold T) → Matches limits (events_after limits old) held →
      Matches limits (events_after limits new) held → HasHold held xs hold → HasHold held ys hold
  has_still Free hold first now has = has
  has_still (Reading s) hold first now has = subst (λ (zs : List T). HasHold (Reading s) zs hold)
      (sym (same_values s first now)) has
  has_still (Writing s) hold first now has = has
