-- The value that a stamp stands for: it is one value, it goes on to be so, and beside no writer it is the last one.
use Rattle.std.proofs.Common.{◌≡◌, ◌≢◌, ◌⊎◌, ℕ, zero, suc, ◌+◌, ◌<◌, List, [], ◌∷◌, ◌++◌, length, refl, ap, sym, ◌∙◌}
use Rattle.std.proofs.Common.{subst, arith, length-append, inl, inr, Bool, true, false, Option, None, if◌then◌else◌}
use Rattle.std.specs.Prelude.{count_by}
use Rattle.std.proofs.lemmas.Bool.Decides.{nat_tests}
use mathlib.Core.Option.{some, some-injective, some-ne-none}
use mathlib.Core.List.{IsPrefix}
use lib.ListN.{get_elem?}
use Rattle.lent_table.specs.Table.{reads}
use Rattle.stamp_core.specs.Layout.{Units, units_of}
use Rattle.stamp_core.specs.Limits.{Bounds, AreInRange, units}
use Rattle.stamp_core.specs.LockEvent.{LockEvent, Counts, counts, is_write_released, write_count, writers}
use Rattle.stamp_core.specs.LockEvent.LockEvent.{ReadAcquired}
use Rattle.stamp_core.specs.Stamp.{read_stamp, IsReadStamp, IsOptimisticStamp}
use Rattle.stamp_core.specs.IsWellFormed.{IsWellFormed, CountsAreWithin}
use Rattle.stamp_core.specs.History.{Replies}
use Rattle.stamp_core.specs.Transition.{Transition, answer, change, next_read, may_read}
use Rattle.stamp_core.specs.declared.call.Call.{Call}
use Rattle.stamp_core.specs.declared.call.Call.TheVariants.{TryRead, ReadLock}
use Rattle.stamp_core.specs.declared.reply.Reply.TheVariants.{Stamp}
use Rattle.stamp_core.specs.declared.layout.Layout.{Layout}
use Rattle.stamp_core.proofs.TwoLayouts.{either_layout}
use Rattle.stamp_core.proofs.WellFormedPush.{obeys_now}
use Rattle.stamp_threads.specs.LockLog.{LockLog, events_after, IsLegalLog}
use Rattle.stamp_threads.proofs.Replying.{replies_of}
use Rattle.stamped_value.specs.declared.view.Held.{Held}
use Rattle.stamped_value.specs.declared.view.Held.TheVariants.{Reading}
use Rattle.stamped_value.specs.Values.{HasValues, IsLastOf}
use Rattle.stamped_value.specs.Held.{HasHold, Matches}
use Rattle.stamped_value.specs.ValueMade.{Seen, DoesBy, ValueMade}
use Rattle.stamped_value.specs.Stands.{Stands}
use Rattle.stamped_value.specs.OfStamp.{IsOfStamp, IsOfLast}
use Rattle.stamped_value.proofs.Homes.{one_last}
use Rattle.stamped_value.proofs.StillLast.{log_is_well_formed}

-- what is at a place of a list is there in a longer one
at_longer : {A : Type 0} (xs zs : List A) (k : ℕ) (x : A) → get_elem? xs k ≡ some x → get_elem? (xs ++ zs) k ≡ some x
at_longer [] zs k x e = absurd (some-ne-none x (sym e))
at_longer (y ∷ ys) zs zero x e = e
at_longer (y ∷ ys) zs (suc k) x e = at_longer ys zs k x e

at_last : {A : Type 0} (xs : List A) (x : A) → get_elem? (xs ++ x ∷ []) (length xs) ≡ some x
at_last [] x = refl
at_last (y ∷ ys) x = at_last ys x

has_last : {A : Type 0} (xs : List A) (k : ℕ) → length xs ≡ suc k → (x : A) × IsLastOf xs x
has_last [] k e = absurd (omega (arith, e))
has_last (x ∷ []) k e = (x, ([], refl))
has_last (x ∷ y ∷ ys) zero e = absurd (omega (arith, e))
has_last (x ∷ y ∷ ys) (suc k) e =
    let t = has_last (y ∷ ys) k (omega (arith, e)) in (t.0, (x ∷ t.1.0, ap (λ (l : List _). x ∷ l) t.1.1))

abbrev IsReadOrOptimistic : Units → ℕ → ℕ → Type 0
IsReadOrOptimistic u k s = IsReadStamp u k s ⊎ IsOptimisticStamp u k s

-- such a stamp is of one version
one_version : (l : Layout) (k j s : ℕ) → IsReadOrOptimistic (units_of l) k s → IsReadOrOptimistic (units_of l) j s →
    k ≡ j
one_version l k j s (inl x) (inl y) = grind (arith, either_layout l, x.number, x.most, y.number, y.most)
one_version l k j s (inl x) (inr y) = grind (arith, either_layout l, x.number, x.most, y.number)
one_version l k j s (inr x) (inl y) = grind (arith, either_layout l, x.number, y.most, y.number)
one_version l k j s (inr x) (inr y) = grind (arith, either_layout l, x.number, y.number)

-- where no writer is there, every version that began has ended
all_ended : (limits : Bounds) (events : List LockEvent) → IsWellFormed limits events → writers events ≡ 0 →
    count_by is_write_released events ≡ write_count events
all_ended limits events well_formed none =
    let few = (obeys_now limits events well_formed).write_acquired in grind arith

module _ {T : Type 0} (limits : Bounds) where
  -- it is one value
  pub one_of_stamp : (values : List T) (s : ℕ) (x y : T) → IsOfStamp limits values s x → IsOfStamp limits values s y →
      x ≡ y
  one_of_stamp values s x y a b =
      let same : a.version ≡ b.version = one_version limits.layout a.version b.version s a.stamp b.stamp in
      some-injective x y (sym a.nth ∙ (ap (get_elem? values) same ∙ b.nth))

  -- and stays it, whatever values come
  pub still_of_stamp : (values values' : List T) (s : ℕ) (x : T) → IsPrefix values values' →
      IsOfStamp limits values s x → IsOfStamp limits values' s x
  still_of_stamp values values' s x begins a = record {
    version = a.version;
    stamp = a.stamp;
    nth = subst (λ (l : List T). get_elem? l a.version ≡ some x) begins.1
        (at_longer values begins.0 a.version x a.nth);
  }

  module _ (log : LockLog) (values : List T) (s : ℕ) (range : AreInRange limits) (legal : IsLegalLog limits log)
      (are : HasValues limits log values) (free : writers (events_after limits log) ≡ 0)
      (stamp : IsReadOrOptimistic (units limits) (write_count (events_after limits log)) s) where
    -- beside no writer, a stamp of the version stands for the last value
    pub last_is_of_stamp : (x : T) → IsLastOf values x → IsOfStamp limits values s x
    last_is_of_stamp x last =
        let k : length last.0 ≡ write_count (events_after limits log) =
        omega (
          arith,
          all_ended limits _ (log_is_well_formed limits log range legal) free,
          are,
          ap length last.1,
          length-append last.0 (x ∷ []),
        ) in
        record {
          version = write_count (events_after limits log);
          stamp = stamp;
          nth = subst (λ (l : List T). get_elem? l (write_count (events_after limits log)) ≡ some x) (sym last.1)
              (subst (λ (n : ℕ). get_elem? (last.0 ++ x ∷ []) n ≡ some x) k (at_last last.0 x));
        }

    pub is_of_last : IsOfLast limits values s
    is_of_last =
        let last = has_last values _ are in
        let of_stamp = last_is_of_stamp last.0 last.1 in record {
          has = (last.0, of_stamp);
          last = λ x a. subst (IsLastOf values) (one_of_stamp values s last.0 x of_stamp a) last.1;
        }

  -- the last value is the stamp's, where the stamp's is the last
  pub last_of_stamp : (values : List T) (s : ℕ) (x : T) → IsOfLast limits values s → IsLastOf values x →
      IsOfStamp limits values s x
  last_of_stamp values s x of_last last = subst (IsOfStamp limits values s)
      (one_last values of_last.has.0 x (of_last.last of_last.has.0 of_last.has.1) last) of_last.has.1

  -- the stamp that a reader holds stands for the value that it reads
  pub reader_of_stamp : AreInRange limits → (v : Seen T) (s : ℕ) (x : T) → Stands limits v →
      v.0.held ≡ Reading s → v.1 ≡ reads x → IsOfStamp limits v.0.values s x
  reader_of_stamp range v s x stands held reading =
      let events = events_after limits v.0.pass.known in
      let legal = stands.consistent.legal in
      let m = subst (Matches limits events) held stands.matches in
      let h = subst (λ (g : Held). HasHold g v.0.values v.1) held stands.hold in
      let same : h.0 ≡ x = cc (h.1, reading) in
      let some_reader = m.1 in
      let apart = (obeys_now limits events (log_is_well_formed limits v.0.pass.known range legal)).within.apart in
      let free : writers events ≡ 0 = grind arith in
      last_is_of_stamp v.0.pass.known v.0.values s range legal stands.are free (inl m.0) x
      (subst (IsLastOf v.0.values) same h.2)

-- read mode where it is free, and else this
abbrev reading_or : Bounds → Counts → Bool → Option Transition → Option Transition
reading_or limits c may other = if may then change (ReadAcquired ∷ []) (next_read (units limits) c) else other

free_to_read : (limits : Bounds) (c : Counts) → may_read limits c ≡ true →
    (c.writers ≡ 0) × (c.readers < limits.readers)
free_to_read limits c may = grind (arith, nat_tests)

module _ {T : Type 0} (limits : Bounds) (s : ℕ) (v w : Seen T) (range : AreInRange limits) where
  -- what a call tells that got read mode of x after these events, where it found these values
  record Got (c : Counts) (values : List T) (x : T) : Type 0 where
    free : c.writers ≡ 0
    stamp : IsReadStamp (units limits) c.write_count s
    last : IsLastOf values x
    same : w.0.values ≡ values

  got : (c : Counts) (values : List T) (x : T) (may : Bool) (other : Option Transition) → w.1 ≡ reads x →
      CountsAreWithin limits c → (may ≡ true → (c.writers ≡ 0) × (c.readers < limits.readers)) →
      (Replies other (Stamp s) → ⊥) → Replies (reading_or limits c may other) (Stamp s) →
      DoesBy (reading_or limits c may other) v values w → Got c values x
  got c values x true other reading within free not replies does =
      let number : read_stamp (units limits) c.write_count (c.readers + 1) ≡ s = cc replies in
      let same : does.0 ≡ x = cc (does.2.1, reading) in
      let t = free refl in
      record {
        free = t.0;
        stamp = record {
          nth = c.readers + 1;
          some = omega arith;
          most = omega (arith, t.1, range.readers);
          version = omega (arith, within.versions, range.versions);
          number = sym number;
        };
        last = subst (IsLastOf values) same does.1;
        same = does.2.2;
      }
  got c values x false other reading within free not replies does = absurd (not replies)

  module _ (x : T) (some_stamp : s ≢ 0) (reading : w.1 ≡ reads x) where
    got_of_stamp : {call : Call} (m : ValueMade limits call (Stamp s) v w) →
        Got (counts (events_after limits m.made.log)) m.values x → IsOfStamp limits w.0.values s x
    got_of_stamp m g = subst (λ (l : List T). IsOfStamp limits l s x) (sym g.same)
        (last_is_of_stamp limits m.made.log m.values s range m.made.left.legal m.are g.free (inl g.stamp) x g.last)

    within_at : {call : Call} (m : ValueMade limits call (Stamp s) v w) →
        CountsAreWithin limits (counts (events_after limits m.made.log))
    within_at m = (obeys_now limits _ (log_is_well_formed limits m.made.log range m.made.left.legal)).within

    -- the stamp by which read mode was got stands for the value that is read
    pub try_read_of_stamp : ValueMade limits TryRead (Stamp s) v w → IsOfStamp limits w.0.values s x
    try_read_of_stamp m =
        let c = counts (events_after limits m.made.log) in
        got_of_stamp m (got c m.values x (may_read limits c) (answer (Stamp 0)) reading (within_at m)
        (free_to_read limits c) (λ e. some_stamp cc)
        (replies_of limits TryRead (Stamp s) v.0.pass w.0.pass refl m.made) m.does)

    pub read_lock_of_stamp : ValueMade limits ReadLock (Stamp s) v w → IsOfStamp limits w.0.values s x
    read_lock_of_stamp m =
        let c = counts (events_after limits m.made.log) in
        got_of_stamp m (got c m.values x (may_read limits c) None reading (within_at m)
        (free_to_read limits c) (λ e. absurd e)
        (replies_of limits ReadLock (Stamp s) v.0.pass w.0.pass refl m.made) m.does)
