-- Splits and joins of seats keep the rule of the running word.
use Rattle.std.proofs.Common.{◌≡◌, ℕ, ◌+◌, List, [], ◌∷◌, ◌++◌, map, take, drop, set, refl, ap}
use Rattle.std.proofs.Common.{sym, get_or}
use Rattle.std.proofs.Common.{Bool, true, false, true≢false, ◌∙◌, subst, arith}
use Rattle.atomic_table.specs.Table.{State, Splits, Joins, Enters}
use Rattle.stamp_core.specs.Limits.{Bounds}
use Rattle.stamp_threads.specs.PassView.{IsPart, every, after_split, split_off, entering}
use Rattle.stamp_threads.specs.Seats.{alone}
use Rattle.stamp_threads.specs.inner.Seats.{AreSeated, both}
use Rattle.stamp_threads.specs.LockPass.{LockPassView, IsConsistentWith, HasEntered, first_of}
use Rattle.stamp_threads.specs.inner.LockPass.{Seated, second_of}
use Rattle.stamp_threads.specs.inner.LockRule.{IsKept}
use Rattle.stamp_threads.proofs.GivenNames.{child_none, child_unused_all, given_more_all}
use Rattle.stamp_threads.proofs.GivenNames.{part-after_split, part-split_off}
use Rattle.stamp_threads.proofs.SeatMoves.{gives, together, parted}
use Rattle.stamp_threads.proofs.NewComers.{comes, new_part}

lock_with_views : {enterable : Bool} (limits : Bounds) (s : State (Unit {0}) (List LockPassView))
    (r : IsKept enterable limits s) (roots : ℕ) (one_root : enterable ≡ false → roots ≡ 1)
    (views : List (List LockPassView)) →
    AreSeated (IsPart every r.log) roots r.log views →
    IsKept enterable limits record { words = s.words; homes = s.homes; views = views }
lock_with_views limits s r roots one_root views passes = record {
  log = r.log;
  roots = roots;
  one_root = one_root;
  one_word = r.one_word;
  legal =
      r.legal;
  represents = r.represents;
  passes = passes;
}

-- a pass gives a new one
pub splits_give : (enterable : Bool) (limits : Bounds) (id : ℕ) (me : Seated) →
    me ≡ alone (first_of me.0) → Splits (IsKept enterable limits) id me.0 (map after_split me.0)
    (map split_off me.0)
splits_give enterable limits id me is =
    subst (λ (vs : List LockPassView). Splits (IsKept enterable limits) id vs (map after_split vs)
    (map split_off vs)) (sym (ap (λ (m : Seated). m.0) is)) (λ s r at.
    let v : LockPassView = first_of me.0 in
    let f = r.passes.fits id 0 v (v ∷ [], at, refl) in
    lock_with_views limits s r r.roots r.one_root (set s.views id (after_split v ∷ []) ++ (split_off v ∷ []) ∷ [])
    (gives (IsPart every r.log) r.roots r.log s.views r.passes id v at (part-after_split every r.log v f)
    (part-split_off every r.log v f)))

-- two passes go on one seat
pub joins_share : (enterable : Bool) (limits : Bounds) (id : ℕ) (me : Seated) (other : ℕ)
    (them : Seated) → me ≡ alone (first_of me.0) →
    them ≡ alone (first_of them.0)
    → Joins (IsKept enterable limits) id me.0 other them.0 (me.0 ++ them.0) []
joins_share enterable limits id me other them is their =
    subst (λ (p : List LockPassView × List LockPassView). Joins (IsKept enterable limits) id p.0 other p.1
    (p.0 ++ p.1) [])
    (λ i. (
      sym (ap (λ (m : Seated). m.0) is) i,
      sym (ap (λ (m : Seated). m.0) their) i,
    )) (λ s r at away there.
    let v : LockPassView = first_of me.0 in
    let u : LockPassView = first_of them.0 in
    lock_with_views limits s r r.roots r.one_root (set (set s.views id (v ∷ u ∷ [])) other [])
    (together (IsPart every r.log) r.roots r.log s.views r.passes id v other u at away there))

-- and on two again
pub splits_part : (enterable : Bool) (limits : Bounds) (id : ℕ) (me : Seated) →
    me ≡ both (first_of me.0) (second_of me.0) →
    Splits (IsKept enterable limits) id me.0 (take 1 me.0) (drop 1 me.0)
splits_part enterable limits id me is =
    subst (λ (vs : List LockPassView). Splits (IsKept enterable limits) id vs (take 1 vs) (drop 1 vs))
    (sym (ap (λ (m : Seated). m.0) is)) (λ s r at.
    let v : LockPassView = first_of me.0 in
    let u : LockPassView = second_of me.0 in
    lock_with_views limits s r r.roots r.one_root (set s.views id (v ∷ []) ++ (u ∷ []) ∷ [])
    (parted (IsPart every r.log) r.roots r.log s.views r.passes id v u at))

pub splits_consistent : (limits : Bounds) (v : LockPassView) → IsConsistentWith limits v →
    IsConsistentWith limits (after_split v) × IsConsistentWith limits (split_off v)
splits_consistent limits v c = (
  record {
    legal = c.legal;
    own = c.own;
    given =
        given_more_all v.name v.splits (v.splits + 1) v.known (omega arith) c.given;
  },
  record {
    legal = c.legal;
    own = child_none every v.name v.splits v.known c.given;
    given =
        child_unused_all v.name v.splits v.known c.given;
  },
)

-- a load that makes a seat of its own
pub allows_enter : {enterable : Bool} (limits : Bounds) (slots : ℕ) → enterable ≡ true →
    Enters (IsKept enterable limits) slots 0
    (λ n w. ((w, []) ≡ alone (first_of w)) × HasEntered limits (first_of w))
allows_enter limits slots may s r _ _ =
    let v : LockPassView = entering r.roots tt r.log (get_or s.words 0 0) in
    let part : IsPart every r.log v = new_part every r.roots tt r.log (get_or s.words 0 0) r.passes.entries in (
      v ∷ [],
      lock_with_views limits s r (r.roots + 1)
          (λ shut. absurd (true≢false (sym may ∙ shut))) (s.views ++ (v ∷ []) ∷ [])
          (comes (IsPart every r.log) r.roots r.log s.views r.passes tt (get_or s.words 0 0) part),
      (
        refl,
        record {
          root = r.roots;
          word = get_or s.words 0 0;
          view = refl;
          represents = r.represents;
          new = r.passes.entries;
          consistent = record { legal = r.legal; own = part.own; given = part.given };
        },
      ),
    )
