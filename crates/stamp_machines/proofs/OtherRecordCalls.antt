-- What the other calls rely on stays.
use Rattle.std.proofs.Common.{◌≡◌, ℕ, ◌+◌, ◌<◌, ◌≤◌, ◌==◌, Bool, true, false, List, [], ◌∷◌, length}
use Rattle.std.proofs.Common.{Option, Some, None, refl, sym, ◌∙◌, arith, ◌⊎◌, inl, inr, zero, suc}
use Rattle.std.specs.Prelude.{slice_index_or, slice_set}
use Rattle.std.specs.List.{sum_by}
use Rattle.std.proofs.lemmas.List.Sums.{sum_by-set, sum_by-cons}
use Rattle.stamp_core.specs.Limits.{Bounds}
use Rattle.stamp_machines.specs.LockNumber.{counts_at}
use Rattle.stamp_machines.specs.Job.{Job}
use Rattle.stamp_machines.specs.RecordStage.{RecordStage, LoadingLock, Copying, Locking, Reading, Checking}
use Rattle.stamp_machines.specs.RecordStage.{Storing, Releasing, Share, Leave, Refuse}
use Rattle.stamp_machines.specs.RecordStage.{Upgrade, ReleaseFirst, Claim}
use Rattle.stamp_machines.specs.inner.RecordKept.{read_by, written_by, FitsRecordStage, FitsIn, RecordCallAt, read_in}
use Rattle.stamp_machines.specs.inner.RecordKept.{written_in, RecordKept, Moved, SameFor, AloneFor}

pub le_sum : (f : Option RecordCallAt → ℕ) (xs : List (Option RecordCallAt)) (j : ℕ) → f None ≡ 0 →
    f (slice_index_or xs j None) ≤ sum_by f xs
le_sum f [] j z = omega (arith, z)
le_sum f (x ∷ xs) zero z = omega (arith, sum_by-cons f x xs)
le_sum f (x ∷ xs) (suc j) z = omega (arith, sum_by-cons f x xs, le_sum f xs j z)

-- where one index has the whole sum, each other has nothing of it
zero_elsewhere : (f : Option RecordCallAt → ℕ) (xs : List (Option RecordCallAt)) (i j : ℕ) → f None ≡ 0 →
    sum_by f xs ≡ f (slice_index_or xs i None) → (i == j) ≡ false → f (slice_index_or xs j None) ≡ 0
zero_elsewhere f [] i j z h n = z
zero_elsewhere f (x ∷ xs) zero zero z h n = cc
zero_elsewhere f (x ∷ xs) zero (suc j) z h n = omega (arith, sum_by-cons f x xs, le_sum f xs j z)
zero_elsewhere f (x ∷ xs) (suc i) zero z h n = omega (arith, sum_by-cons f x xs, le_sum f xs i z)
zero_elsewhere f (x ∷ xs) (suc i) (suc j) z h n =
    zero_elsewhere f xs i j z (omega (arith, sum_by-cons f x xs, le_sum f xs i z)) (grind arith)

quiet-fits : (limits : Bounds) (k w k' w' : ℕ) (content content' record_words record_words' : List ℕ) (job : Job)
    (stage : RecordStage) → length content' ≡ length content → read_by stage ≡ 0 → written_by stage ≡ 0 →
    (k' ≡ k + 1) ⊎ ((w ≡ 1) × (k' ≡ k)) → FitsRecordStage limits k w content record_words job stage →
    FitsRecordStage limits k' w' content' record_words' job stage
quiet-fits limits k w k' w' content content' record_words record_words' job LoadingLock l r s e h = h
quiet-fits limits k w k' w' content content' record_words record_words' job (Copying first loaded) l r s e h = (
  h.0,
  grind (arith, h.1, e),
  omega (arith, h.2),
  λ q. absurd (elim e [ inl p ↦ omega (arith, h.1) | inr p ↦ late p q ]),
)
  where
    late : (w ≡ 1) × (k' ≡ k) → (counts_at limits first).write_count ≡ k' → ⊥
    late p q = let z = h.3 (q ∙ p.1) in omega (arith, p.0, z.0)
quiet-fits limits k w k' w' content content' record_words record_words' job (Locking Share seen) l r s e h = tt
quiet-fits limits k w k' w' content content' record_words record_words' job (Locking (Leave t loaded) seen) l r
    s e h = absurd (omega arith)
quiet-fits limits k w k' w' content content' record_words record_words' job (Locking (Refuse t) seen) l r s e
    h = absurd (omega arith)
quiet-fits limits k w k' w' content content' record_words record_words' job (Locking (Upgrade t) seen) l r s e
    h = absurd (omega arith)
quiet-fits limits k w k' w' content content' record_words record_words' job (Locking (ReleaseFirst t) seen) l r s e
    h = absurd (omega arith)
quiet-fits limits k w k' w' content content' record_words record_words' job (Locking Claim seen) l r s e h = h
quiet-fits limits k w k' w' content content' record_words record_words' job (Reading t loaded) l r s e h =
    absurd (omega arith)
quiet-fits limits k w k' w' content content' record_words record_words' job (Checking t loaded) l r s e h =
    absurd (omega arith)
quiet-fits limits k w k' w' content content' record_words record_words' job (Storing t i) l r s e h =
    absurd (omega arith)
quiet-fits limits k w k' w' content content' record_words record_words' job (Releasing t a) l r s e h =
    absurd (omega arith)

quiet-fits_in : (limits : Bounds) (k w k' w' : ℕ) (content content' record_words record_words' : List ℕ)
    (d : Option RecordCallAt) → length content' ≡ length content → read_in d ≡ 0 → written_in d ≡ 0 →
    (k' ≡ k + 1) ⊎ ((w ≡ 1) × (k' ≡ k)) → FitsIn limits k w content record_words d →
    FitsIn limits k' w' content' record_words' d
quiet-fits_in limits k w k' w' content content' record_words record_words' None l r s e h = tt
quiet-fits_in limits k w k' w' content content' record_words record_words' (Some d) l r s e h = (
  rw l h.0,
  rw l h.1,
  quiet-fits limits k w k' w' content content' record_words record_words' d.job d.stage l r
      s e h.2,
)

same-fits_in : (limits : Bounds) (k w k' w' : ℕ) (content content' record_words record_words' : List ℕ)
    (d : Option RecordCallAt) → (k' ≡ k) × (w' ≡ w) × (content' ≡ content) × (record_words' ≡ record_words) →
    FitsIn limits k w content record_words d → FitsIn limits k' w' content' record_words' d
same-fits_in limits k w k' w' content content' record_words record_words' d e h = rw (e.0, e.1, e.2, e.3) h

at_set_same : (xs : List (Option RecordCallAt)) (i : ℕ) (v : Option RecordCallAt) → i < length xs →
    slice_index_or (slice_set xs i v) i None ≡ v
at_set_same [] i v h = absurd (omega arith)
at_set_same (x ∷ xs) zero v h = refl
at_set_same (x ∷ xs) (suc i) v h = at_set_same xs i v (omega arith)

at_set_other : (xs : List (Option RecordCallAt)) (i j : ℕ) (v : Option RecordCallAt) → (i == j) ≡ false →
    slice_index_or (slice_set xs i v) j None ≡ slice_index_or xs j None
at_set_other [] i j v n = refl
at_set_other (x ∷ xs) zero zero v n = cc
at_set_other (x ∷ xs) zero (suc j) v n = refl
at_set_other (x ∷ xs) (suc i) zero v n = refl
at_set_other (x ∷ xs) (suc i) (suc j) v n = at_set_other xs i j v (grind arith)

-- one access keeps what holds of the record
pub moved-kept : (limits : Bounds) (lock : ℕ) (record_words content : List ℕ) (under_way : List (Option RecordCallAt))
    (t : ℕ) (before : RecordStage) (lock' : ℕ) (record_words' content' : List ℕ) (now : Option RecordCallAt) →
    RecordKept limits lock record_words content under_way → t < length under_way →
    read_in (slice_index_or under_way t None) ≡ read_by before →
    written_in (slice_index_or under_way t None) ≡ written_by before →
    Moved limits before lock record_words content lock' record_words' content' now →
    RecordKept limits lock' record_words' content' (slice_set under_way t now)
moved-kept limits lock record_words content under_way t before lock' record_words' content' now k h r w m =
    record {
      admitted = m.admitted;
      writers = omega (arith, sum_by-set written_in under_way t now None h, k.writers, m.writers, w);
      readers = omega (arith, sum_by-set read_in under_way t now None h, k.readers, m.readers, r);
      width = m.width;
      free = m.free;
      fits = λ j. go j (t == j) refl;
    }
  where
    others : (j : ℕ) → (t == j) ≡ false → SameFor limits lock record_words content lock' record_words' content'
        ⊎ AloneFor limits before lock lock' →
        FitsIn limits (counts_at limits lock').write_count (counts_at limits lock').writers content'
        record_words' (slice_index_or under_way j None)
    others j n (inl e) = same-fits_in limits _ _ _ _ content content' record_words record_words' _ e (k.fits j)
    others j n (inr e) =
        quiet-fits_in limits (counts_at limits lock).write_count (counts_at limits lock).writers _ _
        content content' record_words record_words' _ m.same_width
        (zero_elsewhere read_in under_way t j refl (k.readers ∙ e.1 ∙ sym r) n)
        (zero_elsewhere written_in under_way t j refl (k.writers ∙ e.0 ∙ sym w) n)
        e.2 (k.fits j)

    go : (j : ℕ) (b : Bool) → (t == j) ≡ b →
        FitsIn limits (counts_at limits lock').write_count (counts_at limits lock').writers content'
        record_words' (slice_index_or (slice_set under_way t now) j None)
    go j true q = let same : j ≡ t = grind (arith, q) in rw (same, at_set_same under_way t now h) m.fits
    go j false q = rw (at_set_other under_way t j now q) (others j q m.effect)
