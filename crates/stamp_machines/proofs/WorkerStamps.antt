-- The stamps that workers keep, after one worker is set.
use Rattle.std.proofs.Common.{◌≡◌, ℕ, ◌<◌, ◌==◌, Bool, true, false, List, [], ◌∷◌, ◌++◌, length}
use Rattle.std.proofs.Common.{zero, suc, if◌then◌else◌, refl, ◌∙◌, ap, arith}
use Rattle.std.specs.Prelude.{slice_set, slice_index_or, slice_get, vec_len, vec_capacity, map}
use Rattle.stamp_machines.specs.declared.state.Worker.{Worker}
use Rattle.stamp_machines.specs.StateFields.{stamps_at, stamps_in, begun_in}
use Rattle.stamp_machines.specs.inner.StateFields.{HasRoom}

pub stamps_at-index : (ws : List Worker) (i : ℕ) (d : Worker) → i < length ws →
    stamps_at ws i ≡ stamps_in (slice_index_or ws i d)
stamps_at-index [] i d h = absurd (omega arith)
stamps_at-index (x ∷ ws) zero d h = refl
stamps_at-index (x ∷ ws) (suc i) d h = stamps_at-index ws i d (omega arith)

pub stamps_at-set_same : (ws : List Worker) (i : ℕ) (w : Worker) → i < length ws →
    stamps_at (slice_set ws i w) i ≡ stamps_in w
stamps_at-set_same [] i w h = absurd (omega arith)
stamps_at-set_same (x ∷ ws) zero w h = refl
stamps_at-set_same (x ∷ ws) (suc i) w h = stamps_at-set_same ws i w (omega arith)

pub stamps_at-set_other : (ws : List Worker) (i t : ℕ) (w : Worker) → (t == i) ≡ false →
    stamps_at (slice_set ws i w) t ≡ stamps_at ws t
stamps_at-set_other [] i t w h = refl
stamps_at-set_other (x ∷ ws) zero zero w h = cc
stamps_at-set_other (x ∷ ws) zero (suc t) w h = refl
stamps_at-set_other (x ∷ ws) (suc i) zero w h = refl
stamps_at-set_other (x ∷ ws) (suc i) (suc t) w h = stamps_at-set_other ws i t w (grind arith)

pub stamps_at-set : (ws : List Worker) (i t : ℕ) (w : Worker) → i < length ws →
    stamps_at (slice_set ws i w) t ≡ (if t == i then stamps_in w else stamps_at ws t)
stamps_at-set ws i t w h = go (t == i) refl
  where
    go : (b : Bool) → (t == i) ≡ b →
        stamps_at (slice_set ws i w) t ≡ (if b then stamps_in w else stamps_at ws t)
    go false e = stamps_at-set_other ws i t w e
    go true e = let same : t ≡ i = grind (arith, e) in rw same (stamps_at-set_same ws i w h)

-- a worker set to one with the same stamps
pub stamps_at-kept : (ws : List Worker) (i t : ℕ) (w : Worker) → i < length ws →
    stamps_in w ≡ stamps_at ws i → stamps_at (slice_set ws i w) t ≡ stamps_at ws t
stamps_at-kept ws i t w h e = go (t == i) refl
  where
    go : (b : Bool) → (t == i) ≡ b → stamps_at (slice_set ws i w) t ≡ stamps_at ws t
    go false q = stamps_at-set_other ws i t w q
    go true q = let same : t ≡ i = grind (arith, q) in rw same (stamps_at-set_same ws i w h ∙ e)

-- a worker set to one with one stamp more
pub stamps_at-more : (ws : List Worker) (i t s : ℕ) (w : Worker) → i < length ws →
    stamps_in w ≡ stamps_at ws i ++ s ∷ [] →
    stamps_at (slice_set ws i w) t ≡ (if t == i then stamps_at ws t ++ s ∷ [] else stamps_at ws t)
stamps_at-more ws i t s w h e = go (t == i) refl
  where
    go : (b : Bool) → (t == i) ≡ b →
        stamps_at (slice_set ws i w) t ≡ (if b then stamps_at ws t ++ s ∷ [] else stamps_at ws t)
    go false q = stamps_at-set_other ws i t w q
    go true q = let same : t ≡ i = grind (arith, q) in rw same (stamps_at-set_same ws i w h ∙ e)

-- a worker added that has kept no stamp
pub stamps_at-none_more : (ws : List Worker) (w : Worker) (t : ℕ) → stamps_in w ≡ [] →
    stamps_at ws t ≡ [] → stamps_at (ws ++ w ∷ []) t ≡ []
stamps_at-none_more [] w zero e h = e
stamps_at-none_more [] w (suc t) e h = refl
stamps_at-none_more (x ∷ ws) w zero e h = h
stamps_at-none_more (x ∷ ws) w (suc t) e h = stamps_at-none_more ws w t e h

pub room_at : (ws : List Worker) (i : ℕ) (d : Worker) → i < length ws → HasRoom (slice_get ws i) →
    vec_len (slice_index_or ws i d).stamps < vec_capacity (slice_index_or ws i d).stamps
room_at [] i d h r = absurd (omega arith)
room_at (x ∷ ws) zero d h r = r
room_at (x ∷ ws) (suc i) d h r = room_at ws i d (omega arith) r

pub room-set : (ws : List Worker) (i : ℕ) (w : Worker) → vec_len w.stamps < vec_capacity w.stamps →
    HasRoom (slice_get (slice_set ws i w) i)
room-set [] i w h = tt
room-set (x ∷ ws) zero w h = h
room-set (x ∷ ws) (suc i) w h = room-set ws i w h

pub begun-same : (ws : List Worker) (i : ℕ) (w d : Worker) → i < length ws →
    begun_in w ≡ begun_in (slice_index_or ws i d) →
    map begun_in (slice_set ws i w) ≡ map begun_in ws
begun-same [] i w d h e = refl
begun-same (x ∷ ws) zero w d h e = ap (λ b. b ∷ map begun_in ws) e
begun-same (x ∷ ws) (suc i) w d h e =
    ap (λ bs. begun_in x ∷ bs) (begun-same ws i w d (omega arith) e)

pub same_stamps : (f g : ℕ → List ℕ) → ((t : ℕ) → f t ≡ g t) → f ≡ g
same_stamps f g h = λ i t. h t i
