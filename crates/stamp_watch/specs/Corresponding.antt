-- Histories that tell of the same calls, at whatever positions, and of the same calls that had returned before the
-- same began.
use Rattle.std.specs.Prelude.{ℕ, ◌≡◌, ◌↔◌, List, slice_get, Some, option_map}
use Rattle.stamp_explain.specs.declared.observed.Observation.{Observation}
use Rattle.stamp_explain.specs.declared.observed.Returned.{Returned}
use Rattle.stamp_explain.specs.Observed.{ObservedHistory, IsBefore}

-- one call with one reply, or it is under way in both
pub record AreSameCalls (e f : Observation) : Type 0 where
  pub call : e.call ≡ f.call
  pub reply : option_map (λ (r : Returned). r.reply) e.returned ≡ option_map (λ (r : Returned). r.reply) f.returned

-- the other list has the call of this entry at this index
pub record HasSameAt (entries : List Observation) (i : ℕ) (e : Observation) : Type 0 where
  pub entry : Observation
  pub is_entry : slice_get entries i ≡ Some entry
  pub same : AreSameCalls e entry

-- so it is of each entry of the one list; no two have one index
pub record HasSameEach (entries others : List Observation) (there back : ℕ → ℕ) : Type 0 where
  pub each : (i : ℕ) (e : Observation) → slice_get entries i ≡ Some e → HasSameAt others (there i) e
  pub own : (i : ℕ) (e : Observation) → slice_get entries i ≡ Some e → back (there i) ≡ i

pub record Correspond (g h : ObservedHistory) : Type 0 where
  pub limits : g.limits ≡ h.limits
  pub width : g.width ≡ h.width
  pub there : ℕ → ℕ
  pub back : ℕ → ℕ
  pub forth : HasSameEach g.entries h.entries there back
  pub rear : HasSameEach h.entries g.entries back there
  pub before : (i j : ℕ) (a b c d : Observation) → slice_get g.entries i ≡ Some a → slice_get g.entries j ≡ Some b →
      slice_get h.entries (there i) ≡ Some c → slice_get h.entries (there j) ≡ Some d → IsBefore a b ↔ IsBefore c d
