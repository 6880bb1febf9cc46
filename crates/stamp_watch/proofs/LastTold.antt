-- How far the version of a lock may be beyond those that were told.
use Rattle.std.proofs.Common.{◌≡◌, ◌⊎◌, ◌+◌, ◌-◌, ◌<◌, ◌≤◌, ℕ, List, length, get_or, sym, ◌∙◌, ap, subst, inl}
use Rattle.std.proofs.Common.{inr, arith}
use Rattle.std.specs.List.{Contains}
use Rattle.std.proofs.lemmas.Bool.{cases_lt}
use Rattle.std.proofs.lemmas.List.{get_or_default}
use Rattle.indexmap.proofs.IndexTableLemmas.Probe.{Into, OneToOne, pigeonhole}
use Rattle.stamp_core.specs.LockEvent.{write_count}
use Rattle.stamp_core.specs.Limits.{Bounds, units}
use Rattle.stamp_core.specs.Stamp.{write_stamp}
use Rattle.stamp_core.specs.declared.reply.Reply.TheVariants.{Stamp}
use Rattle.stamp_core.proofs.TwoLayouts.{either_layout}
use Rattle.stamp_runs.specs.BothRun.{State}
use Rattle.stamp_runs.specs.Run.{Lanes}
use Rattle.stamp_runs.specs.Run.Phase.{Gets}
use Rattle.stamp_runs.specs.declared.event.Event.{Event}
use Rattle.stamp_runs.proofs.Lanes.{one_reply}
use Rattle.stamp_watch.specs.inner.Candidates.{AreTelling, AreWriting, IsNewestTold}
use Rattle.stamp_watch.proofs.Giving.{same_stamp}
use Rattle.stamp_watch.proofs.ToldAlong.{Holds, Stands}

-- each version that was not told is held by an open call that may have acquired it, and each in a lane of its own
module _ (limits : Bounds) (events : List Event) (s : State) (lanes : Lanes) (stands : Stands limits events s lanes)
    (told : ℕ) (newest : IsNewestTold limits events told) (writing : List ℕ) (are : AreWriting events writing) where
  -- the place of its lane
  record Held (i : ℕ) : Type 0 where
    holds : Holds limits events lanes (told + 1 + i)
    among : Contains writing holds.lane

  held : (i : ℕ) → i < write_count s.0 - told → Held i
  held i less = by (stands.issued (told + 1 + i) (omega arith) (omega (arith, less)))
    where
      by : AreTelling limits (told + 1 + i) events ⊎ Holds limits events lanes (told + 1 + i) → Held i
      by (inl is) = absurd (let most : told + 1 + i ≤ told = newest.most (told + 1 + i) is in omega (arith, most))
      by (inr holds) = record { holds = holds; among = are holds.lane holds.call holds.there holds.writes }

  abbrev place_in : (i : ℕ) → (i < write_count s.0 - told) ⊎ (write_count s.0 - told ≤ i) → ℕ
  place_in i (inl less) = (held i less).among.0
  place_in i (inr more) = 0

  abbrev place_of : ℕ → ℕ
  place_of i = place_in i (cases_lt i (write_count s.0 - told))

  within : Into place_of (write_count s.0 - told) (length writing)
  within i less = by (cases_lt i (write_count s.0 - told))
    where
      by : (c : (i < write_count s.0 - told) ⊎ (write_count s.0 - told ≤ i)) → place_in i c < length writing
      by (inl is) = (held i is).among.1
      by (inr more) = absurd (omega (arith, less, more))

  same_lane : (i j : ℕ) (p : Held i) (q : Held j) → p.among.0 ≡ q.among.0 → p.holds.lane ≡ q.holds.lane
  same_lane i j p q same = sym p.among.2 ∙
      get_or_default writing p.among.0 p.holds.lane q.holds.lane p.among.1 ∙
      ap (λ (n : ℕ). get_or writing n q.holds.lane) same ∙ q.among.2

  same_version : (j k : ℕ) → write_stamp (units limits) j ≡ write_stamp (units limits) k → j ≡ k
  same_version j k same = grind (arith, either_layout limits.layout, same)

  one_place : (i j : ℕ) (p : Held i) (q : Held j) → p.among.0 ≡ q.among.0 → i ≡ j
  one_place i j p q same =
      let is : told + 1 + i ≡ told + 1 + j = same_version (told + 1 + i) (told + 1 + j)
      (same_stamp (one_reply p.holds.gets (subst (λ (l : ℕ). lanes l ≡ Gets (Stamp (write_stamp (units limits)
      (told + 1 + j)))) (sym (same_lane i j p q same)) q.holds.gets))) in omega (arith, is)

  apart : OneToOne place_of (write_count s.0 - told)
  apart i j less before = by (cases_lt i (write_count s.0 - told)) (cases_lt j (write_count s.0 - told))
    where
      by : (c : (i < write_count s.0 - told) ⊎ (write_count s.0 - told ≤ i))
          (d : (j < write_count s.0 - told) ⊎ (write_count s.0 - told ≤ j)) → place_in i c ≡ place_in j d → i ≡ j
      by (inl p) (inl q) same = one_place i j (held i p) (held j q) same
      by (inr more) d same = absurd (omega (arith, less, more))
      by (inl p) (inr more) same = absurd (omega (arith, before, more))

  pub no_newer : write_count s.0 ≤ told + length writing
  no_newer = let few : write_count s.0 - told ≤ length writing =
      pigeonhole (write_count s.0 - told) (length writing) place_of within apart in omega (arith, few)
