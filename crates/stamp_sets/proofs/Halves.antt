-- What a half of a watch keeps.
use Rattle.std.proofs.Common.{ℕ, ◌≡◌, ◌<◌, ◌≤◌, List, length, Option, Some, sym, subst, arith}
use Rattle.stamp_runs.specs.declared.event.Event.{Event}
use Rattle.stamp_sets.specs.declared.half.Half.{Half}
use Rattle.stamp_sets.specs.declared.object.Object.{Object}
use Rattle.stamp_sets.specs.declared.open_call.OpenCall.{OpenCall}
use Rattle.stamp_sets.specs.declared.position.Position.{Position}
use Rattle.stamp_sets.specs.Half.{IsSameHalf, KeepsRun}
use Rattle.stamp_sets.specs.Judged.{judged}
use Rattle.stamp_sets.specs.Kept.{AreKept}
use Rattle.stamp_sets.specs.Told.{HasEachOpen, open_at}
use Rattle.stamp_sets.proofs.Tables.{open_at_within}

module _ (past : List Event) (last : ℕ) (half : Half) (keeps : KeepsRun past last half) where
  -- an open call is in one of the 64 lanes
  pub lane_of_open : (lane : ℕ) (begun : OpenCall) → open_at half.table.items lane ≡ Some begun → lane < 64
  lane_of_open lane begun is_open =
      let low = open_at_within half.table.items lane begun is_open in
      let full : length half.table.items ≡ 64 = keeps.kept.lanes in omega (arith, low, full)

  -- the last return may have been later: that of another object's call
  pub keeps_later : (place : ℕ) → last ≤ place → KeepsRun past place half
  keeps_later place due = record {
    kept = record {
      lanes = keeps.kept.lanes;
      possible = keeps.kept.possible;
      stand = record {
        possible = keeps.kept.stand.possible;
        whole = λ future told explained. keeps.kept.stand.whole future (record {
          ends = told.ends;
          sooner = told.sooner;
          due = λ lane begun reply at is ends. let high = told.due lane begun reply at is ends in
              omega (arith, due, high);
        }) explained;
      };
    };
    busy = keeps.busy;
  }

  pub keeps_copied : (copy : Half) → IsSameHalf half copy → KeepsRun past last copy
  keeps_copied copy same = record {
    kept = subst (λ (o : Object). AreKept (judged o) past copy.table.items last copy.positions.items) (sym same.object)
        (subst (λ (t : List (Option OpenCall)). AreKept (judged half.object) past t last copy.positions.items)
        (sym same.table)
        (subst (λ (xs : List Position). AreKept (judged half.object) past half.table.items last xs)
        (sym same.positions) keeps.kept));
    busy = subst (λ (n : ℕ). HasEachOpen copy.table.items n) (sym same.busy)
        (subst (λ (t : List (Option OpenCall)). HasEachOpen t half.busy) (sym same.table) keeps.busy);
  }
