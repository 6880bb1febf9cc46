use Rattle.std.proofs.Common.{List, [], ◌∷◌, ◌++◌, ◌∙◌, ap, Option}
use Rattle.stamp_sets.specs.declared.open_call.OpenCall.{OpenCall}
use Rattle.stamp_sets.specs.declared.position.Position.{Position}
use Rattle.stamp_sets.specs.Judged.{judged}
use Rattle.stamp_sets.specs.Told.{open_at}
use Rattle.stamp_sets.proofs.Stepping.{busy_first, kept_first}
use Rattle.stamp_sets.proofs.Tables.{open_at_idle}
use Rattle.stamp_sets.proofs.half.Half.new.Goals as goal

pub returns-clause-keeps : goal.returns-clause-keeps
returns-clause-keeps c = record {
  kept = kept_first (judged c.args.object) c.in_ok-table.table.items c.opening.result c.in_ok-table.ensures
      c.opening.ensures c.push.new.self.items (c.in_ok-push.ensures.items ∙
      ap (λ (xs : List Position). xs ++ c.opening.result ∷ []) c.new-positions.ensures.items);
  busy = busy_first c.in_ok-table.table.items c.in_ok-table.ensures;
}

pub returns-clause-new : goal.returns-clause-new
returns-clause-new c = record {
  idle = c.in_ok-table.ensures;
  first = c.opening.result;
  only = c.in_ok-push.ensures.items ∙
      ap (λ (xs : List Position). xs ++ c.opening.result ∷ []) c.new-positions.ensures.items;
  opening = c.opening.ensures;
}

pub returns-clause-idle : goal.returns-clause-idle
returns-clause-idle c lane = ap (λ (t : List (Option OpenCall)). open_at t lane) c.in_ok-table.ensures ∙
    open_at_idle 64 lane
