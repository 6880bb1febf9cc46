use Rattle.std.proofs.Common.{◌≡◌}
use Rattle.std.proofs.lemmas.Result.{on_ok_weaker}
use Rattle.stamp_sets.specs.declared.position.Position.{Position}
use Rattle.stamp_sets.specs.Judged.{judged}
use Rattle.stamp_sets.proofs.Starting.{takes_hidden}
use Rattle.stamp_sets.proofs.Trailing.{fix_noted, noted_then}
use Rattle.stamp_sets.proofs.start.take_up.Goals as goal

pub returns-clause-takes : goal.returns-clause-takes
returns-clause-takes c = on_ok_weaker c.hide.result (λ hides. takes_hidden (judged c.args.object.now) c.args.table.now
    c.args.lane c.args.position c.args.first.now.items c.push-2.new.self.items c.fixed-then.result
    c.in_ok-push-2.ensures.items c.fixed-then.ensures c.hide.new.first.items hides) c.hide.ensures.hides

pub returns-clause-noted : goal.returns-clause-noted
returns-clause-noted c = on_ok_weaker c.hide.result (λ noted. noted_then (judged c.args.object.now) c.args.table.now
    (λ (p : Position). p ≡ c.args.position) c.args.trail.now c.note.new.self c.hide.new.trail c.args.first.now.items
    c.push-2.new.self.items c.hide.new.first.items (fix_noted (judged c.args.object.now) c.args.table.now c.args.lane
    c.args.position c.fixed-then.result c.fixed-then.ensures c.args.trail.now c.note.new.self c.args.first.now.items
    c.push-2.new.self.items c.in_ok-push-2.ensures.items c.in_ok-note.ensures) noted) c.hide.ensures.noted
