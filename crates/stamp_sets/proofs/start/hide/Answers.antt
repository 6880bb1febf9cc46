use Rattle.std.proofs.Common.{◌≡◌, inl, refl, sym, ◌∙◌}
use Rattle.std.proofs.lemmas.Result.{on_ok_weaker}
use Rattle.stamp_sets.specs.declared.position.Position.{Position}
use Rattle.stamp_sets.specs.Judged.{judged}
use Rattle.stamp_sets.proofs.Starting.{hides_each_idle, hides_each_itself, hides_each_source}
use Rattle.stamp_sets.proofs.Overwriting.{judged_lawful}
use Rattle.stamp_sets.proofs.Trailing.{hide_noted, noted_none}
use Rattle.stamp_sets.proofs.start.hide.Goals as goal

pub returns-in_default-clause-hides : goal.returns-in_default-clause-hides
returns-in_default-clause-hides c = hides_each_idle (judged c.args.object.now) c.args.table.now c.args.lane
    c.args.position
    c.args.first.now.items (sym c.open_in.ensures ∙ c.in_default.is)

pub returns-in-None-clause-hides : goal.returns-in-None-clause-hides
returns-in-None-clause-hides c = on_ok_weaker c.hide_sources.result (λ hides. hides_each_source (judged
    c.args.object.now)
    c.args.table.now c.args.lane c.args.position c.in-Some.begun (sym c.open_in.ensures ∙ c.in-Some.is)
    c.args.first.now.items c.hide_sources.new.first.items (sym c.overwrites.ensures.value ∙ c.in-None.is) hides)
    c.hide_sources.ensures.hides

pub returns-in-Some-overwrites-clause-hides : goal.returns-in-Some-overwrites-clause-hides
returns-in-Some-overwrites-clause-hides c = on_ok_weaker c.add_by.result (λ adds. hides_each_itself (judged
    c.args.object.now)
    c.args.table.now c.args.lane c.args.position c.in-Some.begun (sym c.open_in.ensures ∙ c.in-Some.is)
    c.in-Some-overwrites.left c.hidden-then.result c.args.first.now.items c.add_by.new.list.items
    (sym c.overwrites.ensures.value ∙ c.in-Some-overwrites.is) c.requires.free c.hidden-then.ensures adds)
    c.add_by.ensures.adds

pub returns-in_default-clause-noted : goal.returns-in_default-clause-noted
returns-in_default-clause-noted c = noted_none (judged c.args.object.now) c.args.table.now
    (λ (p : Position). p ≡ c.args.position) c.args.trail.now c.args.first.now.items

pub returns-in-Some-overwrites-clause-noted : goal.returns-in-Some-overwrites-clause-noted
returns-in-Some-overwrites-clause-noted c = on_ok_weaker c.add_by.result (λ adds. hide_noted (judged c.args.object.now)
    c.args.table.now (judged_lawful c.args.object.now) c.args.lane c.args.lane c.args.position c.hidden-then.result
    (record {
      begun = c.in-Some.begun;
      number = c.in-Some-overwrites.left;
      is_open = sym c.open_in.ensures ∙ c.in-Some.is;
      overwrites = sym c.overwrites.ensures.value ∙ c.in-Some-overwrites.is;
      free = c.requires.free;
      hidden = c.hidden-then.ensures;
      answers = inl refl;
    }) c.args.trail.now c.add_by.new.trail c.args.first.now.items c.add_by.new.list.items adds) c.add_by.ensures.noted
