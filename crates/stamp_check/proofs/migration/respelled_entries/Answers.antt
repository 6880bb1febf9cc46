use Rattle.std.proofs.Common.{◌<◌, length, ◌∙◌, ap, sym, arith}
use Rattle.std.specs.Prelude.{slice_set}
use Rattle.std.proofs.lemmas.List.Edits.{map_over_more}
use Rattle.stamp_core.specs.declared.entry.Entry.{Entry}
use Rattle.stamp_check.specs.Migration.{respelled_entry}
use Rattle.stamp_check.proofs.migration.respelled_entries.Goals as goal

pub loop-entry-preserved : goal.loop-entry-preserved
loop-entry-preserved c =
    let is = c.respelled_entry.ensures ∙ ap respelled_entry (sym c.entry-item.is) in
    let within : c.loop-entry.entry-index < length c.args.entries.items =
    omega (arith, ap length c.deref_mut-entry-items.ensures.value) in
    ap (λ (e : Entry). slice_set c.loop-entry.entry-items c.loop-entry.entry-index e) is ∙
    map_over_more respelled_entry c.args.entries.items c.loop-entry.entry-items c.loop-entry.entry-index
    c.entry-item.result within c.loop-entry.invariant c.entry-item.is
