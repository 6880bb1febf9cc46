use Rattle.std.proofs.lemmas.Bool.{false≢true}
use Rattle.stamp_check.proofs.RespelledParts.{respelled_by}
use Rattle.stamp_check.proofs.migration.in_layout_two.Goals as goal

pub unreachable-requires : goal.unreachable-requires
unreachable-requires c =
    let parts = c.into_parts-limits.result in
    false≢true (c.in-None.ensures.some.1 (respelled_by c.args.history parts.0 c.widened.result parts.1 parts.2.items
    c.respelled_entries-entries.result.items parts.3.items c.into_parts-limits.ensures.parts c.widened.ensures
    c.respelled_entries-entries.ensures c.into_parts-limits.ensures.known))
