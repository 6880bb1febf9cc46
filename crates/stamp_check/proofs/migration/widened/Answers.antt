use Rattle.std.proofs.Common.{◌∙◌, sym, subst}
use Rattle.std.proofs.lemmas.Bool.{false≢true}
use Rattle.stamp_core.specs.Limits.{AreInRange}
use Rattle.stamp_check.proofs.RespelledParts.{widened_in_range, widened_by}
use Rattle.stamp_check.proofs.migration.widened.Goals as goal

pub unreachable-requires : goal.unreachable-requires
unreachable-requires c =
    let same = widened_by c.args.limits.now c.readers.result c.versions.result c.most_versions.result
    c.min-versions.result c.readers.ensures.readers c.versions.ensures.versions c.most_versions.ensures
    c.min-versions.ensures in
    false≢true (c.in-Err-LimitsOutOfRange.ensures.in_range.1
    (subst AreInRange (sym same) (widened_in_range c.args.limits.now c.readers.ensures.in_range)))

pub returns : goal.returns
returns c =
    c.in-Ok.ensures.ok ∙ widened_by c.args.limits.now c.readers.result c.versions.result c.most_versions.result
    c.min-versions.result c.readers.ensures.readers c.versions.ensures.versions c.most_versions.ensures
    c.min-versions.ensures
