use Rattle.std.proofs.Common.{◌+◌, ◌≤◌, length, arith}
use Rattle.stamp_core.proofs.TwoLayouts.{either_layout}
use Rattle.stamp_watch.proofs.candidates.versions_there.Goals as goal

pub returns : goal.returns
returns c = record {
  whole = λ old version between may. (
    c.least_given-low.ensures old version (between.least c.newest_told.result c.newest_told.ensures) may,
    (let most : version ≤ c.newest_told-newest.result + length c.in_ok-writing.writing.items =
        between.most c.newest_told-newest.result c.in_ok-writing.writing.items c.newest_told-newest.ensures
        c.in_ok-writing.ensures in
        let few : version ≤ c.args.limits.versions = between.within in
        grind (
          arith,
          most,
          few,
          either_layout c.args.limits.layout,
          c.versions.ensures.in_range.versions,
          c.versions.ensures.versions,
          c.len.ensures,
          c.saturating_add-high.ensures,
          c.min.ensures,
        )),
  );
  within = grind (arith, c.min.ensures, c.versions.ensures.versions);
}
