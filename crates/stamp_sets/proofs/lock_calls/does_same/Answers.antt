use Rattle.std.proofs.Common.{ℕ, sym, subst}
use Rattle.std.proofs.lemmas.Bool.{eqb-true}
use Rattle.stamp_core.specs.Layout.{units_of}
use Rattle.stamp_core.specs.declared.layout.Layout.{Layout}
use Rattle.stamp_core.specs.LockCall.{call_as}
use Rattle.stamp_sets.specs.inner.Alike.{ReleasesRead}
use Rattle.stamp_sets.proofs.DoingSame.{releases_same}
use Rattle.stamp_sets.proofs.lock_calls.does_same.Goals as goal

pub returns-in-Some-released_version : goal.returns-in-Some-released_version
returns-in-Some-released_version c same = releases_same c.args.limits c.in-Some.version (call_as c.args.call)
    (call_as c.args.other)
    (subst (λ (y : Layout). ReleasesRead (units_of y) c.in-Some.version (call_as c.args.call))
    c.layout-layout.ensures.layout c.in-Some.ensures)
    (subst (λ (k : ℕ). ReleasesRead (units_of c.args.limits.layout) k (call_as c.args.other))
    (sym (eqb-true c.in-Some.version c.in-Some-released_version.others same))
    (subst (λ (y : Layout). ReleasesRead (units_of y) c.in-Some-released_version.others (call_as c.args.other))
    c.layout-layout.ensures.layout c.in-Some-released_version.ensures))
