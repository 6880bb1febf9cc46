use Rattle.std.proofs.Common.{◌++◌, ◌≡◌, arith, length-append, rules, ◌∙◌, ap, sym, inr, not, true, false, is_err}
use Rattle.std.proofs.lemmas.Grind.{common_steps}
use Rattle.std.proofs.KnownBytes.{Consumes-trans}
use Rattle.stamp_cli.specs.TakesNone.{takes_none}
use Rattle.stamp_cli.proofs.MadeSoFar as so_far
use Rattle.stamp_cli.proofs.input.read_input.Goals as goal

-- what was read before, and what the refused growth was to take
pub returns-in_err-read_more-clause-took : goal.returns-in_err-read_more-clause-took
returns-in_err-read_more-clause-took g c =
    let more = c.read_more.ensures.took in (
      c.loop-source.input.items ++ more.0,
      Consumes-trans _ _ _ c.loop-source.input.items more.0
          c.loop-source.invariant.took more.1,
      omega (arith, length-append c.loop-source.input.items more.0),
    )

pub returns-in_err-read_more-clause-failed : goal.returns-in_err-read_more-clause-failed
returns-in_err-read_more-clause-failed g c =
    let once = c.read_more.ensures.once in
    let same = so_far.last_tells _ _ _ _ _ once.result so_far.fails_of_none c.loop-source.invariant.reads once.added in
    search rules

pub returns-then-not-branch-clause-failed : goal.returns-then-not-branch-clause-failed
returns-then-not-branch-clause-failed g c =
    let once = c.read_more.ensures.once in
    let same = so_far.last_tells _ _ _ _ _ once.result so_far.fails_of_none c.loop-source.invariant.reads once.added in
    search rules

pub returns-then-not-branch-clause-whole : goal.returns-then-not-branch-clause-whole
returns-then-not-branch-clause-whole g c =
    let once = c.in_ok-read_more.ensures.once in
    let taken = so_far.taken_with_last _ _ _ _ once.result c.loop-source.invariant.reads once.added in
    omega (arith, once.grown.0, taken)

pub returns-then-not-branch-clause-ends : goal.returns-then-not-branch-clause-ends
returns-then-not-branch-clause-ends g c =
    let once = c.in_ok-read_more.ensures.once in
    let takes : takes_none once.result ≡ true = once.grown.1 ∙ ap not c.if-not-branch.true in
    let fine : is_err once.result ≡ false = search rules in
    so_far.to_the_end _ _ _ _ _ once.result c.loop-source.invariant.reads once.added takes fine

pub loop-source-preserved : goal.loop-source-preserved
loop-source-preserved g c =
    let handed = c.in_ok-read_more.ensures in
    let once = handed.once in
    let more = handed.more in
    let takes : takes_none once.result ≡ false = once.grown.1 ∙ ap not c.if-not-branch.false in
    record {
      room = grind (arith, common_steps);
      within = more.within;
      reads = so_far.more _ _ _ _ _ once.result c.loop-source.invariant.reads once.added takes
          (omega (arith, once.grown.0));
      took = rw more.grown (Consumes-trans _ _ _ c.loop-source.input.items more.taken c.loop-source.invariant.took
          more.took);
    }

pub returns-clause-whole : goal.returns-clause-whole
returns-clause-whole g c = sym (so_far.all_taken _ _ _ c.loop-source.invariant.reads)

pub returns-clause-ends : goal.returns-clause-ends
returns-clause-ends g c =
    let taken = so_far.all_taken _ _ _ c.loop-source.invariant.reads in
    inr (omega (arith, taken, c.loop-source.invariant.within))

pub returns-clause-failed : goal.returns-clause-failed
returns-clause-failed g c =
    let none = so_far.none_passes _ _ _ _ so_far.fails_of_none c.loop-source.invariant.reads in
    search rules
