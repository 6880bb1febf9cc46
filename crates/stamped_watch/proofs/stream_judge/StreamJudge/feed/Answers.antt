use Rattle.std.proofs.Common.{◌++◌, arith, sym}
use Rattle.std.proofs.lemmas.Bool.Decides.{nat_tests}
use Rattle.std.proofs.lemmas.List.{nil_from_length}
use Rattle.stamped_watch.proofs.Ending.{so_far}
use Rattle.stamped_watch.proofs.Taking.{all_fed, empty_fed, fed_found, none_of}
use Rattle.stamped_watch.proofs.stream_judge.StreamJudge.feed.Goals as goal

pub returns-then-is_some-clause-fed : goal.returns-then-is_some-clause-fed
returns-then-is_some-clause-fed c most ahead fed is =
    fed_found most ahead fed c.args.bytes.now c.args.self.now (sym c.if-is_some.ensures) is

pub returns-then-is_empty-clause-fed : goal.returns-then-is_empty-clause-fed
returns-then-is_empty-clause-fed c most ahead fed is =
    empty_fed most ahead fed c.args.bytes.now c.args.self.now c.take_units.new.self is
    (none_of c.args.self.now.found (sym c.if-is_some.ensures)) (nil_from_length _ (grind (arith, nat_tests)))
    (c.in_ok-take_units.ensures most ahead is.taken is.has_taken)

pub returns-then-is_empty-clause-found : goal.returns-then-is_empty-clause-found
returns-then-is_empty-clause-found c most ahead fed is =
    so_far most ahead (fed ++ c.args.bytes.now) c.take_units.new.self
    (returns-then-is_empty-clause-fed c most ahead fed is)

pub returns-clause-fed : goal.returns-clause-fed
returns-clause-fed c most ahead fed is =
    all_fed most ahead fed c.args.bytes.now c.args.self.now c.take_with_part.new.self is
    (none_of c.args.self.now.found (sym c.if-is_some.ensures))
    (c.in_ok-take_with_part.ensures most ahead is.taken is.has_taken)

pub returns-clause-found : goal.returns-clause-found
returns-clause-found c most ahead fed is =
    so_far most ahead (fed ++ c.args.bytes.now) c.take_with_part.new.self (returns-clause-fed c most ahead fed is)
