use Rattle.std.proofs.Common.{refl, [], ◌∷◌, ◌++◌}
use Rattle.stamp_watch.proofs.GoingOn.{found_then, judge_then, known_then, one_longer_room, then_of}
use Rattle.stamp_watch.proofs.online.Judge.take.Goals as goal

pub go_on-requires-clause-on : goal.go_on-requires-clause-on
go_on-requires-clause-on c =
    let known = c.requires.some in
    record {
      limits = known.limits;
      run = known.run ++ c.args.event.now ∷ [];
      course_of = then_of known.limits known.most known.ahead known.run c.args.event.now c.args.self.now
          known.judge_of c.requires.none
          c.args.busy c.requires.may c.requires.busy c.add.new.self c.in_ok-add.ensures.course;
    }

pub go_on-requires-clause-room : goal.go_on-requires-clause-room
go_on-requires-clause-room c =
    one_longer_room c.args.self.now c.add.new.self c.requires.room c.in_ok-add.ensures.longer

pub returns-clause-found : goal.returns-clause-found
returns-clause-found c limits most ahead run is = found_then limits most ahead run c.args.event.now c.args.self.now is
    c.requires.none
    c.args.busy c.requires.may c.requires.busy c.add.new.self c.in_ok-add.ensures.course c.go_on.new.self
    c.in_ok-found.found c.in_ok-found.ensures.found

pub returns-clause-given : goal.returns-clause-given
returns-clause-given c limits most ahead run is = judge_then limits most ahead run c.args.event.now c.args.self.now is
    c.requires.none
    c.args.busy c.requires.may c.requires.busy c.add.new.self c.in_ok-add.ensures.course c.go_on.new.self _ refl refl
    refl refl
    (one_longer_room c.args.self.now c.add.new.self c.requires.room c.in_ok-add.ensures.longer)
    c.in_ok-add.ensures.longer c.in_ok-found.ensures.small c.in_ok-found.ensures.found
    c.in_ok-found.ensures.tells

pub returns-clause-known : goal.returns-clause-known
returns-clause-known c = known_then c.args.self.now _ c.args.event.now c.requires.some (returns-clause-given c)

pub returns-clause-kept : goal.returns-clause-kept
returns-clause-kept c limits most ahead run is keeps = c.in_ok-found.ensures.kept limits (run ++ c.args.event.now ∷ [])
    (then_of limits most ahead run c.args.event.now c.args.self.now is c.requires.none c.args.busy c.requires.may
    c.requires.busy c.add.new.self c.in_ok-add.ensures.course)
