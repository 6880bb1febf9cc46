use Rattle.std.proofs.Common.{◌≡◌, ◌++◌, sym}
use Rattle.std.proofs.lemmas.List.{take-append-drop}
use Rattle.stamped_watch.proofs.TakingEvent.{cut_for, data_taken, small_told, some_named}
use Rattle.stamped_watch.proofs.stream_judge.StreamJudge.take_data.Goals as goal

pub returns-in_default-clause-taken : goal.returns-in_default-clause-taken
returns-in_default-clause-taken c = cut_for c.args.front.now c.told-front c.args.self.now c.requires.none
    c.args.behind.now c.args.width c.args.many c.requires.front c.in_default.ensures.cases

pub give-requires-clause-some : goal.give-requires-clause-some
give-requires-clause-some c =
    let cases = c.in-Some.ensures.cases in
    let parts : c.args.behind.now ≡ c.in-Some.words.now ++ c.in-Some.rest.now =
    rw (cases.1, cases.2) (sym (take-append-drop c.args.many c.args.behind.now)) in
    some_named c.args.front.now c.told-front c.args.self.now c.requires.none
    c.in-Some-judge.inner c.in-Some-judge.is c.event.new.self c.in-Some.words.now c.in-Some.rest.now c.args.behind.now
    c.in_ok-event.event parts c.in_ok-event.ensures.event c.requires.some

pub give-requires-clause-small : goal.give-requires-clause-small
give-requires-clause-small c =
    let cases = c.in-Some.ensures.cases in
    let parts : c.args.behind.now ≡ c.in-Some.words.now ++ c.in-Some.rest.now =
    rw (cases.1, cases.2) (sym (take-append-drop c.args.many c.args.behind.now)) in
    small_told c.args.front.now c.told-front c.args.self.now c.requires.none
    c.in-Some-judge.inner c.in-Some-judge.is c.event.new.self c.in-Some.words.now c.in-Some.rest.now c.args.behind.now
    c.in_ok-event.event parts c.in_ok-event.ensures.event

pub returns-clause-taken : goal.returns-clause-taken
returns-clause-taken c =
    let cases = c.in-Some.ensures.cases in
    let parts : c.args.behind.now ≡ c.in-Some.words.now ++ c.in-Some.rest.now =
    rw (cases.1, cases.2) (sym (take-append-drop c.args.many c.args.behind.now)) in
    data_taken c.args.front.now c.told-front c.args.self.now c.requires.none
    c.in-Some-judge.inner c.in-Some-judge.is c.event.new.self c.in-Some.words.now c.in-Some.rest.now c.args.behind.now
    c.in_ok-event.event parts c.in_ok-event.ensures.event c.give.new.self c.in_ok-give.ensures.taken
