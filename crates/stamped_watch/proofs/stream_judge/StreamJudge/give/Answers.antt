use Rattle.std.proofs.Common.{◌≡◌, ◌++◌, ◌∙◌, Some, sym, subst}
use Rattle.std.proofs.lemmas.Option.{same_Some}
use Rattle.stamp_watch.specs.Names.{IsEventBy}
use Rattle.stamped_watch.specs.declared.run_judge.RunJudge.{RunJudge}
use Rattle.stamped_watch.specs.EventBytes.{HasBytes}
use Rattle.stamped_watch.specs.StreamJudge.{HasTaken}
use Rattle.stamped_watch.specs.inner.StreamJudge.{AreCounted}
use Rattle.stamped_watch.proofs.Taking.{counted_taken, found_taken, room_given}
use Rattle.stamped_watch.proofs.stream_judge.StreamJudge.give.Goals as goal

pub count-requires-clause-begun : goal.count-requires-clause-begun
count-requires-clause-begun c =
    let some = c.requires.some in
    (room_given some.most some.ahead some.taken c.args.self.now some.has c.requires.none c.in-Some.inner c.in-Some.is
    c.args.event.now c.given.new.self.judge c.in_ok-self.field-0 c.in_ok-self.ensures.found c.if-is_none.ensures).0

pub count-requires-clause-withdrawn : goal.count-requires-clause-withdrawn
count-requires-clause-withdrawn c =
    let some = c.requires.some in
    (room_given some.most some.ahead some.taken c.args.self.now some.has c.requires.none c.in-Some.inner c.in-Some.is
    c.args.event.now c.given.new.self.judge c.in_ok-self.field-0 c.in_ok-self.ensures.found c.if-is_none.ensures).1

pub returns-then-is_none-clause-taken : goal.returns-then-is_none-clause-taken
returns-then-is_none-clause-taken c inner e bytes some has_bytes by most ahead taken has =
    let same : inner ≡ c.in-Some.inner = same_Some inner c.in-Some.inner (sym some ∙ c.in-Some.is) in
    counted_taken most ahead taken c.args.self.now has c.requires.none c.in-Some.inner c.in-Some.is e c.args.event.now
    bytes c.given.new.self.judge c.in_ok-self.field-0
    (subst (λ (i : RunJudge). HasBytes i.width e bytes) same has_bytes)
    (subst (λ (i : RunJudge). IsEventBy i.names e c.args.event.now) same by) c.in_ok-self.ensures.found
    c.in_ok-self.ensures.kept c.if-is_none.ensures c.count.new.self
    (subst (λ (i : RunJudge). AreCounted c.args.event.now
    (record c.args.self.now { judge = Some i; found = c.in_ok-self.field-0 }) c.count.new.self)
    c.in_ok-self.ensures.same c.count.ensures)

pub returns-else-is_none-clause-taken : goal.returns-else-is_none-clause-taken
returns-else-is_none-clause-taken c inner e bytes some has_bytes by most ahead taken has =
    let same : inner ≡ c.in-Some.inner = same_Some inner c.in-Some.inner (sym some ∙ c.in-Some.is) in
    subst (λ (i : RunJudge). HasTaken most ahead (taken ++ bytes)
    (record c.args.self.now { judge = Some i; found = c.in_ok-self.field-0 })) (sym c.in_ok-self.ensures.same)
    (found_taken most ahead taken c.args.self.now has c.requires.none c.in-Some.inner c.in-Some.is e c.args.event.now
    bytes c.given.new.self.judge c.in_ok-self.field-0
    (subst (λ (i : RunJudge). HasBytes i.width e bytes) same has_bytes)
    (subst (λ (i : RunJudge). IsEventBy i.names e c.args.event.now) same by) c.in_ok-self.ensures.found
    c.in_ok-self.ensures.kept c.if-is_none.ensures c.in_ok-self.ensures.tells c.in_ok-self.ensures.there)
