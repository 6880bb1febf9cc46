use Rattle.std.proofs.Common.{◌≡◌, ◌++◌, ◌∙◌, Some, sym, subst}
use Rattle.std.proofs.lemmas.Option.{same_Some}
use Rattle.stamped_watch.specs.declared.run_judge.RunJudge.{RunJudge}
use Rattle.stamped_watch.specs.EventBytes.{IsNoEvent}
use Rattle.stamped_watch.specs.StreamJudge.{HasTaken}
use Rattle.stamped_watch.proofs.Taking.{no_event_taken}
use Rattle.stamped_watch.proofs.stream_judge.StreamJudge.refuse.Goals as goal

pub returns-clause-taken : goal.returns-clause-taken
returns-clause-taken c inner bytes some many wrong most ahead taken has =
    let same : inner ≡ c.in-Some.inner = same_Some inner c.in-Some.inner (sym some ∙ c.in-Some.is) in
    subst (λ (i : RunJudge). HasTaken most ahead (taken ++ bytes)
    (record c.args.self.now { judge = Some i; found = Some c.in_ok-found_unless.field-0 }))
    (sym c.in_ok-found_unless.ensures.same)
    (no_event_taken most ahead taken c.args.self.now has c.requires.none c.in-Some.inner c.in-Some.is bytes
    c.count.result c.args.fault c.in_ok-found_unless.field-0 c.found_unless.new.self.judge many
    (subst (λ (i : RunJudge). IsNoEvent i.width c.args.fault bytes) same wrong) c.count.ensures
    c.in_ok-found_unless.ensures.found c.in_ok-found_unless.ensures.kept (c.in_ok-found_unless.ensures.tells tt)
    c.in_ok-found_unless.ensures.there)
