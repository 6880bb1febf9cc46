use Rattle.std.proofs.Common.{ℕ, List, ◌≡◌, ◌++◌, Some, rules, subst}
use Rattle.std.specs.Prelude.{MatchOption}
use Rattle.std.proofs.lemmas.List.{take-append-drop}
use Rattle.std.proofs.lemmas.Result.{IfOk-weaker}
use Rattle.stamped_watch.specs.inner.StreamJudge.{HasTakenNone, HasTakenOne}
use Rattle.stamped_watch.proofs.TakingEvent.{none_taken}
use Rattle.stamped_watch.proofs.stream_judge.StreamJudge.take.Goals as goal

pub returns-in_default-judge-clause-taken : goal.returns-in_default-judge-clause-taken
returns-in_default-judge-clause-taken c =
    let cases = c.in-Some.ensures.cases in
    let parts : c.in-Some.front.now ++ c.in-Some.behind.now ≡ c.args.bytes.now =
    rw (cases.0, cases.1) (take-append-drop 16 c.args.bytes.now) in
    IfOk-weaker c.begin.result _ _ (λ left is. subst (λ (bytes : List ℕ).
    MatchOption left (HasTakenNone bytes c.args.self.now c.begin.new.self) (λ rest. HasTakenOne bytes rest.now
    c.args.self.now c.begin.new.self)) parts is) c.begin.ensures.taken

pub returns-in-Ok-clause-taken : goal.returns-in-Ok-clause-taken
returns-in-Ok-clause-taken c =
    let cases = c.in-Some.ensures.cases in
    let parts : c.in-Some.front.now ++ c.in-Some.behind.now ≡ c.args.bytes.now =
    rw (cases.0, cases.1) (take-append-drop 16 c.args.bytes.now) in
    IfOk-weaker c.take_event.result _ _ (λ left is. subst (λ (bytes : List ℕ).
    MatchOption left (HasTakenNone bytes c.args.self.now c.take_event.new.self) (λ rest. HasTakenOne bytes rest.now
    c.args.self.now c.take_event.new.self)) parts is)
    c.take_event.ensures.taken

pub returns-in_ok-refuse-in-Err-clause-taken : goal.returns-in_ok-refuse-in-Err-clause-taken
returns-in_ok-refuse-in-Err-clause-taken c =
    let cases = c.in-Some.ensures.cases in
    let parts : c.in-Some.front.now ++ c.in-Some.behind.now ≡ c.args.bytes.now =
    rw (cases.0, cases.1) (take-append-drop 16 c.args.bytes.now) in
    let some : c.args.self.now.judge ≡ Some c.in-Some-judge.inner = search rules in
    subst (λ (bytes : List ℕ). HasTakenOne bytes c.in-Some.behind.now c.args.self.now c.refuse.new.self) parts
    (none_taken c.in-Some.front.now c.event_front.ensures.many c.args.self.now c.requires.none c.in-Some-judge.inner
    some
    c.in-Some.behind.now c.in-Err.fault c.refuse.new.self c.in-Err.ensures.fault c.in_ok-refuse-in-Err.ensures.taken)
