use Rattle.std.proofs.Common.{◌≡◌, ◌+◌, ◌^◌, ◌<◌, ◌++◌, ◌∙◌, List, length, subst, arith, ap, append_assoc}
use Rattle.std.proofs.lemmas.List.{length-append}
use Rattle.std.proofs.lemmas.Result.{IfOk-weaker}
use Rattle.stamp_runs.specs.declared.event.Event.{Event}
use Rattle.stamp_watch.specs.Delay.{reach_of}
use Rattle.stamp_watch.specs.Judge.{IsJudge}
use Rattle.stamp_watch.specs.Possible.{KeepsBase}
use Rattle.stamp_watch.proofs.Delaying.{given_of_all, room_of}
use Rattle.stamp_watch.proofs.delay.Delay.give_all.Goals as goal

pub give-requires-clause-room : goal.give-requires-clause-room
give-requires-clause-room c =
    let some = c.requires.ready in
    let all : length some.delayed.given + length c.args.self.now.aside.items ≡ c.args.self.now.passed =
    given_of_all c.args.self.now some in
    let long : length c.as_slice.result.now ≡ length c.args.self.now.aside.items =
    ap (λ (xs : List Event). length xs) c.as_slice.ensures.value in
    let room : c.args.self.now.passed + length c.args.self.now.waiting.events.items < 2 ^ 64 = c.requires.room in
    room_of some.limits some.most (reach_of some.ahead) some.delayed.given c.args.self.now.judge
    (length c.as_slice.result.now) some.delayed.judge_of (omega (arith, all, long, room))

pub give-requires-2-clause-room : goal.give-requires-2-clause-room
give-requires-2-clause-room c =
    let some = c.requires.ready in
    let all : length some.delayed.given + length c.args.self.now.aside.items ≡ c.args.self.now.passed =
    given_of_all c.args.self.now some in
    let long : length c.as_slice.result.now ≡ length c.args.self.now.aside.items =
    ap (λ (xs : List Event). length xs) c.as_slice.ensures.value in
    let room : c.args.self.now.passed + length c.args.self.now.waiting.events.items < 2 ^ 64 = c.requires.room in
    let given : length (some.delayed.given ++ c.as_slice.result.now) ≡
    length some.delayed.given + length c.as_slice.result.now =
    length-append some.delayed.given c.as_slice.result.now in
    let parts : length (c.as_slices.result.0.now ++ c.as_slices.result.1.now) ≡
    length c.args.self.now.waiting.events.items = ap (λ (xs : List Event). length xs) c.as_slices.ensures.items in
    let sum : length (c.as_slices.result.0.now ++ c.as_slices.result.1.now) ≡
    length c.as_slices.result.0.now + length c.as_slices.result.1.now =
    length-append c.as_slices.result.0.now c.as_slices.result.1.now in
    room_of some.limits some.most (reach_of some.ahead) (some.delayed.given ++ c.as_slice.result.now) c.give.new.judge
    (length c.as_slices.result.0.now)
    (c.in_ok-give.ensures.given some.limits some.most (reach_of some.ahead) some.delayed.given some.delayed.judge_of)
    (omega (arith, all, long, room, given, parts, sum))

pub give-requires-3-clause-room : goal.give-requires-3-clause-room
give-requires-3-clause-room c =
    let some = c.requires.ready in
    let all : length some.delayed.given + length c.args.self.now.aside.items ≡ c.args.self.now.passed =
    given_of_all c.args.self.now some in
    let long : length c.as_slice.result.now ≡ length c.args.self.now.aside.items =
    ap (λ (xs : List Event). length xs) c.as_slice.ensures.value in
    let room : c.args.self.now.passed + length c.args.self.now.waiting.events.items < 2 ^ 64 = c.requires.room in
    let given : length (some.delayed.given ++ c.as_slice.result.now) ≡
    length some.delayed.given + length c.as_slice.result.now =
    length-append some.delayed.given c.as_slice.result.now in
    let then_given : length ((some.delayed.given ++ c.as_slice.result.now) ++ c.as_slices.result.0.now) ≡
    length (some.delayed.given ++ c.as_slice.result.now) + length c.as_slices.result.0.now =
    length-append (some.delayed.given ++ c.as_slice.result.now) c.as_slices.result.0.now in
    let parts : length (c.as_slices.result.0.now ++ c.as_slices.result.1.now) ≡
    length c.args.self.now.waiting.events.items = ap (λ (xs : List Event). length xs) c.as_slices.ensures.items in
    let sum : length (c.as_slices.result.0.now ++ c.as_slices.result.1.now) ≡
    length c.as_slices.result.0.now + length c.as_slices.result.1.now =
    length-append c.as_slices.result.0.now c.as_slices.result.1.now in
    room_of some.limits some.most (reach_of some.ahead) ((some.delayed.given ++ c.as_slice.result.now) ++
    c.as_slices.result.0.now) c.give-2.new.judge (length c.as_slices.result.1.now)
    (c.in_ok-give-2.ensures.given some.limits some.most (reach_of some.ahead)
    (some.delayed.given ++ c.as_slice.result.now)
    (c.in_ok-give.ensures.given some.limits some.most (reach_of some.ahead) some.delayed.given some.delayed.judge_of))
    (omega (arith, all, long, room, given, then_given, parts, sum))

pub returns-clause-kept : goal.returns-clause-kept
returns-clause-kept c = IfOk-weaker c.give-3.result _ _ (λ done kept limits most ahead run is keeps.
    subst (λ (xs : List Event). KeepsBase limits xs c.give-3.new.judge)
    (append_assoc (run ++ c.as_slice.result.now) c.as_slices.result.0.now c.as_slices.result.1.now ∙
    append_assoc run c.as_slice.result.now (c.as_slices.result.0.now ++ c.as_slices.result.1.now) ∙
    ap (λ (xs : List Event). run ++ (c.as_slice.result.now ++ xs)) c.as_slices.ensures.items ∙
    ap (λ (xs : List Event). run ++ (xs ++ c.args.self.now.waiting.events.items)) c.as_slice.ensures.value)
    (kept limits most ahead ((run ++ c.as_slice.result.now) ++ c.as_slices.result.0.now)
    (c.in_ok-give-2.ensures.given limits most ahead (run ++ c.as_slice.result.now)
    (c.in_ok-give.ensures.given limits most ahead run is))
    (c.in_ok-give-2.ensures.kept limits most ahead (run ++ c.as_slice.result.now)
    (c.in_ok-give.ensures.given limits most ahead run is) (c.in_ok-give.ensures.kept limits most ahead run is keeps))))
    c.give-3.ensures.kept

pub returns-clause-given : goal.returns-clause-given
returns-clause-given c = IfOk-weaker c.give-3.result _ _ (λ done given limits most ahead run is.
    subst (λ (xs : List Event). IsJudge limits most ahead xs c.give-3.new.judge)
    (append_assoc (run ++ c.as_slice.result.now) c.as_slices.result.0.now c.as_slices.result.1.now ∙
    append_assoc run c.as_slice.result.now (c.as_slices.result.0.now ++ c.as_slices.result.1.now) ∙
    ap (λ (xs : List Event). run ++ (c.as_slice.result.now ++ xs)) c.as_slices.ensures.items ∙
    ap (λ (xs : List Event). run ++ (xs ++ c.args.self.now.waiting.events.items)) c.as_slice.ensures.value)
    (given limits most ahead ((run ++ c.as_slice.result.now) ++ c.as_slices.result.0.now)
    (c.in_ok-give-2.ensures.given limits most ahead (run ++ c.as_slice.result.now)
    (c.in_ok-give.ensures.given limits most ahead run is)))) c.give-3.ensures.given
