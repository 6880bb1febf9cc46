use Rattle.std.proofs.Common.{ℕ, List, Bor, ◌≡◌, ◌<◌, ◌++◌, true, Bool, length, refl, rules, subst, Option, Some, None}
use Rattle.std.specs.Prelude.{MatchOption}
use Rattle.stamped_watch.specs.inner.StreamJudge.{HasTakenNone, HasTakenOne, HasTakenWidth}
use Rattle.std.proofs.lemmas.Result.{IfOk-weaker}
use Rattle.stamped_watch.specs.Header.{IsFront}
use Rattle.stamped_watch.proofs.Beginning.{data_begun, data_cut, front_refused, plain_begun}
use Rattle.stamped_watch.proofs.stream_judge.StreamJudge.begin.Goals as goal

pub returns-in-Err-clause-taken : goal.returns-in-Err-clause-taken
returns-in-Err-clause-taken c = front_refused c.args.front.now c.told-front c.args.self.now c.requires.none
    c.requires.no_judge c.args.behind.now c.in-Err.fault _ c.in-Err.ensures.fault refl

pub returns-then-told-clause-taken : goal.returns-then-told-clause-taken
returns-then-told-clause-taken c = IfOk-weaker c.begin_with_data.result _ _ (λ left is. told left is)
    c.begin_with_data.ensures
  where
    front : IsFront c.in-Ok.told.limits true c.args.front.now
    front = subst (λ (b : Bool). IsFront c.in-Ok.told.limits b c.args.front.now) c.if-told.true c.in-Ok.ensures.front

    told : (left : Option (Bor (List ℕ))) → MatchOption left
        ((length c.args.behind.now < 8) × (c.begin_with_data.new.self ≡ c.args.self.now))
        (λ rest. HasTakenWidth c.in-Ok.told.limits c.args.behind.now rest.now c.args.self.now
        c.begin_with_data.new.self) → MatchOption left
        (HasTakenNone (c.args.front.now ++ c.args.behind.now) c.args.self.now c.begin_with_data.new.self)
        (λ rest. HasTakenOne (c.args.front.now ++ c.args.behind.now) rest.now c.args.self.now
        c.begin_with_data.new.self)
    told None is = data_cut c.args.front.now c.told-front c.args.self.now c.requires.none c.requires.no_judge
        c.args.behind.now c.in-Ok.told.limits c.begin_with_data.new.self front is.0 is.1
    told (Some rest) is = data_begun c.args.front.now c.told-front c.args.self.now c.requires.none
        c.requires.no_judge c.args.behind.now rest.now c.in-Ok.told.limits c.begin_with_data.new.self front is

pub returns-clause-taken : goal.returns-clause-taken
returns-clause-taken c = plain_begun c.args.front.now c.told-front c.args.self.now c.requires.none
    c.requires.no_judge c.args.behind.now c.in-Ok.told.limits c.open.new.self
    (subst (λ (b : Bool). IsFront c.in-Ok.told.limits b c.args.front.now) (search rules) c.in-Ok.ensures.front)
    c.in_ok-open.ensures.opened
