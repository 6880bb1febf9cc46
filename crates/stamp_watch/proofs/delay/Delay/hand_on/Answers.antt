use Rattle.std.proofs.Common.{◌≡◌, ◌≢◌, ◌⊎◌, ◌+◌, ◌-◌, ◌<◌, ◌≤◌, suc, List, [], ◌++◌, arith, length, refl, ap, ◌∙◌}
use Rattle.std.proofs.Common.{sym, subst, inl, inr}
use Rattle.std.proofs.lemmas.Bool.{cases_lt, false≢true}
use Rattle.stamp_runs.specs.declared.event.Event.{Event}
use Rattle.stamp_watch.specs.inner.Delay.{IsAloneInFront, IsToBeAside}
use Rattle.stamp_watch.proofs.Delaying.{delayed_aside, delayed_passes, room_for_one}
use Rattle.stamp_watch.proofs.HandingOn.{first_or_none, first_or_some}
use Rattle.stamp_watch.proofs.delay.Delay.hand_on.Goals as goal
use Rattle.stamp_watch.proofs.delay.Delay.hand_on.Goals.{Else-alone, In_ok-extend_from_slice}

-- the call is to be put aside, and enough events wait behind it
to_be_aside : (c : In_ok-extend_from_slice) → IsToBeAside c.pop-event.result c.pop-event.new.self.events.items
to_be_aside c = subst IsAloneInFront c.pop-event.ensures.items
    (c.is_alone_in_front-alone.ensures.0 c.if-alone.true)

enough : (c : In_ok-extend_from_slice) → c.args.self.now.ahead ≤ length c.pop-event.new.self.events.items
enough c = by (cases_lt c.args.self.now.ahead (length c.args.self.now.waiting.events.items))
  where
    long : length c.args.self.now.waiting.events.items ≡ suc (length c.pop-event.new.self.events.items)
    long = ap (λ (xs : List Event). length xs) c.pop-event.ensures.items

    by : (c.args.self.now.ahead < length c.args.self.now.waiting.events.items) ⊎
        (length c.args.self.now.waiting.events.items ≤ c.args.self.now.ahead) →
        c.args.self.now.ahead ≤ length c.pop-event.new.self.events.items
    by (inl more) = omega (arith, long, more)
    by (inr few) = absurd (false≢true (sym c.if-waits_on.false ∙
        c.waits_on.ensures.1 (few, inl c.if-alone.true)))

-- or it is not to be
not_alone : (c : Else-alone) → ¬ IsToBeAside c.pop-event.result c.pop-event.new.self.events.items
not_alone c to = false≢true (sym c.if-alone.false ∙
    c.is_alone_in_front-alone.ensures.1 (subst IsAloneInFront (sym c.pop-event.ensures.items) to))

-- where a call is aside, enough events wait on
enough_still : (c : Else-alone) → c.args.self.now.aside.items ≢ [] →
    c.args.self.now.ahead ≤ length c.pop-event.new.self.events.items
enough_still c some = by (cases_lt c.args.self.now.ahead (length c.args.self.now.waiting.events.items))
  where
    long : length c.args.self.now.waiting.events.items ≡ suc (length c.pop-event.new.self.events.items)
    long = ap (λ (xs : List Event). length xs) c.pop-event.ensures.items

    by : (c.args.self.now.ahead < length c.args.self.now.waiting.events.items) ⊎
        (length c.args.self.now.waiting.events.items ≤ c.args.self.now.ahead) →
        c.args.self.now.ahead ≤ length c.pop-event.new.self.events.items
    by (inl more) = omega (arith, long, more)
    by (inr few) = absurd (false≢true (sym c.if-waits_on.false ∙ c.waits_on.ensures.1 (few, inr some)))

pub push-requires-clause-room : goal.push-requires-clause-room
push-requires-clause-room c =
    let some : 0 < length c.args.self.now.waiting.events.items = c.requires.some in
    room_for_one c.args.self.now c.requires.ready
    (length c.args.self.now.aside.items + length c.args.self.now.waiting.events.items - 1) c.requires.room
    (omega (arith, some))

pub returns-then-is_none-clause-delayed : goal.returns-then-is_none-clause-delayed
returns-then-is_none-clause-delayed c limits most ahead run is = delayed_aside limits most ahead run c.args.self.now is
    c.pop-event.result c.pop-event.new.self.events.items c.pop-event.ensures.items _ refl refl
    c.pop-event.ensures.counted
    refl refl refl (to_be_aside here) (enough here) refl
    (c.in_ok-extend_from_slice.ensures.items ∙
    ap (λ (xs : List Event). c.args.self.now.aside.items ++ xs) c.from_ref.ensures.value)
    (first_or_none c.args.self.now.passed c.args.self.now.first_late c.if-is_none.ensures)
  where
    here : In_ok-extend_from_slice
    here = (goal.at.returns-then-is_none-clause-delayed c).In_ok-extend_from_slice

pub returns-else-is_none-clause-delayed : goal.returns-else-is_none-clause-delayed
returns-else-is_none-clause-delayed c limits most ahead run is = delayed_aside limits most ahead run c.args.self.now is
    c.pop-event.result c.pop-event.new.self.events.items c.pop-event.ensures.items _ refl refl
    c.pop-event.ensures.counted
    refl refl refl (to_be_aside here) (enough here) refl
    (c.in_ok-extend_from_slice.ensures.items ∙
    ap (λ (xs : List Event). c.args.self.now.aside.items ++ xs) c.from_ref.ensures.value)
    (first_or_some c.args.self.now.passed c.args.self.now.first_late c.if-is_none.ensures)
  where
    here : In_ok-extend_from_slice
    here = (goal.at.returns-else-is_none-clause-delayed c).In_ok-extend_from_slice

pub returns-in-Some-clause-delayed : goal.returns-in-Some-clause-delayed
returns-in-Some-clause-delayed c limits most ahead run is = delayed_passes limits most ahead run c.args.self.now is
    c.pop-event.result c.pop-event.new.self.events.items c.pop-event.ensures.items _ refl refl
    c.pop-event.ensures.counted
    refl refl refl c.in_ok-verdict.ensures.given c.in_ok-verdict.ensures.kept refl refl
    (enough_still ((goal.at.returns-in-Some-clause-delayed c).Else-alone))
    (not_alone ((goal.at.returns-in-Some-clause-delayed c).Else-alone)) c.requires.few

pub returns-in-None-clause-delayed : goal.returns-in-None-clause-delayed
returns-in-None-clause-delayed c limits most ahead run is = delayed_passes limits most ahead run c.args.self.now is
    c.pop-event.result c.pop-event.new.self.events.items c.pop-event.ensures.items _ refl refl
    c.pop-event.ensures.counted
    refl refl refl c.in_ok-verdict.ensures.given c.in_ok-verdict.ensures.kept refl refl
    (enough_still ((goal.at.returns-in-None-clause-delayed c).Else-alone))
    (not_alone ((goal.at.returns-in-None-clause-delayed c).Else-alone)) c.requires.few
