use Rattle.std.proofs.Common.{ℕ, ◌≡◌, ◌+◌, ◌-◌, ◌≤◌, ◌∙◌, List, Some, ap, arith, length, refl, rules, subst, sym}
use Rattle.std.specs.Prelude.{slice_get}
use Rattle.std.proofs.lemmas.Option.{slice_get_within}
use Rattle.stamp_runs.specs.declared.event.Event.{Event}
use Rattle.stamp_runs.specs.declared.event.Event.TheVariants.{Returns}
use Rattle.stamp_core.specs.declared.reply.Reply.{Reply}
use Rattle.stamp_sets.specs.SmallCall.{reply_of}
use Rattle.stamp_sets.specs.declared.small_call.SmallReply.{SmallReply}
use Rattle.stamp_watch.specs.Stream.{event_of}
use Rattle.stamp_watch.specs.declared.stream_event.SmallEvent.{SmallEvent}
use Rattle.stamp_watch.specs.declared.stream_event.SmallEvent.TheVariants as small
use Rattle.stamp_watch.specs.inner.Possible.{IsKeptReturn}
use Rattle.stamp_watch.proofs.TryingReplies.{read_there, some_same}
use Rattle.stamp_watch.proofs.online.Judge.return_at.Goals as goal
use Rattle.stamp_watch.proofs.online.Judge.return_at.Goals.{In-Returns, In_default}

there : (c : In-Returns) → slice_get c.args.self.now.course.events.items c.in_ok-place.place ≡
    Some (Returns c.in-Returns.lane (reply_of c.in-Returns.field-1))
there c = read_there c.args.self.now.course.events.items c.as_slice.result.now c.in_ok-place.place
    c.in_ok-get.field-0.now c.as_slice.ensures.value (sym c.in_ok-get.ensures.lookup.0) c.in_ok-get.ensures.lookup.1 ∙
    ap Some (sym c.in-Returns.ensures)

number_is : (c : In-Returns) → c.args.number ≡ c.args.self.now.course.first + c.in_ok-place.place
number_is c = search rules

pub returns-in-Returns : goal.returns-in-Returns
returns-in-Returns c = record {
  number_is = number_is c;
  seen = search rules;
  own = reply_of c.in-Returns.field-1;
  there = there c;
}

-- the event is the one of this place
here : (c : In_default) → slice_get c.args.self.now.course.events.items c.in_ok-place.place ≡
    Some c.in_ok-get.field-0.now
here c = read_there c.args.self.now.course.events.items c.as_slice.result.now c.in_ok-place.place
    c.in_ok-get.field-0.now c.as_slice.ensures.value (sym c.in_ok-get.ensures.lookup.0) c.in_ok-get.ensures.lookup.1

place_is : (c : In_default) → c.args.number - c.args.self.now.course.first ≡ c.in_ok-place.place
place_is c = search rules

returned_small : (e : SmallEvent) (lane : ℕ) (reply : Reply) → event_of e ≡ Returns lane reply →
    ((other : ℕ) (answer : SmallReply) → e ≡ small.Returns other answer → ⊥) → ⊥
returned_small (small.Returns other answer) lane reply is none = none other answer refl
returned_small _ lane reply is none = cc

pub returns-in_default : goal.returns-in_default
returns-in_default c can = returned_small c.small.result can.lane can.own (c.small.ensures ∙
    some_same (sym (here c) ∙ ap (λ (n : ℕ). slice_get c.args.self.now.course.events.items n) (sym (place_is c)) ∙
    can.there)) c.in_default.not-Returns

pub returns-in_err-get : goal.returns-in_err-get
returns-in_err-get c = subst (IsKeptReturn c.args.self.now c.args.number) (sym c.from_residual-in_err-get.ensures)
    (λ can. none can.there)
  where
    events : List Event
    events = c.args.self.now.course.events.items

    place_at : c.args.number - c.args.self.now.course.first ≡ c.in_ok-place.place
    place_at = search rules

    high : length events ≤ c.in_ok-place.place
    high = search rules

    none : {x : Event} → slice_get events (c.args.number - c.args.self.now.course.first) ≡ Some x → ⊥
    none {x} there =
        let low = slice_get_within events (c.args.number - c.args.self.now.course.first) x there in
        omega (arith, low, place_at, high)
