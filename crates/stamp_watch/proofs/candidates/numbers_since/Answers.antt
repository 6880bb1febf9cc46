use Rattle.std.proofs.Common.{◌≡◌, ◌⊎◌, ◌<◌, ◌≤◌, ◌+◌, ◌-◌, ℕ, List, [], ◌∷◌, length, sym, ◌∙◌, ap, subst}
use Rattle.std.proofs.Common.{inl, inr, arith, Vec, Global}
use Rattle.std.specs.Prelude.{drop, take}
use Rattle.std.proofs.lemmas.Bool.{cases_lt}
use Rattle.std.proofs.lemmas.List.Elements.{Contains-append_left, Contains-push}
use Rattle.stamp_runs.specs.Run.{lane_of}
use Rattle.stamp_runs.specs.declared.event.Event.{Event}
use Rattle.stamp_watch.specs.Ahead.{IsSpared}
use Rattle.stamp_watch.specs.inner.Candidates.{BeginsLeaving, IsAmong}
use Rattle.stamp_watch.proofs.LeftSince.{leaves_there, left_within, still_there}
use Rattle.stamp_watch.proofs.candidates.numbers_since.Goals as goal
use Rattle.stamp_watch.proofs.candidates.numbers_since.Goals.{in-Some+in_ok-push, in_default}

pub loop-place-preserved : goal.loop-place-preserved
loop-place-preserved c content is less = by (cases_lt (length is.before) c.loop-place.place)
  where
    kept : IsAmong c.loop-place.numbers.items content → IsAmong c.match-still_left.numbers.items content
    kept was = elim c.match-still_left.branch [
      | in-Some+in_ok-push w ↦ subst (λ (xs : List ℕ). IsAmong xs content)
          (sym (ap (λ (v : Vec ℕ Global). v.items) w.numbers-is ∙ w.in_ok-push.ensures.items))
          (was.0, was.1, Contains-append_left c.loop-place.numbers.items (w.in-Some.number ∷ []) was.0 was.2)
      | in_default w ↦ subst (λ (xs : List ℕ). IsAmong xs content)
          (sym (ap (λ (v : Vec ℕ Global). v.items) w.numbers-is)) was
    ]

    event_is : length is.before ≡ c.loop-place.place → c.index-events-place.result ≡ is.event
    event_is at = leaves_there c.args.events.now c.args.from content is c.loop-place.place
        c.index-events-place.result at c.index-events-place.is

    leaves : length is.before ≡ c.loop-place.place → BeginsLeaving content c.index-events-place.result
    leaves at = subst (BeginsLeaving content) (sym (event_is at)) is.leaves

    spared : length is.before ≡ c.loop-place.place → IsSpared (take (c.max-end.result - (c.loop-place.place + 1))
        (drop (c.loop-place.place + 1) c.args.events.now)) (lane_of c.index-events-place.result)
    spared at = subst (λ (e : Event). IsSpared (take (c.max-end.result - (c.loop-place.place + 1))
        (drop (c.loop-place.place + 1) c.args.events.now)) (lane_of e)) (sym (event_is at))
        (still_there c.args.events.now c.args.from content is c.loop-place.place
        (c.max-end.result - (c.loop-place.place + 1)) at (grind (arith, c.max-end.ensures)))

    here : length is.before ≡ c.loop-place.place → IsAmong c.match-still_left.numbers.items content
    here at = elim c.match-still_left.branch [
      | in-Some+in_ok-push w ↦ subst (λ (xs : List ℕ). IsAmong xs content)
          (sym (ap (λ (v : Vec ℕ Global). v.items) w.numbers-is ∙ w.in_ok-push.ensures.items)) (
            w.in-Some.number,
            w.in-Some.ensures content (leaves at),
            Contains-push c.loop-place.numbers.items w.in-Some.number,
          )
      | in_default w ↦ absurd (w.in_default.ensures content (leaves at) (spared at))
    ]

    by : (length is.before < c.loop-place.place) ⊎ (c.loop-place.place ≤ length is.before) →
        IsAmong c.match-still_left.numbers.items content
    by (inl before) = kept (c.loop-place.invariant content is before)
    by (inr last) = here (omega (arith, less, last))

pub returns : goal.returns
returns c content is = c.loop-place.invariant content is
    (let within : length is.before < length c.args.events.now =
    left_within c.args.events.now c.args.from content is in omega (arith, within, c.loop-place-test.false))
