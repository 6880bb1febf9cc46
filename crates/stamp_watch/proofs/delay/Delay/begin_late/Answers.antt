use Rattle.std.proofs.Common.{◌+◌, ◌-◌, ◌<◌, List, [], ◌∷◌, ◌++◌, arith, length, subst, sym}
use Rattle.std.proofs.lemmas.Result.{IfOk-weaker}
use Rattle.stamp_runs.specs.Run.{lane_of}
use Rattle.stamp_runs.specs.declared.event.Event.{Event}
use Rattle.stamp_watch.specs.Ahead.{IsSpared}
use Rattle.stamp_watch.specs.Delay.{AreLate, AreNear, IsHandedOn, IsShownIfAny, reach_of}
use Rattle.stamp_watch.proofs.Delaying.{late_shown, late_then, near_begun, room_for_one}
use Rattle.stamp_watch.proofs.HandingOn.{handed_begins, rest_spared}
use Rattle.stamp_watch.proofs.Kept.{IfOk-both}
use Rattle.stamp_watch.proofs.delay.Delay.begin_late.Goals as goal

pub push-requires-clause-room : goal.push-requires-clause-room
push-requires-clause-room c =
    let within : c.args.place < length c.args.self.now.aside.items = c.requires.there.0 in
    room_for_one c.args.self.now c.requires.ready.ready
    (length c.args.self.now.aside.items + length c.args.self.now.waiting.events.items - 1)
    (let room : c.args.self.now.passed + length c.args.self.now.waiting.events.items + 1 < 18446744073709551616 =
    c.requires.room in omega (arith, room))
    (omega (arith, within))

pub returns-clause-begun : goal.returns-clause-begun
returns-clause-begun c = IfOk-both c.push.result _ _ _ (λ found given kept limits most ahead run is whole. record {
  limits_are = is.limits_are;
  ahead_is = is.ahead_is;
  counted = is.counted;
  given = is.given ++ c.remove-begun.result ∷ [];
  judge_of = given limits most (reach_of ahead) is.given is.judge_of;
  keeps = kept limits most (reach_of ahead) is.given is.judge_of is.keeps;
  near = subst (λ (xs : List Event). AreNear (reach_of ahead) (is.given ++ c.remove-begun.result ∷ []) xs
      (c.args.self.now.waiting.events.items ++ c.args.end.now ∷ [])) (sym c.remove-begun.ensures.items)
      (near_begun limits most ahead run c.args.self.now is c.args.place c.remove-begun.result c.args.end.now
      c.requires.there c.remove-begun.ensures.value c.requires.few whole);
  handed = subst (λ (xs : List Event). IsHandedOn (ahead - 64) run (is.given ++ c.remove-begun.result ∷ []) xs
      c.args.self.now.waiting.events.items c.args.self.now.first_late c.args.self.now.passed)
      (sym c.remove-begun.ensures.items)
      (handed_begins (ahead - 64) run is.given c.args.self.now.aside.items c.args.self.now.waiting.events.items
      c.args.self.now.first_late c.args.self.now.passed is.handed c.args.place (lane_of c.args.end.now)
      c.remove-begun.result c.requires.there c.remove-begun.ensures.value);
  shown = subst (λ (xs : List Event). IsShownIfAny limits (run ++ c.args.end.now ∷ [])
      (is.given ++ c.remove-begun.result ∷ []) xs (c.args.self.now.waiting.events.items ++ c.args.end.now ∷ [])
      c.in_ok-self.field-0) (sym c.remove-begun.ensures.items)
      (late_shown limits most ahead run c.args.self.now is c.args.place c.remove-begun.result c.args.end.now
      c.requires.there c.remove-begun.ensures.value
      (rest_spared (ahead - 64) run is.given c.args.self.now.aside.items c.args.self.now.waiting.events.items
      c.args.self.now.first_late c.args.self.now.passed is.handed c.args.place (lane_of c.args.end.now)
      c.remove-begun.result c.requires.there c.remove-begun.ensures.value) whole c.in_ok-self.field-0
      c.in_ok-self.ensures.range c.in_ok-self.ensures.shown);
  late = subst (λ (xs : List Event). AreLate limits (run ++ c.args.end.now ∷ []) xs
      (c.args.self.now.waiting.events.items ++ c.args.end.now ∷ []) (ahead - 64) c.in_ok-self.field-0)
      (sym c.remove-begun.ensures.items)
      (late_then limits most ahead run c.args.self.now is c.args.place c.remove-begun.result c.args.end.now
      c.requires.there c.remove-begun.ensures.value
      (rest_spared (ahead - 64) run is.given c.args.self.now.aside.items c.args.self.now.waiting.events.items
      c.args.self.now.first_late c.args.self.now.passed is.handed c.args.place (lane_of c.args.end.now)
      c.remove-begun.result c.requires.there c.remove-begun.ensures.value) c.requires.few c.in_ok-self.field-0
      c.in_ok-self.ensures.shown);
}) c.push.ensures.given c.push.ensures.kept

pub returns-clause-spared : goal.returns-clause-spared
returns-clause-spared c =
    let some = c.requires.ready.ready in
    IfOk-weaker c.push.result _ _ (λ found told. subst (λ (xs : List Event). IsSpared xs (lane_of c.args.end.now))
    (sym c.remove-begun.ensures.items)
    (rest_spared (some.ahead - 64) some.run some.delayed.given c.args.self.now.aside.items
    c.args.self.now.waiting.events.items c.args.self.now.first_late c.args.self.now.passed some.delayed.handed
    c.args.place (lane_of c.args.end.now) c.remove-begun.result c.requires.there c.remove-begun.ensures.value))
    c.push.ensures.told
