use Rattle.std.proofs.Common.{◌≡◌, ◌⊎◌, ◌<◌, ◌≤◌, ◌+◌, ◌-◌, ℕ, List, [], ◌∷◌, ◌++◌, length, sym, ◌∙◌, ap}
use Rattle.std.proofs.Common.{subst, inl, inr, arith, Vec, Global}
use Rattle.std.specs.Prelude.{drop, take}
use Rattle.std.specs.List.{Contains}
use Rattle.std.proofs.lemmas.Bool.{cases_lt, false≢true}
use Rattle.std.proofs.lemmas.List.{length-drop, take_all}
use Rattle.std.proofs.lemmas.List.Elements.{Contains-append_left, Contains-push}
use Rattle.stamp_runs.specs.Run.{lane_of}
use Rattle.stamp_watch.specs.Ahead.{IsSpared}
use Rattle.stamp_watch.specs.inner.Candidates.{BeginsWriting}
use Rattle.stamp_watch.proofs.OpenCalls.{begins_there, open_within, spared_there}
use Rattle.stamp_watch.proofs.candidates.writing_lanes.Goals as goal
use Rattle.stamp_watch.proofs.candidates.writing_lanes.Goals.{then-stays_writing+in_ok-push, else-stays_writing}

pub loop-place-preserved : goal.loop-place-preserved
loop-place-preserved c lane call is less writes = by (cases_lt (length is.before) c.loop-place.place)
  where
    kept : Contains c.loop-place.lanes.items lane → Contains c.if-stays_writing.lanes.items lane
    kept was = elim c.if-stays_writing.branch [
      | then-stays_writing+in_ok-push w ↦ subst (λ (xs : List ℕ). Contains xs lane)
          (sym (ap (λ (v : Vec ℕ Global). v.items) w.lanes-is ∙ w.in_ok-push.ensures.items))
          (Contains-append_left c.loop-place.lanes.items (w.lane_of.result ∷ []) lane was)
      | else-stays_writing w ↦ subst (λ (xs : List ℕ). Contains xs lane)
          (sym (ap (λ (v : Vec ℕ Global). v.items) w.lanes-is)) was
    ]

    begins : length is.before ≡ c.loop-place.place → BeginsWriting c.index-events-place.result
    begins at = record {
      lane = lane;
      call = call;
      begins = begins_there c.args.events.now lane call is c.loop-place.place c.index-events-place.result at
          c.index-events-place.is;
      writes = writes;
    }

    spared : length is.before ≡ c.loop-place.place → IsSpared (take (length c.args.events.now -
        (c.loop-place.place + 1)) (drop (c.loop-place.place + 1) c.args.events.now))
        (lane_of c.index-events-place.result)
    spared at = subst (IsSpared (take (length c.args.events.now - (c.loop-place.place + 1))
        (drop (c.loop-place.place + 1) c.args.events.now))) (ap lane_of (sym (begins at).begins))
        (spared_there c.args.events.now lane call is c.loop-place.place _ at
        (take_all (length c.args.events.now - (c.loop-place.place + 1))
        (drop (c.loop-place.place + 1) c.args.events.now)
        (let long : length (drop (c.loop-place.place + 1) c.args.events.now) ≡
        length c.args.events.now - (c.loop-place.place + 1) =
        length-drop (c.loop-place.place + 1) c.args.events.now in omega (arith, long))))

    here : length is.before ≡ c.loop-place.place → Contains c.if-stays_writing.lanes.items lane
    here at = elim c.if-stays_writing.branch [
      | then-stays_writing+in_ok-push w ↦ subst (λ (xs : List ℕ). Contains xs lane)
          (sym (ap (λ (v : Vec ℕ Global). v.items) w.lanes-is ∙ w.in_ok-push.ensures.items))
          (subst (λ (l : ℕ). Contains (c.loop-place.lanes.items ++ w.lane_of.result ∷ []) l)
          (w.lane_of.ensures ∙ ap lane_of (begins at).begins)
          (Contains-push c.loop-place.lanes.items w.lane_of.result))
      | else-stays_writing w ↦ absurd (false≢true (sym w.if-stays_writing.false ∙
          c.stays_writing.ensures.1 (begins at, spared at)))
    ]

    by : (length is.before < c.loop-place.place) ⊎ (c.loop-place.place ≤ length is.before) →
        Contains c.if-stays_writing.lanes.items lane
    by (inl before) = kept (c.loop-place.invariant lane call is before writes)
    by (inr last) = here (omega (arith, less, last))

pub returns : goal.returns
returns c lane call is writes = c.loop-place.invariant lane call is
    (let within : length is.before < length c.args.events.now = open_within c.args.events.now lane call is in
    omega (arith, within, c.loop-place-test.false)) writes
