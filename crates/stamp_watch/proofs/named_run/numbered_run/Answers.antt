use Rattle.std.proofs.Common.{ℕ, ◌≡◌, ◌+◌, true, [], List, Option, Some, append-nil, subst, sym}
use Rattle.std.specs.Prelude.{slice_get, take}
use Rattle.std.proofs.lemmas.List.Elements.{All-nil}
use Rattle.std.proofs.lemmas.Option.{get_or_from_slice_get, slice_get_within}
use Rattle.stamp_runs.specs.declared.event.Event.{Event}
use Rattle.stamp_watch.specs.AsEvents.{IsMomentOf}
use Rattle.stamp_runs.specs.Names.{EachOfEvent}
use Rattle.stamp_watch.specs.Names.{AreContents, IsByNumber}
use Rattle.stamp_watch.specs.inner.Trial.{AreNumbered, IsForeign, IsTold, TellsKnown, words_beside}
use Rattle.stamp_watch.proofs.NumberedRun.{grown_twice, may_be_numbered, numbered_more, up_to_end, up_to_foreign}
use Rattle.stamp_watch.proofs.named_run.numbered_run.Goals as goal
use Rattle.stamp_watch.proofs.named_run.numbered_run.Goals.{After-tells_known}

at_moment : (c : After-tells_known) →
    slice_get c.args.moments.now c.loop-k.k ≡ Some c.moment_at-moment.result
at_moment c = c.moment_at-moment.ensures

known_here : (c : After-tells_known) → c.tells_known.result ≡ true →
    TellsKnown c.args.observed.now.width c.event_at-event.result
known_here c is_known = subst (λ (n : ℕ). TellsKnown n c.event_at-event.result) c.width.ensures.width
    (c.tells_known.ensures.known.0 is_known)

wide_here : (c : After-tells_known) → AreContents (words_beside c.args.observed.now.width) c.loop-k.names
wide_here c = c.loop-k.invariant.wide (words_beside c.args.observed.now.width) c.requires.contents

pub loop-k-init : goal.loop-k-init
loop-k-init c = record {
  numbered = record {
    events = [];
    are = tt;
    told = All-nil (EachOfEvent (IsTold c.args.observed.now.width c.args.names.now));
    run_is = c.new-run.ensures.items;
  };
  grows = record { more = []; are = sym (append-nil c.args.names.now) };
  wide = λ width are. are;
}

pub returns-then-not-tells_known-clause-run : goal.returns-then-not-tells_known-clause-run
returns-then-not-tells_known-clause-run c =
    let at = (goal.at.returns-then-not-tells_known-clause-run c).After-tells_known in
    up_to_foreign c.args.observed.now c.requires.observed c.moment_at-moment.result c.event_at-event.result
    c.event_at-event.ensures c.args.moments.now c.loop-k.k c.loop-k.names c.loop-k.run.items (at_moment at)
    (subst (λ (n : ℕ). IsForeign n c.event_at-event.result) c.width.ensures.width
    (c.tells_known.ensures.foreign c.if-not-tells_known.true)) c.loop-k.invariant.numbered

pub unreachable-requires : goal.unreachable-requires
unreachable-requires c =
    let at = (goal.at.unreachable-requires c).After-tells_known in
    let none = subst (λ (o : Option Event). IsByNumber c.loop-k.names c.event.new.self c.event_at-event.result o)
    c.in-None.is c.in_ok-small.ensures.event in
    none (may_be_numbered c.args.observed.now c.requires.observed c.moment_at-moment.result c.event_at-event.result
    c.event_at-event.ensures c.loop-k.names (wide_here at) (known_here at c.if-not-tells_known.false))

pub loop-k-preserved : goal.loop-k-preserved
loop-k-preserved c =
    let at = (goal.at.loop-k-preserved c).After-tells_known in
    let its = subst (λ (o : Option Event). IsByNumber c.loop-k.names c.event.new.self c.event_at-event.result o)
    c.in-Some.is c.in_ok-small.ensures.event in
    record {
      numbered = subst (λ (es : List Event). AreNumbered c.args.observed.now (take (c.loop-k.k + 1)
          c.args.moments.now) c.event.new.self es) (sym c.in_ok-push-in-Some.ensures.items)
          (numbered_more c.args.observed.now c.requires.observed c.moment_at-moment.result c.event_at-event.result
          c.event_at-event.ensures c.args.moments.now c.loop-k.k c.loop-k.run.items
          c.in-Some.small c.in_ok-small.ensures.grows (at_moment at) (known_here at c.if-not-tells_known.false) its
          c.loop-k.invariant.numbered);
      grows = grown_twice c.loop-k.invariant.grows c.in_ok-small.ensures.grows;
      wide = λ width are. c.in_ok-small.ensures.wide width (c.loop-k.invariant.wide width are);
    }

pub returns-clause-run : goal.returns-clause-run
returns-clause-run c = up_to_end c.args.observed.now c.args.moments.now c.loop-k.names c.loop-k.run.items c.loop-k.k
    c.loop-k-test.false c.loop-k.auto.k-end c.loop-k.invariant.numbered

pub event_at-event-requires : goal.event_at-event-requires
event_at-event-requires c =
    let there = c.moment_at-moment.ensures in
    subst (IsMomentOf c.args.observed.now.entries) (get_or_from_slice_get c.args.moments.now c.loop-k.k
    c.moment_at-moment.result c.moment_at-moment.result there) (c.requires.moments c.loop-k.k
    c.moment_at-moment.result (slice_get_within c.args.moments.now c.loop-k.k c.moment_at-moment.result there))
