use Rattle.std.proofs.Common.{◌≡◌, ◌∙◌, ◌++◌, ◌∷◌, [], List, sym, ap, subst, take, arith}
use Rattle.std.specs.Prelude.{if◌then◌else◌}
use Rattle.stamp_core.specs.declared.entry.Entry.{Entry}
use Rattle.stamp_picture.specs.declared.state.State.{State}
use Rattle.stamp_picture.specs.declared.state.Moment.{Moment}
use Rattle.stamp_picture.specs.Moment.{state_after, opening_state, moments_of}
use Rattle.stamp_picture.specs.inner.Track.{IsTrack}
use Rattle.stamp_picture.specs.Window.{contains, precedes}
use Rattle.stamp_picture.proofs.EachInTurn.{taken_more, moments_more, opening_more, kept, left_out, opened, unopened}
use Rattle.stamp_picture.proofs.picture.ribbon_of.Goals as goal
use Rattle.stamp_picture.proofs.picture.ribbon_of.Goals.{then-is_after, else-is_after}
use Rattle.stamp_picture.proofs.picture.ribbon_of.Goals.{then-contains+in_ok-push, else-contains}

pub state-state-requires : goal.state-state-requires
state-state-requires c =
    let now = c.advance.ensures.behind c.args.width (take c.loop-entry.entry-index c.args.entries.now)
    c.loop-entry.invariant.track in
    record { events = _; represented = now.word }

pub loop-entry-preserved : goal.loop-entry-preserved
loop-entry-preserved c =
    let l = c.args.limits in
    let n = c.args.width in
    let w = c.args.window in
    let xs = c.args.entries.now in
    let i = c.loop-entry.entry-index in
    let e = c.entry-item.result in
    let lt = c.loop-entry-test.true in
    let before = take i xs in
    let behind = c.advance.ensures.behind n before c.loop-entry.invariant.track in
    let more = taken_more xs i e lt c.entry-item.is in
    let after : c.state-state.result ≡ state_after l n (before ++ e ∷ []) = c.state-state.ensures.is _ behind in
    let moment : Moment = record { point = e.point; state = c.state-state.result } in
    let moments = moments_more l n w xs i e lt c.entry-item.is ∙
    ap (λ (s : State). moments_of l n w before ++
    (if contains w e.point then record { point = e.point; state = s } ∷ [] else [])) (sym after) ∙
    ap (λ (ms : List Moment). ms ++ (if contains w e.point then moment ∷ [] else []))
    (sym c.loop-entry.invariant.ribbon) in
    let opening = opening_more l n w xs i e lt c.entry-item.is ∙
    ap (λ (ys : List Entry). if precedes e.point w then state_after l n ys else opening_state l n w before) more ∙
    ap (λ (s : State). if precedes e.point w then s else opening_state l n w before) (sym after) ∙
    ap (λ (s : State). if precedes e.point w then c.state-state.result else s) (sym c.loop-entry.invariant.opening) in
    record {
      track = subst (λ (ys : List Entry). IsTrack l n ys c.advance.new.self) (sym more) behind;
      opening = elim c.if-is_after.branch [
        | then-is_after x ↦ opened (precedes e.point w) c.state-state.result c.loop-entry.opening _ _ opening
            (sym c.is_after.ensures ∙ x.if-is_after.true) x.opening-is
        | else-is_after x ↦ unopened (precedes e.point w) c.state-state.result c.loop-entry.opening _ _ opening
            (sym c.is_after.ensures ∙ x.if-is_after.false) x.opening-is
      ];
      ribbon = elim c.if-contains.branch [
        | then-contains+in_ok-push x ↦ kept (contains w e.point) moment c.loop-entry.ribbon.items _ _ moments
            (sym c.contains.ensures ∙ x.if-contains.true) (grind (arith, x))
        | else-contains x ↦ left_out (contains w e.point) moment c.loop-entry.ribbon.items _ _ moments
            (sym c.contains.ensures ∙ x.if-contains.false) (grind (arith, x))
      ];
    }
