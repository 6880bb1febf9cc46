use Rattle.std.proofs.Common.{◌∙◌, ◌<◌, length, sym, ap, subst, arith}
use Rattle.std.proofs.lemmas.Option.{slice_get_within}
use Rattle.stamp_core.specs.declared.entry.Entry.{Entry}
use Rattle.stamp_picture.specs.inner.Track.{TellsDue}
use Rattle.stamp_picture.proofs.Tracking.{due_at}
use Rattle.stamp_picture.proofs.picture.judged.Goals as goal

pub returns-clause-judged : goal.returns-clause-judged
returns-clause-judged c = (
  c.in-Err.ensures,
  λ f at.
      let due = due_at c.args.history.now c.limits-limits.result c.width.result c.entries-entries.result.now
      c.in-Err.bad.entry c.track_after-track.result c.index-entries-at.result c.answer.result c.limits-limits.ensures
      c.width.ensures c.entries-entries.ensures.entries c.entries-entries.ensures.known.suit
      c.track_after-track.ensures c.index-entries-at.is
      (subst (λ (e : Entry). TellsDue c.limits-limits.result c.track_after-track.result e.call c.answer.result)
      (sym c.index-entries-at.is) c.answer.ensures) f at in
      (ap (λ (e : Entry). e.call) (sym c.index-entries-at.is) ∙ due.0, due.1),
)

pub returns-clause-drawn : goal.returns-clause-drawn
returns-clause-drawn c =
    let r = c.args.history.now in
    let lt : c.in-Err.bad.entry < length r.entries =
    slice_get_within r.entries c.in-Err.bad.entry c.in-Err.ensures.entry c.in-Err.ensures.is_entry in
    omega arith
