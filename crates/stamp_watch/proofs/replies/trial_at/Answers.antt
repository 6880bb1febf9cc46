use Rattle.std.proofs.Common.{ℕ, ◌≡◌, ◌<◌, ◌∙◌, false, true, Fits, List, arith, get_or, length, subst}
use Rattle.std.proofs.Common.{sym, w8}
use Rattle.std.specs.Prelude.{take}
use Rattle.std.proofs.lemmas.Option.{slice_get_within}
use Rattle.stamp_core.specs.Limits.{Bounds}
use Rattle.stamp_explain.specs.declared.observed.Observation.{Observation}
use Rattle.stamp_watch.specs.AsEvents.{AreMomentsOf}
use Rattle.stamp_watch.specs.Form.{is_busy_after}
use Rattle.stamp_watch.specs.inner.Trial.{AreNumbered, IsTrial}
use Rattle.stamp_watch.specs.inner.Trial.{MayReturn, words_beside}
use Rattle.stamp_watch.proofs.NumberedRun.{cut_short, numbered_whole}
use Rattle.stamp_watch.proofs.TrialAt.{begins_in, free_there, has_beginning, has_return, lane_read, low_thread}
use Rattle.stamp_watch.proofs.TrialAt.{moments_before, none_here, returns_behind, tried_here, up_to_place}
use Rattle.stamp_watch.proofs.replies.trial_at.Goals as goal
use Rattle.stamp_watch.proofs.replies.trial_at.Goals.{After-as_slice-moments, After-limits}

are_here : (c : After-as_slice-moments) → AreMomentsOf c.args.observed.now.entries c.as_slice-moments.result.now
are_here c = subst (AreMomentsOf c.args.observed.now.entries) (sym c.as_slice-moments.ensures.value)
    c.in_ok-held.ensures

inside : (c : After-as_slice-moments) → c.args.entry < length c.args.observed.now.entries
inside c = slice_get_within c.args.observed.now.entries c.args.entry c.requires.returned.entry
    c.requires.returned.is_entry

pub place_of-begins-requires : goal.place_of-begins-requires
place_of-begins-requires c = has_beginning c.args.observed.now c.args.entry c.requires.returned
    c.as_slice-moments.result.now (are_here (goal.at.place_of-begins-requires c).After-as_slice-moments)

pub place_of-place-requires : goal.place_of-place-requires
place_of-place-requires c = has_return c.args.observed.now c.args.entry c.requires.returned
    c.as_slice-moments.result.now (are_here (goal.at.place_of-place-requires c).After-as_slice-moments)

pub offset_bounds-entries-entry : goal.offset_bounds-entries-entry
offset_bounds-entries-entry c =
    let less : c.args.entry < length c.args.observed.now.entries = inside
    (goal.at.offset_bounds-entries-entry c).After-as_slice-moments in
    omega (arith, less, c.entries.ensures.small.entries)

pub bounds-entries-entry : goal.bounds-entries-entry
bounds-entries-entry c = subst (λ (es : List Observation). c.args.entry < length es) (sym c.entries.ensures.entries)
    (inside (goal.at.bounds-entries-entry c).After-as_slice-moments)

pub bounds-entries-entry-in_ok-held : goal.bounds-entries-entry-in_ok-held
bounds-entries-entry-in_ok-held c = subst (λ (es : List Observation). c.args.entry < length es)
    (sym c.entries.ensures.entries) (inside (goal.at.bounds-entries-entry-in_ok-held c).After-as_slice-moments)

pub overflow_cast-lane : goal.overflow_cast-lane
overflow_cast-lane c =
    let same = lane_read c.args.observed.now c.args.entry c.requires.returned c.entries.result.now
    c.index-entries-entry.result c.entries.ensures.entries in
    let low : c.requires.returned.entry.thread < 64 = low_thread c.args.observed.now c.args.entry c.requires.returned
    c.as_slice-moments.result.now (are_here (goal.at.overflow_cast-lane c).After-as_slice-moments)
    c.requires.observed in
    subst (λ (n : ℕ). Fits w8 n) (sym same) (omega (arith, low))

pub slice_bounds-numbered_run-end : goal.slice_bounds-numbered_run-end
slice_bounds-numbered_run-end c = sym (up_to_place c.as_slice-moments.result.now c.args.entry true
    c.place_of-place.result c.place_of-place.ensures)

pub numbered_run-requires-clause-moments : goal.numbered_run-requires-clause-moments
numbered_run-requires-clause-moments c = moments_before c.args.observed.now c.args.entry c.requires.returned
    c.as_slice-moments.result.now (are_here (goal.at.numbered_run-requires-clause-moments c).After-as_slice-moments)
    c.place_of-place.result

-- the run up to the return
numbered_here : (c : After-limits) → AreNumbered c.args.observed.now (take c.place_of-place.result
    c.as_slice-moments.result.now) c.numbered_run.new.names c.in_ok-run.run'.items
numbered_here c = numbered_whole c.args.observed.now (take c.place_of-place.result c.as_slice-moments.result.now)
    c.numbered_run.new.names c.in_ok-run.run'.items c.in_ok-run.ensures.run
    (let long = up_to_place c.as_slice-moments.result.now c.args.entry true c.place_of-place.result
    c.place_of-place.ensures in let many = c.len.ensures in let all = c.if-len-place.false in
    omega (arith, long, many, all))

lane_here : (c : After-limits) →
    (get_or c.entries.result.now c.args.entry c.index-entries-entry.result).thread ≡ c.requires.returned.entry.thread
lane_here c = lane_read c.args.observed.now c.args.entry c.requires.returned c.entries.result.now
    c.index-entries-entry.result c.entries.ensures.entries

pub new-requires-clause-may : goal.new-requires-clause-may
new-requires-clause-may c = subst (MayReturn c.in_ok-run.run'.items)
    (sym (lane_here (goal.at.new-requires-clause-may c).After-limits))
    (returns_behind c.args.observed.now c.args.entry c.requires.returned c.as_slice-moments.result.now
    (are_here (goal.at.new-requires-clause-may c).After-as_slice-moments) c.requires.observed
    c.place_of-begins.result c.place_of-place.result c.place_of-begins.ensures c.place_of-place.ensures
    c.numbered_run.new.names c.in_ok-run.run'.items (numbered_here (goal.at.new-requires-clause-may c).After-limits))

pub new-requires-clause-within : goal.new-requires-clause-within
new-requires-clause-within c = begins_in c.args.observed.now c.args.entry c.requires.returned
    c.as_slice-moments.result.now (are_here (goal.at.new-requires-clause-within c).After-as_slice-moments)
    c.requires.observed c.place_of-begins.result c.place_of-place.result c.place_of-begins.ensures
    c.place_of-place.ensures c.numbered_run.new.names c.in_ok-run.run'.items
    (numbered_here (goal.at.new-requires-clause-within c).After-limits)

pub new-requires-clause-free : goal.new-requires-clause-free
new-requires-clause-free c =
    subst (λ (lane : ℕ). is_busy_after (take c.place_of-begins.result c.in_ok-run.run'.items) lane ≡ false)
    (sym (lane_here (goal.at.new-requires-clause-free c).After-limits))
    (free_there c.args.observed.now c.args.entry c.requires.returned c.as_slice-moments.result.now
    (are_here (goal.at.new-requires-clause-free c).After-as_slice-moments) c.requires.observed
    c.place_of-begins.result c.place_of-place.result c.place_of-begins.ensures c.place_of-place.ensures
    c.numbered_run.new.names c.in_ok-run.run'.items (numbered_here (goal.at.new-requires-clause-free c).After-limits))

pub returns : goal.returns
returns c = record {
  trial = tried_here c.args.observed.now c.args.entry c.requires.returned c.as_slice-moments.result.now
      (are_here (goal.at.returns c).After-as_slice-moments) c.requires.observed c.place_of-begins.result
      c.place_of-place.result c.place_of-begins.ensures c.place_of-place.ensures c.numbered_run.new.names
      c.in_ok-run.run'.items (numbered_here (goal.at.returns c).After-limits) c.args.most
      c.in_ok-trial.trial
      (c.in_ok-run.ensures.wide (words_beside c.args.observed.now.width) c.requires.contents)
      (subst (λ (limits : Bounds). IsTrial limits c.in_ok-trial.trial) c.limits.ensures
      c.in_ok-trial.ensures.trial) c.in_ok-trial.ensures.run
      (c.in_ok-trial.ensures.lane ∙ lane_here (goal.at.returns c).After-limits)
      c.in_ok-trial.ensures.most;
}

pub returns-then-len-place : goal.returns-then-len-place
returns-then-len-place c = record {
  trial = none_here c.args.observed.now c.args.entry c.requires.returned c.as_slice-moments.result.now
      (are_here (goal.at.returns-then-len-place c).After-as_slice-moments) c.requires.observed c.place_of-begins.result
      c.place_of-place.result c.place_of-begins.ensures c.place_of-place.ensures
      (cut_short c.args.observed.now (take c.place_of-place.result c.as_slice-moments.result.now)
      c.numbered_run.new.names c.in_ok-run.run'.items c.requires.observed (moments_before c.args.observed.now
      c.args.entry c.requires.returned c.as_slice-moments.result.now
      (are_here (goal.at.returns-then-len-place c).After-as_slice-moments) c.place_of-place.result)
      c.in_ok-run.ensures.run (let long = up_to_place c.as_slice-moments.result.now c.args.entry
      true c.place_of-place.result c.place_of-place.ensures in let many = c.len.ensures in
      let less = c.if-len-place.true in omega (arith, long, many, less)));
}
