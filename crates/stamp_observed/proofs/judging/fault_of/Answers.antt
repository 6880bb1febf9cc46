use Rattle.std.proofs.Common.{◌≤◌, ◌<◌, ℕ, List, length, subst}
use Rattle.std.specs.Prelude.{take}
use Rattle.std.specs.List.{AllPairs}
use Rattle.std.proofs.lemmas.Option.{MatchOption-at_some, MatchOption-at_none}
use Rattle.stamp_explain.specs.declared.observed.Observation.{Observation}
use Rattle.stamp_explain.specs.Observed.{DoNotOverlap}
use Rattle.stamp_observed.specs.inner.ObservedFault.{AreIntervalsTo, IsFirstOverlap}
use Rattle.stamp_observed.proofs.Seen.{overlap_fault, interval_fault, no_fault}
use Rattle.stamp_observed.proofs.judging.fault_of.Goals as goal

pub returns-in-Some : goal.returns-in-Some
returns-in-Some c =
    let count = c.intervals_of-count.result in
    let same = c.entries-entries.ensures.entries in
    overlap_fault c.args.observed.now count c.in-Some.i
    (subst (λ (es : List Observation). AreIntervalsTo es count) same c.intervals_of-count.ensures)
    (subst (λ (es : List Observation). IsFirstOverlap (take count es) c.in-Some.i) same
    (MatchOption-at_some (AllPairs DoNotOverlap (take count c.entries-entries.result.now))
    (λ (i : ℕ). IsFirstOverlap (take count c.entries-entries.result.now) i) c.in-Some.i c.in-Some.is
    c.in_ok-i.ensures))

pub returns-in-None : goal.returns-in-None
returns-in-None c =
    let count = c.intervals_of-count.result in
    let same = c.entries-entries.ensures.entries in
    interval_fault c.args.observed.now count
    (subst (λ (es : List Observation). AreIntervalsTo es count) same c.intervals_of-count.ensures)
    (subst (λ (es : List Observation). count < length es) same c.if-count-entries.true)
    (subst (λ (es : List Observation). AllPairs DoNotOverlap (take count es)) same
    (MatchOption-at_none (AllPairs DoNotOverlap (take count c.entries-entries.result.now))
    (λ (i : ℕ). IsFirstOverlap (take count c.entries-entries.result.now) i) c.in-None.is c.in_ok-i.ensures))

pub returns-in-None-2 : goal.returns-in-None-2
returns-in-None-2 c =
    let count = c.intervals_of-count.result in
    let same = c.entries-entries.ensures.entries in
    no_fault c.args.observed.now count c.requires
    (subst (λ (es : List Observation). AreIntervalsTo es count) same c.intervals_of-count.ensures)
    (subst (λ (es : List Observation). length es ≤ count) same c.if-count-entries.false)
    (subst (λ (es : List Observation). AllPairs DoNotOverlap (take count es)) same
    (MatchOption-at_none (AllPairs DoNotOverlap (take count c.entries-entries.result.now))
    (λ (i : ℕ). IsFirstOverlap (take count c.entries-entries.result.now) i) c.in-None-2.is c.in_ok-i.ensures))
