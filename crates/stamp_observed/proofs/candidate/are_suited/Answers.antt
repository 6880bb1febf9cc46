use Rattle.std.proofs.Common.{◌≡◌, ◌<◌, ◌∙◌, ℕ, sym, subst, arith}
use Rattle.std.specs.Prelude.{take, IsTrue}
use Rattle.std.specs.List.{All}
use Rattle.std.proofs.lemmas.List.{take_all}
use Rattle.std.proofs.lemmas.List.Elements.{All-more}
use Rattle.stamp_core.specs.Call.{call_suits}
use Rattle.stamp_explain.specs.declared.observed.Observation.{Observation}
use Rattle.stamp_observed.proofs.candidate.are_suited.Goals as goal

pub loop-entry-preserved : goal.loop-entry-preserved
loop-entry-preserved c =
    let Suits : Observation → Type 0 = λ (e : Observation). IsTrue (call_suits c.args.observed.now.width e.call) in
    record {
      threads = All-more (λ (e : Observation). e.thread < 64) c.entries-entry-items.result.now
          c.loop-entry.entry-index c.entry-item.result c.loop-entry-test.true c.loop-entry.invariant.threads
          (subst (λ (e : Observation). e.thread < 64) c.entry-item.is
          (omega (arith, c.if-entry-ge-MOST_THREADS.false)));
      suit = All-more Suits c.entries-entry-items.result.now c.loop-entry.entry-index c.entry-item.result
          c.loop-entry-test.true c.loop-entry.invariant.suit (subst Suits c.entry-item.is
          (subst (λ (w : ℕ). IsTrue (call_suits w c.entry-item.result.call)) c.width.ensures.width
          (sym c.suits.ensures ∙ c.if-not-suits.false)));
    }

pub returns : goal.returns
returns c =
    let all : take c.loop-entry.entry-index c.entries-entry-items.result.now ≡ c.args.observed.now.entries =
    take_all c.loop-entry.entry-index c.entries-entry-items.result.now (omega (arith, c.loop-entry-test.false)) ∙
    c.entries-entry-items.ensures.entries in
    λ _. record {
      threads = subst (All (λ (e : Observation). e.thread < 64)) all c.loop-entry.invariant.threads;
      suit = subst (All (λ (e : Observation). IsTrue (call_suits c.args.observed.now.width e.call))) all
          c.loop-entry.invariant.suit;
    }
