use Rattle.std.proofs.Common.{◌≡◌, ◌∙◌, Some, length, sym, refl, ap, arith}
use Rattle.std.specs.Prelude.{slice_index_or, slice_set}
use Rattle.std.proofs.lemmas.Grind.{common_steps}
use Rattle.std.proofs.lemmas.List.{with_items_is, set-get_or}
use Rattle.stamp_machines.specs.declared.machine.Turn.TheVariants.{Going, Done}
use Rattle.stamp_machines.specs.declared.state.RunState.{RunState}
use Rattle.stamp_machines.specs.declared.state.Worker.{Worker}
use Rattle.stamp_machines.proofs.AccessesAreSafe.{IsSafeIn}
use Rattle.stamp_machines.proofs.StateSteps.{HasBegun, has-begun, worker-safe, step-made, idle-made}
use Rattle.stamp_machines.proofs.state.RunState.step.Given.{Over}
use Rattle.stamp_machines.proofs.state.RunState.step.Goals as goal
use Rattle.stamp_machines.proofs.state.RunState.step.Goals.{After-index_mut-worker, After-deref_mut}

-- the thread's next call was begun, if it was in none
next_begun : (g : Over) (c : After-index_mut-worker g) →
    HasBegun g.gone c.args.script.now c.args.self.now c.begin.new.self c.args.thread c.args.position
next_begun g c =
    has-begun g.gone _ _ _ _ _ c.requires.1.1.1.0 c.begin.ensures.workers c.begin.ensures.entries
    c.requires.1.1.1.1.1.0 c.begin.ensures.stamps c.begin.ensures.world

pub returns-in-None-clause-step : goal.returns-in-None-clause-step
returns-in-None-clause-step g c =
    let mid : RunState = c.begin.new.self in
    let worker : Worker = c.index_mut-worker.result.now in
    let value : worker ≡ slice_index_or mid.workers.items c.args.thread worker =
    c.index_mut-worker.ensures.value in
    idle-made g.gone _ _ mid _ c.args.thread c.args.position worker
    (next_begun g (goal.at.returns-in-None-clause-step g c).After-index_mut-worker)
    (ap (λ (w : Worker). w.begun) (sym value) ∙ c.in-None.is) refl
    (ap (λ (w : Worker). slice_set mid.workers.items c.args.thread w) value
    ∙ set-get_or mid.workers.items c.args.thread worker) refl

-- the worker's call under way
has_call_under_way : (g : Over) (c : After-deref_mut g) →
    (slice_index_or c.begin.new.self.workers.items c.args.thread c.index_mut-worker.result.now).begun
    ≡ Some c.in-Some.begun
has_call_under_way g c = rw (← c.index_mut-worker.ensures.value) c.in-Some.is

-- the words that its access finds
words_found : (g : Over) (c : After-deref_mut g) → c.deref_mut.result.now ≡ c.begin.new.self.words.items
words_found g c = grind (arith, common_steps)

-- its access is safe
access_is_safe : (g : Over) (c : After-deref_mut g) →
    HasBegun g.gone c.args.script.now c.args.self.now c.begin.new.self c.args.thread c.args.position →
    let machine = c.in-Some.begun.machine in
    IsSafeIn machine.shape machine.call machine.stage c.deref_mut.result.now
access_is_safe g c begun = rw (words_found g c)
    (worker-safe g.gone _ _ _ _ _ _ _ begun c.requires.1.0 c.requires.0 c.requires.1.1.0 (has_call_under_way g c))

pub access-requires-clause-inside : goal.access-requires-clause-inside
access-requires-clause-inside g c = let at = goal.at.access-requires-clause-inside g c in
    (access_is_safe g at.After-deref_mut (next_begun g at.After-index_mut-worker)).0

pub access-requires-clause-word : goal.access-requires-clause-word
access-requires-clause-word g c = let at = goal.at.access-requires-clause-word g c in
    (access_is_safe g at.After-deref_mut (next_begun g at.After-index_mut-worker)).1

pub returns-then-not-access-clause-step : goal.returns-then-not-access-clause-step
returns-then-not-access-clause-step g c =
    let at = goal.at.returns-then-not-access-clause-step g c in
    let mid : RunState = c.begin.new.self in
    let words = words_found g at.After-deref_mut in
    let many : length c.access.new.words ≡ mid.words.len = grind (arith, common_steps) in
    step-made g.gone _ _ mid _ c.args.thread c.args.position _ _ c.in-Some.begun (Going c.access.new.self)
    (next_begun g at.After-index_mut-worker) (has_call_under_way g at.After-deref_mut) record {
      words =
          with_items_is mid.words c.access.new.words many
          ∙ rw words at c.if-not-access.ensures.words;
      turn = rw words at (sym c.if-not-access.ensures.after);
      workers = refl;
      begun = refl;
      stamps = ap (λ (w : Worker). w.stamps.items) c.index_mut-worker.ensures.value;
      entries = refl;
    }

pub returns-else-not-access-clause-step : goal.returns-else-not-access-clause-step
returns-else-not-access-clause-step g c =
    let at = goal.at.returns-else-not-access-clause-step g c in
    let mid : RunState = c.begin.new.self in
    let words = words_found g at.After-deref_mut in
    let many : length c.access.new.words ≡ mid.words.len = grind (arith, common_steps) in
    step-made g.gone _ _ mid _ c.args.thread c.args.position _ c.end.new.self c.in-Some.begun
    (Done c.access.new.reply)
    (next_begun g at.After-index_mut-worker) (has_call_under_way g at.After-deref_mut) record {
      words =
          with_items_is mid.words c.access.new.words many
          ∙ rw words at c.if-not-access.ensures.words;
      turn = rw words at (sym c.if-not-access.ensures.after);
      workers = refl;
      begun = c.end.ensures.begun;
      stamps = rw (← c.index_mut-worker.ensures.value, ← c.stamp_in.ensures) c.end.ensures.stamps;
      entries = rw c.if-not-access.ensures.call at c.keep.ensures;
    }
