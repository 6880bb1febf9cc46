use Rattle.std.proofs.Common.{◌≡◌, ◌∙◌, ◌+◌, ◌<◌, ◌++◌, ◌∷◌, ℕ, List, [], length, take, get_or}
use Rattle.std.proofs.Common.{ap, sym, arith}
use Rattle.std.specs.Prelude.{vec_len}
use Rattle.std.proofs.lemmas.List.{take_more, append-nil}
use Rattle.std.proofs.lemmas.List.Elements.{All-get_or}
use Rattle.stamp_core.specs.declared.entry.Entry.{Entry}
use Rattle.stamp_machines.specs.Script.{Scripted}
use Rattle.stamp_machines.specs.World.{stamps_of}
use Rattle.stamp_machines.specs.StateFields.{stamps_at}
use Rattle.stamp_machines.specs.CompletionsFields.{IsAfter, calls_until}
use Rattle.stamp_machines.specs.declared.state.RunState.{RunState}
use Rattle.stamp_machines.proofs.FinishedCalls.{step-passed, after-reserved, kept-after}
use Rattle.stamp_machines.proofs.completions.make_step.Goals as goal

pub step-requires : goal.step-requires
step-requires c =
    let script : Scripted = c.args.script.now in
    let made : ℕ = c.args.made in
    let old : RunState = c.reserve.new.self in
    let same = c.reserve.ensures.same in
    let room = c.in_ok-reserve.ensures in
    let after : IsAfter script old made =
    after-reserved script c.args.state.now old made same c.requires.after in
    let none : old.entries.items ≡ [] = same.entries ∙ c.requires.none in
    let few : made < 1000000 = omega (arith, c.requires.few, c.steps.ensures.few) in
    let in_range : get_or script.steps made 0 < length script.threads =
    All-get_or (λ (n : ℕ). n < length script.threads) script.steps made 0 c.requires.few
    c.steps.ensures.in_range in
    let thread : get_or c.steps.result.now made 0 < vec_len old.workers =
    rw (c.steps.ensures.steps, after.workers) in_range in
    let stamps : (t : ℕ) → stamps_at old.workers.items t
    ≡ stamps_of t (calls_until script made ++ old.entries.items) =
    λ t. after.stamps t ∙ ap (λ (es : List Entry). stamps_of t es)
    (sym (append-nil (calls_until script made))
    ∙ ap (λ (es : List Entry). calls_until script made ++ es) (sym none)) in (
      c.steps.ensures.sound,
      (
        kept-after script old made c.steps.ensures.sound c.steps.ensures.few after none,
        (few, (thread, (after.workers, (stamps, (room.room, room.entries))))),
      ),
    )

pub returns-clause-ok : goal.returns-clause-ok
returns-clause-ok c =
    let script : Scripted = c.args.script.now in
    let made : ℕ = c.args.made in
    let old : RunState = c.reserve.new.self in
    let same = c.reserve.ensures.same in
    let taken : take (made + 1) script.steps
    ≡ take made script.steps ++ get_or c.steps.result.now made 0 ∷ [] =
    rw c.steps.ensures.steps (take_more script.steps made 0 c.requires.few) in
    step-passed script old c.step.new.self made (get_or c.steps.result.now made 0) c.step.result
    (after-reserved script c.args.state.now old made same c.requires.after) c.requires.few
    (same.entries ∙ c.requires.none) taken c.step.ensures.step.world c.step.ensures.workers
    c.step.ensures.step.stamps c.step.ensures.step.of_kind
