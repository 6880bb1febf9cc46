-- What the steps of a script have finished, and what the later ones do.
use Rattle.std.proofs.Common.{◌≡◌, ℕ, ◌+◌, ◌<◌, ◌≤◌, List, [], ◌∷◌, ◌++◌, length, take, drop}
use Rattle.std.proofs.Common.{Option, Some, None, refl, sym, ◌∙◌, ap, append_assoc, arith}
use Rattle.std.specs.Prelude.{fold, slice_get, vec_len}
use Rattle.std.proofs.lemmas.List.{append-nil, append_cancel_left}
use Rattle.std.proofs.lemmas.List.{length-take}
use Rattle.std.proofs.Math.Seq.{drop-append_seam}
use Rattle.stamp_core.specs.declared.entry.Entry.{Entry}
use Rattle.stamp_machines.specs.Script.{Scripted, IsSound}
use Rattle.stamp_machines.specs.inner.Invariant.{Invariant}
use Rattle.stamp_machines.specs.World.{World, execution_of, finished_calls, step, world_stepped, world_after}
use Rattle.stamp_machines.specs.World.{current, stamps_of, opening}
use Rattle.stamp_machines.specs.inner.StepKind.{IsOfKind}
use Rattle.stamp_machines.specs.CompletionsFields.{IsAfter, calls_until, calls_after, completing_at}
use Rattle.stamp_machines.specs.inner.CompletionsFields.{HandsOn, StepMade}
use Rattle.stamp_machines.specs.Completing.{before_all}
use Rattle.stamp_machines.specs.StateFields.{world_at, stamps_at}
use Rattle.stamp_machines.specs.inner.StateFields.{SameState}
use Rattle.stamp_machines.specs.declared.machine.Turn.{Turn}
use Rattle.stamp_machines.specs.declared.machine.Turn.TheVariants as turned
use Rattle.stamp_machines.specs.declared.state.Begun.{Begun}
use Rattle.stamp_machines.specs.declared.state.RunState.{RunState}
use Rattle.stamp_machines.specs.declared.state.StepKind.{StepKind}
use Rattle.stamp_machines.specs.declared.state.StepKind.TheVariants.{Idle, Going, Ended}
use Rattle.stamp_machines.proofs.StepBound.{execution-rest}
use Rattle.stamp_machines.proofs.StepsKeep.{execution_of-more, always-kept}

-- a step takes no entry away
world_after-entries : (world : World) (t : ℕ) (b : Begun) (words : List ℕ) (now : Turn) →
    (more : List Entry) × ((world_after world t b words now).entries ≡ world.entries ++ more)
world_after-entries world t b words (turned.Going m) = ([], sym (append-nil world.entries))
world_after-entries world t b words (turned.Done r) = (_, refl)

world_stepped-entries : (world : World) (t : ℕ) (o : Option Begun) →
    (more : List Entry) × ((world_stepped world t o).entries ≡ world.entries ++ more)
world_stepped-entries world t None = ([], sym (append-nil world.entries))
world_stepped-entries world t (Some b) = world_after-entries world t b _ _

entries-more : (script : Scripted) (world : World) (steps : List ℕ) →
    (more : List Entry) × ((fold (step script) world steps).entries ≡ world.entries ++ more)
entries-more script world [] = ([], sym (append-nil world.entries))
entries-more script world (t ∷ steps) =
    let one = world_stepped-entries world t (current script world t) in
    let rest = entries-more script (step script world t) steps in (
      one.0 ++ rest.0,
      rest.1 ∙ ap (λ (es : List Entry). es ++ rest.0) one.1
          ∙ append_assoc world.entries one.0 rest.0,
    )

no_entry : (entries : List Entry) (e : Entry) → entries ≡ entries ++ e ∷ [] → ⊥
no_entry entries e more =
    let none : [] ≡ e ∷ [] =
    append_cancel_left entries [] (e ∷ []) (append-nil entries ∙ more) in
    cc

-- the entry that a step leaves is of a call that ended by it
world_after-last : (world : World) (t : ℕ) (b : Begun) (words : List ℕ) (now : Turn) (e : Entry) →
    (world_after world t b words now).entries ≡ world.entries ++ e ∷ [] → e.last ≡ world.position
world_after-last world t b words (turned.Going m) e more =
    absurd (no_entry world.entries e more)
world_after-last world t b words (turned.Done r) e more =
    let one = append_cancel_left world.entries _ (e ∷ []) more in
    cc

world_stepped-last : (world : World) (t : ℕ) (o : Option Begun) (e : Entry) →
    (world_stepped world t o).entries ≡ world.entries ++ e ∷ [] → e.last ≡ world.position
world_stepped-last world t None e more = absurd (no_entry world.entries e more)
world_stepped-last world t (Some b) e more = world_after-last world t b _ _ e more

-- all that a script finishes is what it has finished and what it still does
until-and-after : (script : Scripted) (made : ℕ) →
    finished_calls script script.steps ≡ calls_until script made ++ calls_after script made
until-and-after script made =
    let more =
    entries-more script (execution_of script (take made script.steps)) (drop made script.steps) in
    let all : finished_calls script script.steps ≡ calls_until script made ++ more.0 =
    ap (λ (w : World). w.entries) (sym (execution-rest script script.steps made)) ∙ more.1 in
    let rest : calls_after script made ≡ more.0 =
    ap (λ (es : List Entry). drop (length (calls_until script made)) es) all
    ∙ drop-append_seam (calls_until script made) more.0 in
    all ∙ ap (λ (es : List Entry). calls_until script made ++ es) (sym rest)

after-ended : (script : Scripted) (made made' : ℕ) (e : Entry) →
    calls_until script made' ≡ calls_until script made ++ e ∷ [] →
    calls_after script made ≡ e ∷ calls_after script made'
after-ended script made made' e more =
    let all : finished_calls script script.steps
    ≡ calls_until script made ++ (e ∷ calls_after script made') =
    until-and-after script made'
    ∙ ap (λ (es : List Entry). es ++ calls_after script made') more
    ∙ append_assoc (calls_until script made) (e ∷ []) (calls_after script made') in
    ap (λ (es : List Entry). drop (length (calls_until script made)) es) all
    ∙ drop-append_seam (calls_until script made) (e ∷ calls_after script made')

after-same : (script : Scripted) (made made' : ℕ) → calls_until script made' ≡ calls_until script made →
    calls_after script made' ≡ calls_after script made
after-same script made made' same =
    ap (λ (es : List Entry). drop (length es) (finished_calls script script.steps)) same

-- before the first step
pub opening-after : (script : Scripted) (s : RunState) → world_at [] s 0 ≡ opening script →
    vec_len s.workers ≡ length script.threads →
    ((t : ℕ) → stamps_at s.workers.items t ≡ []) → IsAfter script s 0
unfolding execution_of
opening-after script s world workers stamps =
    record {
      world = ap (λ (w : World). record w { entries = [] }) world;
      few = omega arith;
      workers = workers;
      stamps = stamps;
    }

pub opening-completing : (script : Scripted) (s : RunState) → world_at [] s 0 ≡ opening script →
    completing_at script s 0 ≡ before_all script
unfolding execution_of
opening-completing script s world =
    ap (λ (es : List Entry). record {
      script = script;
      made = 0;
      last = slice_get es 0;
      rest = finished_calls script script.steps;
    }) (ap (λ (w : World). w.entries) world)

-- the schedule's world, where the entries of the steps made are gone
pub world-after : (script : Scripted) (s : RunState) (made : ℕ) → IsAfter script s made →
    s.entries.items ≡ [] →
    world_at (calls_until script made) s made ≡ execution_of script (take made script.steps)
world-after script s made after none =
    let until : calls_until script made ++ s.entries.items ≡ calls_until script made =
    ap (λ (es : List Entry). calls_until script made ++ es) none
    ∙ append-nil (calls_until script made) in
    ap (λ (es : List Entry). record (world_at [] s made) { entries = es }) until ∙ after.world

pub kept-after : (script : Scripted) (s : RunState) (made : ℕ) → IsSound script →
    length script.steps ≤ 1000000 → IsAfter script s made → s.entries.items ≡ [] →
    Invariant script (world_at (calls_until script made) s made)
kept-after script s made sound few after none =
    rw (world-after script s made after none)
    (always-kept script (take made script.steps) sound (simp length-take (omega (arith, few))))

pub after-reserved : (script : Scripted) (old mid : RunState) (made : ℕ) → SameState old mid →
    IsAfter script old made → IsAfter script mid made
after-reserved script old mid made same after =
    record {
      world = simp (same.words, same.begun) after.world;
      few = after.few;
      workers = same.workers ∙ after.workers;
      stamps = λ t. same.stamps t ∙ after.stamps t;
    }

-- what kind a step is of, and what it left
going : (script : Scripted) (old new : RunState) (made t : ℕ) → old.entries.items ≡ [] →
    calls_until script (made + 1) ≡ calls_until script made ++ new.entries.items →
    calls_until script made ++ new.entries.items ≡ calls_until script made ++ old.entries.items →
    (new.entries.items ≡ []) × (calls_after script (made + 1) ≡ calls_after script made)
going script old new made t none until same =
    let gone : List Entry = calls_until script made in
    let items : new.entries.items ≡ [] =
    append_cancel_left gone new.entries.items old.entries.items same ∙ none in (
      items,
      after-same script made (made + 1)
          (until ∙ ap (λ (es : List Entry). gone ++ es) items ∙ append-nil gone),
    )

handed-on : (script : Scripted) (old new : RunState) (made t : ℕ) (p : StepKind) →
    old.entries.items ≡ [] →
    (step script (world_at (calls_until script made) old made) t).entries
    ≡ calls_until script made ++ new.entries.items →
    calls_until script (made + 1) ≡ calls_until script made ++ new.entries.items →
    IsOfKind script (world_at (calls_until script made) old made) t p → HandsOn script new made p
handed-on script old new made t Idle none entries until told =
    let world : World = world_at (calls_until script made) old made in
    going script old new made t none until
    (sym entries ∙ ap (λ (o : Option Begun). (world_stepped world t o).entries) told)
handed-on script old new made t Going none entries until told =
    going script old new made t none until (sym entries ∙ told.1)
handed-on script old new made t Ended none entries until told =
    let gone : List Entry = calls_until script made in
    let one : new.entries.items ≡ told.0 ∷ [] =
    append_cancel_left gone new.entries.items (told.0 ∷ [])
    (sym entries ∙ told.1 ∙ ap (λ (es : List Entry). (gone ++ es) ++ told.0 ∷ []) none
    ∙ ap (λ (es : List Entry). es ++ told.0 ∷ []) (append-nil gone)) in
    let rest : calls_after script made ≡ told.0 ∷ calls_after script (made + 1) =
    after-ended script made (made + 1) told.0
    (until ∙ ap (λ (es : List Entry). gone ++ es) one) in
    let ended : made + 1 ≡ told.0.last + 1 =
    ap (λ (n : ℕ). n + 1)
    (sym (world_stepped-last (world_at gone old made) t (current script (world_at gone old made) t) told.0 told.1)) in
    rw (one, rest, ended) refl

pub step-passed : (script : Scripted) (old new : RunState) (made t : ℕ) (p : StepKind) →
    IsAfter script old made → made < length script.steps → old.entries.items ≡ [] →
    take (made + 1) script.steps ≡ take made script.steps ++ t ∷ [] →
    world_at (calls_until script made) new (made + 1)
    ≡ step script (world_at (calls_until script made) old made) t →
    vec_len new.workers ≡ vec_len old.workers →
    ((u : ℕ) → stamps_at new.workers.items u
    ≡ stamps_of u (calls_until script made ++ new.entries.items)) →
    IsOfKind script (world_at (calls_until script made) old made) t p → StepMade script new made p
step-passed script old new made t p after left none taken world workers stamps told =
    let until' : List Entry = calls_until script (made + 1) in
    let here : world_at (calls_until script made) new (made + 1)
    ≡ execution_of script (take (made + 1) script.steps) =
    world ∙ ap (λ (w : World). step script w t) (world-after script old made after none)
    ∙ sym (execution_of-more script (take made script.steps) t)
    ∙ ap (λ (xs : List ℕ). execution_of script xs) (sym taken) in
    let until : until' ≡ calls_until script made ++ new.entries.items =
    ap (λ (w : World). w.entries) (sym here) in
    record {
      after = record {
        world = ap (λ (w : World). record w { entries = until' }) here;
        few = omega arith;
        workers = workers ∙ after.workers;
        stamps = λ u. stamps u ∙ ap (λ (es : List Entry). stamps_of u es) (sym until);
      };
      hands_on = handed-on script old new made t p none
          (ap (λ (w : World). w.entries) (sym world)) until told;
    }
