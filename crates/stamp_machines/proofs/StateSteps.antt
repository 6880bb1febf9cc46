-- A step of the state is a step of the schedule.
use Rattle.std.proofs.Common.{◌≡◌, ℕ, ◌==◌, Bool, true, false, List, [], ◌∷◌, ◌++◌, Some}
use Rattle.std.proofs.Common.{if◌then◌else◌, refl, sym, ◌∙◌, ap, append_assoc, arith, zero, suc}
use Rattle.std.specs.Prelude.{map, slice_index_or, slice_get, slice_set, ◌+◌, ◌-◌, ◌<◌, length}
use Rattle.std.specs.Prelude.{Option, None, is_some, Vec, vec_len}
use Rattle.std.specs.declared.alloc.Global.{Global}
use Rattle.std.proofs.lemmas.List.{set-set, get_or-set_same, append-nil, map-append, map-set}
use Rattle.std.proofs.lemmas.List.{length-append, length-map}
use Rattle.std.proofs.lemmas.List.Elements.{filter-append}
use Rattle.stamp_machines.specs.declared.machine.Turn.{Turn}
use Rattle.stamp_machines.specs.declared.machine.Turn.TheVariants.{Going, Done}
use Rattle.stamp_core.specs.declared.entry.Entry.{Entry}
use Rattle.stamp_core.specs.declared.reply.Reply.{Reply}
use Rattle.stamp_machines.specs.declared.state.Begun.{Begun}
use Rattle.stamp_machines.specs.declared.state.Worker.{Worker}
use Rattle.stamp_machines.specs.Access.{words_after, found_by}
use Rattle.stamp_machines.specs.Machine.{plan_of, after_access}
use Rattle.stamp_machines.specs.Script.{Scripted}
use Rattle.stamp_machines.specs.Stepped.{AnswersStep}
use Rattle.stamp_machines.specs.declared.running.Stepped.TheVariants.{Ended}
use Rattle.stamp_machines.specs.declared.state.StepKind.{StepKind}
use Rattle.stamp_machines.specs.declared.state.StepKind.TheVariants as kind
use Rattle.stamp_machines.specs.inner.StepKind.{IsOfKind, outcome_of}
use Rattle.stamp_machines.specs.inner.StateStep.{IsStep}
use Rattle.stamp_core.specs.Decision.{stamp_in}
use Rattle.stamp_machines.specs.Script.{IsSound}
use Rattle.stamp_machines.specs.inner.Invariant.{Invariant}
use Rattle.stamp_machines.specs.StateFields.{world_at, stamps_at, stamps_in, begun_in}
use Rattle.stamp_machines.specs.declared.state.RunState.{RunState}
use Rattle.stamp_machines.proofs.AccessesAreSafe.{IsSafeIn}
use Rattle.stamp_machines.proofs.StepsKeep.{current-safe}
use Rattle.stamp_machines.proofs.WorkerStamps.{same_stamps, stamps_at-index, stamps_at-kept}
use Rattle.stamp_machines.proofs.WorkerStamps.{stamps_at-more}
use Rattle.stamp_machines.specs.World.{World, current, current_of, next_call, step, world_after, stamps_of, entry_of}
use Rattle.stamp_machines.specs.inner.World.{begun_with}

world_after-begun : (world : World) (t : ℕ) (b : Begun) (words : List ℕ) (turned : Turn) →
    world_after (begun_with world t (Some b)) t b words turned ≡ world_after world t b words turned
world_after-begun world t b words (Going m) = simp set-set
world_after-begun world t b words (Done r) = simp set-set

step-begun : (script : Scripted) (world mid : World) (t : ℕ) (b : Begun) →
    current script world t ≡ Some b → mid ≡ begun_with world t (current script world t) →
    world_after mid t b (words_after (plan_of b.machine) mid.words)
    (after_access b.machine (found_by (plan_of b.machine) mid.words)) ≡ step script world t
step-begun script world mid t b e m =
    let m' : mid ≡ begun_with world t (Some b) = rw e at m in
    rw (m', e) (world_after-begun world t b (words_after (plan_of b.machine) world.words)
    (after_access b.machine (found_by (plan_of b.machine) world.words)))

-- the call that a thread begins that was in none
pub begun-next : (script : Scripted) (world : World) (stamps : ℕ → List ℕ) (t : ℕ) (b : Begun) →
    is_some (slice_index_or world.begun t None) ≡ false →
    ((u : ℕ) → stamps u ≡ stamps_of u world.entries) →
    Some b ≡ next_call script stamps world.position t → current script world t ≡ Some b
begun-next script world stamps t b none same is =
    let f : (λ (u : ℕ). stamps u) ≡ (λ (u : ℕ). stamps_of u world.entries) =
    same_stamps stamps (λ (u : ℕ). stamps_of u world.entries) same in
    let none' : slice_index_or world.begun t None ≡ None =
    none-left (slice_index_or world.begun t None) none in
    rw none' (sym (is ∙ ap (λ (g : ℕ → List ℕ). next_call script g world.position t) f))
  where
    none-left : (o : Option Begun) → is_some o ≡ false → o ≡ None
    none-left None e = refl
    none-left (Some x) e = cc

pub stamps_of-append : (t : ℕ) (entries : List Entry) (e : Entry) →
    stamps_of t (entries ++ e ∷ []) ≡ (if t == e.thread
    then stamps_of t entries ++ stamp_in e.reply ∷ [] else stamps_of t entries)
stamps_of-append t entries e = simp (filter-append, map-append) (go (t == e.thread))
  where
    go : (b : Bool) → stamps_of t entries
        ++ map (λ (x : Entry). stamp_in x.reply) (if b then e ∷ [] else [])
        ≡ (if b then stamps_of t entries ++ stamp_in e.reply ∷ [] else stamps_of t entries)
    go true = refl
    go false = append-nil _

-- a thread's call under way once its next one was begun, if it had none
begun-current : (script : Scripted) (world mid : World) (t : ℕ) → t < length world.begun →
    mid ≡ begun_with world t (current script world t) →
    slice_index_or mid.begun t None ≡ current script world t
begun-current script world mid t h m = go (current script world t) refl
  where
    none : (o : Option Begun) →
        current_of script (λ u. stamps_of u world.entries) world.position t o ≡ None → o ≡ None
    none None e = refl
    none (Some b) e = cc

    go : (o : Option Begun) → current script world t ≡ o → slice_index_or mid.begun t None ≡ o
    go None e =
        let m' : mid ≡ world = rw e at m in rw m' (none (slice_index_or world.begun t None) e)
    go (Some b) e =
        let m' : mid ≡ begun_with world t (Some b) = rw e at m in
        rw m' (get_or-set_same world.begun t (Some b) None h)

begun_at-index : (ws : List Worker) (i : ℕ) (d : Worker) → i < length ws →
    slice_index_or (map begun_in ws) i None ≡ begun_in (slice_index_or ws i d)
begun_at-index [] i d h = absurd (omega arith)
begun_at-index (x ∷ ws) zero d h = refl
begun_at-index (x ∷ ws) (suc i) d h = begun_at-index ws i d (omega arith)

-- the thread's next call was begun, if it was in none
pub record HasBegun (gone : List Entry) (script : Scripted) (old mid : RunState) (t position : ℕ) : Type 0 where
  pub world : world_at gone mid position ≡ begun_with (world_at gone old position) t
      (current script (world_at gone old position) t)
  pub stamps : (u : ℕ) → stamps_at mid.workers.items u ≡ stamps_of u (gone ++ mid.entries.items)
  pub thread : t < length (map begun_in old.workers.items)
  pub worker : t < length mid.workers.items

pub has-begun : (gone : List Entry) (script : Scripted) (old mid : RunState) (t position : ℕ) →
    t < vec_len old.workers → vec_len mid.workers ≡ vec_len old.workers → mid.entries ≡ old.entries →
    ((u : ℕ) → stamps_at old.workers.items u ≡ stamps_of u (gone ++ old.entries.items)) →
    ((u : ℕ) → stamps_at mid.workers.items u ≡ stamps_at old.workers.items u) →
    world_at gone mid position ≡ begun_with (world_at gone old position) t
    (current script (world_at gone old position) t) → HasBegun gone script old mid t position
has-begun gone script old mid t position h many entries before stamps world =
    let n = old.workers.ok.0 in
    let n' = mid.workers.ok.0 in
    record {
      world = world;
      stamps =
          λ u. stamps u ∙ before u
          ∙ ap (λ (v : Vec Entry Global). stamps_of u (gone ++ v.items)) (sym entries);
      thread = rw length-map (omega (arith, n, h));
      worker = omega (arith, n', many, h);
    }

-- its worker's call under way
worker-current : (gone : List Entry) (script : Scripted) (old mid : RunState) (t position : ℕ)
    (d : Worker) → HasBegun gone script old mid t position →
    (slice_index_or mid.workers.items t d).begun ≡ current script (world_at gone old position) t
worker-current gone script old mid t position d h =
    sym (begun_at-index mid.workers.items t d h.worker)
    ∙ begun-current script (world_at gone old position) (world_at gone mid position) t h.thread
    h.world

-- its access is safe
pub worker-safe : (gone : List Entry) (script : Scripted) (old mid : RunState) (t position : ℕ)
    (d : Worker) (b : Begun) → HasBegun gone script old mid t position →
    Invariant script (world_at gone old position) → IsSound script → position < 1000000 →
    (slice_index_or mid.workers.items t d).begun ≡ Some b →
    IsSafeIn b.machine.shape b.machine.call b.machine.stage mid.words.items
worker-safe gone script old mid t position d b h kept sound few is =
    let e : current script (world_at gone old position) t ≡ Some b =
    sym (worker-current gone script old mid t position d h) ∙ is in
    let m : world_at gone mid position ≡ begun_with (world_at gone old position) t (Some b) =
    rw e at h.world in
    let words : mid.words.items ≡ old.words.items = ap (λ (w : World). w.words) m in
    rw words (current-safe script (world_at gone old position) t b kept sound few e)

-- what a turn of the thread's call leaves: its call under way, its stamps, and the entries
abbrev pub begun_after : Begun → Turn → Option Begun
begun_after b (Going machine) = Some (record { machine = machine; first = b.first })
begun_after b (Done reply) = None

abbrev pub stamps_with : List ℕ → Turn → List ℕ
stamps_with stamps (Going machine) = stamps
stamps_with stamps (Done reply) = stamps ++ stamp_in reply ∷ []

abbrev pub entry_at : ℕ → ℕ → Begun → Reply → Entry
entry_at thread position b reply =
    record {
      thread = thread;
      call = b.machine.call;
      reply = reply;
      first = b.first;
      point = position;
      last = position;
    }

abbrev pub entries_with : ℕ → ℕ → Begun → List Entry → Turn → List Entry
entries_with thread position b entries (Going machine) = entries
entries_with thread position b entries (Done reply) =
    entries ++ entry_at thread position b reply ∷ []

abbrev pub kind_of : Turn → StepKind
kind_of (Going machine) = kind.Going
kind_of (Done reply) = kind.Ended

-- the worker's call made its access, which led to this turn; the worker is this one now
pub record AccessMade (b : Begun) (t position : ℕ) (mid new : RunState) (d w : Worker) (turned : Turn) : Type 0 where
  pub words : new.words.items ≡ words_after (plan_of b.machine) mid.words.items
  pub turn : after_access b.machine (found_by (plan_of b.machine) mid.words.items) ≡ turned
  pub workers : new.workers.items ≡ slice_set mid.workers.items t w
  pub begun : w.begun ≡ begun_after b turned
  pub stamps : w.stamps.items
      ≡ stamps_with (slice_index_or mid.workers.items t d).stamps.items turned
  pub entries : new.entries.items ≡ entries_with t position b mid.entries.items turned

world-turned : (gone : List Entry) (mid new : RunState) (t position : ℕ) (b : Begun) (words : List ℕ)
    (turned : Turn) → new.words.items ≡ words →
    map begun_in new.workers.items
    ≡ slice_set (map begun_in mid.workers.items) t (begun_after b turned) →
    new.entries.items ≡ entries_with t position b mid.entries.items turned →
    world_at gone new (position + 1) ≡ world_after (world_at gone mid position) t b words turned
world-turned gone mid new t position b words (Going m) p q r = rw (p, q, r) refl
world-turned gone mid new t position b words (Done reply) p q r =
    let more : gone ++ new.entries.items
    ≡ (gone ++ mid.entries.items) ++ entry_at t position b reply ∷ [] =
    rw r (sym (append_assoc gone mid.entries.items _)) in
    rw (p, q, more) refl

stamps-turned : (gone : List Entry) (mid new : RunState) (t position u : ℕ) (b : Begun) (w : Worker)
    (turned : Turn) → t < length mid.workers.items →
    stamps_at mid.workers.items u ≡ stamps_of u (gone ++ mid.entries.items) →
    stamps_in w ≡ stamps_with (stamps_at mid.workers.items t) turned →
    new.entries.items ≡ entries_with t position b mid.entries.items turned →
    stamps_at (slice_set mid.workers.items t w) u ≡ stamps_of u (gone ++ new.entries.items)
stamps-turned gone mid new t position u b w (Going m) h before s e =
    rw e (stamps_at-kept mid.workers.items t u w h s ∙ before)
stamps-turned gone mid new t position u b w (Done reply) h before s e =
    let more : gone ++ new.entries.items
    ≡ (gone ++ mid.entries.items) ++ entry_at t position b reply ∷ [] =
    rw e (sym (append_assoc gone mid.entries.items _)) in
    rw (more, stamps_of-append u (gone ++ mid.entries.items) (entry_at t position b reply), ← before)
    (stamps_at-more mid.workers.items t u (stamp_in reply) w h s)

turned-kind : (script : Scripted) (world : World) (t : ℕ) (b : Begun) (turned : Turn) →
    current script world t ≡ Some b →
    after_access b.machine (found_by (plan_of b.machine) world.words) ≡ turned →
    IsOfKind script world t (kind_of turned)
turned-kind script world t b (Going m) e is = (rw e refl, rw (e, is) refl)
turned-kind script world t b (Done reply) e is = (entry_of world t b reply, rw (e, is) refl)

-- a step of a thread with a call under way
pub step-made : (gone : List Entry) (script : Scripted) (old mid new : RunState) (t position : ℕ)
    (d w : Worker) (b : Begun) (turned : Turn) → HasBegun gone script old mid t position →
    (slice_index_or mid.workers.items t d).begun ≡ Some b →
    AccessMade b t position mid new d w turned → IsStep gone script old new t position (kind_of turned)
step-made gone script old mid new t position d w b turned h is made =
    let e : current script (world_at gone old position) t ≡ Some b =
    sym (worker-current gone script old mid t position d h) ∙ is in
    let m : world_at gone mid position ≡ begun_with (world_at gone old position) t (Some b) =
    rw e at h.world in
    let words : mid.words.items ≡ old.words.items = ap (λ (w : World). w.words) m in
    let begun : map begun_in new.workers.items
    ≡ slice_set (map begun_in mid.workers.items) t (begun_after b turned) =
    ap (λ (ws : List Worker). map begun_in ws) made.workers
    ∙ map-set begun_in mid.workers.items t w
    ∙ ap (λ (x : Option Begun). slice_set (map begun_in mid.workers.items) t x) made.begun in
    record {
      world =
          world-turned gone mid new t position b _ turned made.words begun made.entries
          ∙ ap (λ (x : Turn). world_after (world_at gone mid position) t b
          (words_after (plan_of b.machine) mid.words.items) x) (sym made.turn)
          ∙ step-begun script (world_at gone old position) (world_at gone mid position) t b e h.world;
      stamps =
          λ u. ap (λ (ws : List Worker). stamps_at ws u) made.workers
          ∙ stamps-turned gone mid new t position u b w turned h.worker (h.stamps u)
          (rw (stamps_at-index mid.workers.items t d h.worker) made.stamps) made.entries;
      of_kind = turned-kind script (world_at gone old position) t b turned e (rw words at made.turn);
    }

-- a step of a thread that has no call left
pub idle-made : (gone : List Entry) (script : Scripted) (old mid new : RunState) (t position : ℕ)
    (d : Worker) → HasBegun gone script old mid t position →
    (slice_index_or mid.workers.items t d).begun ≡ None → new.words.items ≡ mid.words.items →
    new.workers.items ≡ mid.workers.items → new.entries.items ≡ mid.entries.items →
    IsStep gone script old new t position kind.Idle
idle-made gone script old mid new t position d h is words workers entries =
    let e : current script (world_at gone old position) t ≡ None =
    sym (worker-current gone script old mid t position d h) ∙ is in
    let m : world_at gone mid position ≡ world_at gone old position = rw e at h.world in
    let same : world_at gone new position ≡ world_at gone mid position =
    rw (words, workers, entries) refl in
    record {
      world = rw e (ap (λ (w : World). record w { position = position + 1 }) (same ∙ m));
      stamps = λ u. rw (workers, entries) (h.stamps u);
      of_kind = e;
    }

last-one : (es : List Entry) (e : Entry) →
    slice_get (es ++ e ∷ []) (length (es ++ e ∷ []) - 1) ≡ Some e
last-one es e = let here : length (es ++ e ∷ []) - 1 ≡ length es = rw length-append (omega arith) in
    rw here (go es)
  where
    go : (xs : List Entry) → slice_get (xs ++ e ∷ []) (length xs) ≡ Some e
    go [] = refl
    go (x ∷ xs) = go xs

-- with the last entry again
pub outcome-answers : (script : Scripted) (world : World) (t : ℕ) (p : StepKind) (entries : List Entry) →
    entries ≡ (step script world t).entries → IsOfKind script world t p →
    AnswersStep script world t (outcome_of entries p)
outcome-answers script world t kind.Idle entries is r = r
outcome-answers script world t kind.Going entries is r = r
outcome-answers script world t kind.Ended entries is r =
    let here : slice_get entries (length entries - 1) ≡ Some r.0 =
    rw (is, r.1) (last-one world.entries r.0) in
    let outcome_is : outcome_of entries kind.Ended ≡ Ended r.0 = rw here refl in
    rw outcome_is r.1
