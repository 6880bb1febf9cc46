-- Each step of a schedule keeps what `Invariant` says.
use Rattle.std.proofs.Common.{◌≡◌, ℕ, ◌+◌, ◌<◌, ◌≤◌, ◌==◌, Bool, true, false, List, [], ◌∷◌, ◌++◌}
use Rattle.std.proofs.Common.{length, drop, Option, Some, None, zero, suc, if◌then◌else◌, refl, sym}
use Rattle.std.proofs.Common.{◌∙◌, ap, subst, arith, ◌⊎◌, inl, inr}
use Rattle.std.specs.Prelude.{slice_index, slice_set, slice_index_or, fold, replicate, map}
use Rattle.std.specs.List.{sum_by}
use Rattle.std.proofs.lemmas.List.{map-set, length-set, length-replicate, map-append}
use Rattle.std.proofs.lemmas.List.Sums.{sum_by-cons}
use Rattle.std.proofs.lemmas.Grind.{fold-append}
use Rattle.stamp_core.specs.LockEvent.{LockEvent}
use Rattle.stamp_core.specs.Limits.{Bounds, AreInRange, widest, units}
use Rattle.stamp_core.specs.Transition.{Transition, transition}
use Rattle.stamp_core.specs.declared.layout.Layout.{Layout}
use Rattle.stamp_core.specs.declared.call.Call.{Call}
use Rattle.stamp_core.specs.declared.reply.Reply.{Reply}
use Rattle.stamp_core.proofs.TwoLayouts.{either_layout}
use Rattle.stamp_core.proofs.WellFormedPush.{well_formed_none}
use Rattle.stamp_core.specs.declared.entry.Entry.{Entry}
use Rattle.stamp_machines.specs.declared.access.Access.{Access}
use Rattle.stamp_machines.specs.declared.access.Access.TheVariants.{Load, Cas, Store}
use Rattle.stamp_machines.specs.Access.{words_after, found_by}
use Rattle.stamp_machines.specs.LockNumber.{RepresentsAt, IsAdmittedAt, counts_at}
use Rattle.stamp_machines.specs.Job.{Job, job_of_call}
use Rattle.stamp_machines.specs.inner.Job.{content_with, reply_to}
use Rattle.stamp_core.specs.History.{IsLegal, History, IsReply, appended_by, content_after}
use Rattle.stamp_core.specs.History.{events_of}
use Rattle.stamp_machines.specs.RecordStage as on_record
use Rattle.stamp_machines.specs.RecordStage.{RecordStage, RecordStageTurn}
use Rattle.stamp_machines.specs.LockPhase as phases
use Rattle.stamp_machines.specs.LockPhase.{phase_plan, phase_after, PhaseTurn}
use Rattle.stamp_machines.specs.LocalAccess.{LocalAccess, with_lock}
use Rattle.stamp_machines.specs.inner.LocalAccess.{lock_after, local_found}
use Rattle.stamp_machines.specs.declared.machine.Turn.{Turn as MachineTurn}
use Rattle.stamp_machines.specs.declared.machine.Turn.TheVariants as machines
use Rattle.stamp_machines.specs.declared.shape.Shape.{Shape}
use Rattle.stamp_machines.specs.MachineState.{MachineState, Stage, OnLock, OnRecord, record_limits}
use Rattle.stamp_machines.specs.Machine.{plan_in, after_in, plan_of, after_access, lock_turn}
use Rattle.stamp_machines.specs.Machine.{record_turn}
use Rattle.stamp_machines.specs.Script.{Scripted, IsSound}
use Rattle.stamp_machines.specs.declared.state.Begun.{Begun}
use Rattle.stamp_machines.specs.World.{World, opening, opening_word, current, world_after, world_stepped, step}
use Rattle.stamp_machines.specs.World.{execution_of, entry_of, shape_of}
use Rattle.stamp_machines.specs.inner.RecordKept.{RecordCallAt, RecordKept, MovedRightly, Stands, read_in, written_in}
use Rattle.stamp_machines.specs.inner.RecordKept.{read_by, written_by, FitsIn, SameFor, AloneFor}
use Rattle.stamp_machines.specs.inner.Invariant.{Invariant, IsOf, record_call_in, record_call_at, job_of_stage}
use Rattle.stamp_machines.specs.inner.Invariant.{content_in, events_in}
use Rattle.stamp_machines.proofs.LockPhaseSteps.{PhaseLeaves, phase-leaves, counts-of}
use Rattle.stamp_machines.proofs.OtherRecordCalls.{moved-kept, le_sum}
use Rattle.stamp_machines.specs.Laws.{ReleasesWinAlways}
use Rattle.stamp_machines.proofs.RecordCallSteps.{own-step, releasing-wins}
use Rattle.stamp_machines.proofs.CommonWords.{lock-moves, record-moves, phase-to_lock}
use Rattle.stamp_machines.proofs.CurrentCall.{Ready, current-ready}
use Rattle.stamp_machines.proofs.AccessesAreSafe.{IsSafeIn, lock-safe, record-safe}
use Rattle.stamp_machines.proofs.TwoKindsOfCall.{OfLock, OfRecord, of_lock, of_record}
use Rattle.stamp_core.specs.Content.{content_next, zeros}
use Rattle.stamp_core.proofs.Linearizing.{content_push, events_push, legal_more}
use Rattle.stamp_core.specs.Linearized.{history_of}
use Rattle.stamp_core.proofs.WordNumbers.{in_range}

map-index : (xs : List (Option Begun)) (t : ℕ) →
    slice_index_or (map record_call_in xs) t None ≡ record_call_in (slice_index_or xs t None)
map-index [] t = refl
map-index (x ∷ xs) zero = refl
map-index (x ∷ xs) (suc t) = map-index xs t

length-map : (xs : List (Option Begun)) → length (map record_call_in xs) ≡ length xs
length-map [] = refl
length-map (x ∷ xs) = ap suc (length-map xs)

set-none : (xs : List (Option RecordCallAt)) (i : ℕ) → slice_index_or xs i None ≡ None →
    slice_set xs i None ≡ xs
set-none [] i h = refl
set-none (x ∷ xs) zero h = ap (λ (y : Option RecordCallAt). y ∷ xs) (sym h)
set-none (x ∷ xs) (suc i) h = ap (λ (ys : List (Option RecordCallAt)). x ∷ ys) (set-none xs i h)

each_after_set : (P : Option Begun → Type 0) (xs : List (Option Begun)) (i : ℕ) (v : Option Begun) →
    ((k : ℕ) → P (slice_index_or xs k None)) → P v → (k : ℕ) →
    P (slice_index_or (slice_set xs i v) k None)
each_after_set P [] i v h p k = h k
each_after_set P (x ∷ xs) zero v h p zero = p
each_after_set P (x ∷ xs) zero v h p (suc k) = h (suc k)
each_after_set P (x ∷ xs) (suc i) v h p zero = h 0
each_after_set P (x ∷ xs) (suc i) v h p (suc k) = each_after_set P xs i v (λ n. h (suc n)) p k

record_range : (l : Layout) → AreInRange (widest l)
record_range l = in_range l _ _ refl refl

record_room : (l : Layout) → 1000000 < (widest l).versions
record_room l =
    elim (either_layout l) [ inl h ↦ rw h.3 (omega arith) | inr h ↦ rw h.3 (omega arith) ]

going-kept : (script : Scripted) (world : World) (t : ℕ) (b : Begun) (words : List ℕ)
    (m : MachineState) → Invariant script world →
    IsOf (shape_of script) (Some (record { machine = m; first = b.first })) →
    length words ≡ 2 + script.width → slice_index words 0 ≡ slice_index world.words 0 →
    RecordKept (record_limits (shape_of script)) (slice_index words 1) (drop 2 words)
    (content_in script world)
    (map record_call_in (slice_set world.begun t (Some (record { machine = m; first = b.first })))) →
    (counts_at (record_limits (shape_of script)) (slice_index words 1)).write_count ≤ world.position
    + 1 → Invariant script (world_after world t b words (machines.Going m))
going-kept script world t b words m k o n s r f =
    record {
      legal = k.legal;
      represented = rw s k.represented;
      record_kept = r;
      width = k.width;
      words = n;
      threads = length-set world.begun t _ ∙ k.threads;
      begun = each_after_set (IsOf (shape_of script)) world.begun t
          (Some (record { machine = m; first = b.first })) k.begun o;
      few = f;
    }

pub history_more : (entries : List Entry) (e : Entry) →
    history_of (entries ++ e ∷ []) ≡ history_of entries ++ (e.call, e.reply) ∷ []
history_more entries e = map-append (λ (x : Entry). (x.call, x.reply)) entries (e ∷ [])

-- what a finished call makes of the history
pub record AnswersAtEnd (script : Scripted) (world : World) (call : Call) (r : Reply)
    (events : List LockEvent) (content : List ℕ) : Type 0 where
  pub answered : IsReply script.limits (events_in script world) (content_in script world) call r
  pub events_are : events_in script world
      ++ appended_by (transition script.limits (events_in script world) call) ≡ events
  pub content_is : content_next (content_in script world) call r ≡ content

done-kept : (script : Scripted) (world : World) (t : ℕ) (b : Begun) (words : List ℕ) (r : Reply)
    (events : List LockEvent) (content : List ℕ) → Invariant script world →
    AnswersAtEnd script world b.machine.call r events content →
    RepresentsAt script.limits (slice_index words 0) events →
    RecordKept (record_limits (shape_of script)) (slice_index words 1) (drop 2 words) content
    (map record_call_in (slice_set world.begun t None)) → length content ≡ script.width →
    length words ≡ 2 + script.width →
    (counts_at (record_limits (shape_of script)) (slice_index words 1)).write_count ≤ world.position
    + 1 → Invariant script (world_after world t b words (machines.Done r))
done-kept script world t b words r events content k ends s rk w n f =
    let e : Entry = entry_of world t b r in
    let events_now : events_of script.limits (history_of (world.entries ++ e ∷ [])) ≡ events =
    events_push script.limits world.entries e ∙ ends.events_are in
    let content_now : content_after script.width (history_of (world.entries ++ e ∷ [])) ≡ content =
    content_push script.width world.entries e ∙ ends.content_is in
    record {
      legal = subst (λ (h : History). IsLegal script.limits script.width h)
          (sym (history_more world.entries e))
          (legal_more script.limits [] (zeros script.width) (history_of world.entries) (e.call, e.reply)
          k.legal ends.answered);
      represented = rw events_now s;
      record_kept = rw content_now rk;
      width = rw content_now w;
      words = n;
      threads = length-set world.begun t None ∙ k.threads;
      begun = each_after_set (IsOf (shape_of script)) world.begun t None k.begun tt;
      few = f;
    }

-- a call of the lock whose transition was taken
lock-ends : (script : Scripted) (world : World) (call : Call) (r : Reply) (taken : Transition) →
    job_of_call call ≡ None → transition script.limits (events_in script world) call ≡ Some taken →
    taken.reply ≡ r →
    AnswersAtEnd script world call r (events_in script world ++ taken.appended) (content_in script world)
lock-ends script world call r taken j e q =
    let of : OfLock call = of_lock call j in
    record {
      answered = rw (of.lock, e) q;
      events_are = rw e refl;
      content_is = of.content (content_in script world) r;
    }

-- a call of the record
record-ends : (script : Scripted) (world : World) (call : Call) (job : Job) (r : Reply) →
    job_of_call call ≡ Some job → r ≡ reply_to (content_in script world) job →
    AnswersAtEnd script world call r (events_in script world) (content_with (content_in script world) job)
record-ends script world call job r j e =
    let of : OfRecord call job = of_record call job j in
    rw e (record {
      answered = of.answered script.limits (events_in script world)
          (content_in script world);
      events_are = of.events script.limits (events_in script world);
      content_is = of.content (content_in script world);
    })

-- a step of a lock call
lock-step : (script : Scripted) (world : World) (t : ℕ) (b : Begun) (now : ℕ) (words : List ℕ)
    (p : PhaseTurn) → Invariant script world → IsSound script → b.machine.shape ≡ shape_of script →
    job_of_call b.machine.call ≡ None → record_call_in (slice_index_or world.begun t None) ≡ None →
    words ≡ now ∷ slice_index world.words 1 ∷ drop 2 world.words → length words ≡ 2 + script.width →
    PhaseLeaves script.limits b.machine.call (slice_index world.words 0) now p →
    Invariant script (world_after world t b words (lock_turn b.machine.shape b.machine.call p))
lock-step script world t b now words (phases.Going seen) k sound o j z w n l =
    going-kept script world t b words (record b.machine { stage = OnLock seen }) k (o, j) n (rw w l)
    (rw (
      w,
      map-set record_call_in world.begun t
          (Some (record { machine = record b.machine { stage = OnLock seen }; first = b.first })),
      set-none (map record_call_in world.begun) t (map-index world.begun t ∙ z),
    ) k.record_kept)
    (rw w (let f = k.few in omega (arith, f)))
lock-step script world t b now words (phases.Done r) k sound o j z w n l =
    let same = counts-of script.limits (slice_index world.words 0) (events_in script world) sound.range
    k.represented in
    let e : transition script.limits (events_in script world) b.machine.call ≡ Some l.taken =
    rw same at l.transition in
    done-kept script world t b words r _ _ k
    (lock-ends script world b.machine.call r l.taken j e l.reply)
    (rw w (l.represented (events_in script world) k.represented))
    (rw (
      w,
      map-set record_call_in world.begun t None,
      set-none (map record_call_in world.begun) t (map-index world.begun t ∙ z),
    ) k.record_kept)
    k.width n
    (rw w (let f = k.few in omega (arith, f)))

-- a step of a call of the record
record-step : (script : Scripted) (world : World) (t : ℕ) (b : Begun) (job : Job) (stage : RecordStage)
    (lock : ℕ) (record_words words : List ℕ) (turned : RecordStageTurn) → Invariant script world →
    t < length world.begun → b.machine.shape ≡ shape_of script → job_of_call b.machine.call ≡ Some job →
    read_in (record_call_in (slice_index_or world.begun t None)) ≡ read_by stage →
    written_in (record_call_in (slice_index_or world.begun t None)) ≡ written_by stage →
    words ≡ slice_index world.words 0 ∷ lock ∷ record_words → length words ≡ 2 + script.width →
    (counts_at (record_limits (shape_of script)) lock).write_count ≤ world.position + 1 →
    MovedRightly (record_limits (shape_of script)) job stage (slice_index world.words 1) (drop 2 world.words)
    (content_in script world) lock record_words turned →
    Invariant script (world_after world t b words (record_turn b.machine.shape b.machine.call job turned))
record-step script world t b job stage lock record_words words (on_record.Going to) k h o j rd wr w n f
    s =
    going-kept script world t b words (record b.machine { stage = OnRecord job to }) k (o, j) n
    (rw w refl)
    (rw (
      w,
      map-set record_call_in world.begun t
          (Some (record {
            machine = record b.machine { stage = OnRecord job to };
            first = b.first;
          })),
    )
    (moved-kept _ _ _ _ (map record_call_in world.begun) t stage _ _ _ _ k.record_kept
    (rw (length-map world.begun) h) (rw (map-index world.begun t) rd)
    (rw (map-index world.begun t) wr) s.0))
    (rw w f)
record-step script world t b job stage lock record_words words (on_record.Done r) k h o j rd wr w n f s =
    done-kept script world t b words r _ _ k (record-ends script world b.machine.call job r j s.1)
    (rw w k.represented)
    (rw (w, map-set record_call_in world.begun t None)
    (moved-kept _ _ _ _ (map record_call_in world.begun) t stage _ _ _ _ k.record_kept
    (rw (length-map world.begun) h) (rw (map-index world.begun t) rd)
    (rw (map-index world.begun t) wr) s.0))
    (s.0.same_width ∙ k.width) n
    (rw w f)

length-words_after : (a : Access) (words : List ℕ) → length (words_after a words) ≡ length words
length-words_after (Load i) words = refl
length-words_after (Cas i old new) words = go (slice_index words i == old)
  where
    go : (b : Bool) → length (if b then slice_set words i new else words) ≡ length words
    go true = length-set words i new
    go false = refl
length-words_after (Store i value) words = length-set words i value

at_most_one_more : (limits : Bounds) (before : RecordStage) (lock lock' : ℕ)
    (record_words content record_words' content' : List ℕ) →
    SameFor limits lock record_words content lock' record_words' content' ⊎ AloneFor limits before lock lock' →
    (counts_at limits lock').write_count ≤ (counts_at limits lock).write_count + 1
at_most_one_more limits before lock lock' record_words content record_words' content' (inl e) = omega (arith, e.0)
at_most_one_more limits before lock lock' record_words content record_words' content' (inr e) =
    elim e.2 [ inl p ↦ omega (arith, p) | inr p ↦ omega (arith, p.1) ]

-- what is known of a thread's current call
abbrev pub ReadyAt : Scripted → World → ℕ → Begun → Type 0
ReadyAt script world t b =
    let limits : Bounds = record_limits (shape_of script) in
    let counts = counts_at limits (slice_index world.words 1) in
    Ready limits (shape_of script) counts.write_count counts.writers (content_in script world)
    (drop 2 world.words) (slice_index_or world.begun t None) b

call-ready : (script : Scripted) (world : World) (t : ℕ) (b : Begun) → Invariant script world →
    IsSound script → current script world t ≡ Some b → (t < length world.begun) × ReadyAt script world t b
call-ready script world t b k sound e =
    let limits : Bounds = record_limits (shape_of script) in
    let fits : FitsIn limits (counts_at limits (slice_index world.words 1)).write_count
    (counts_at limits (slice_index world.words 1)).writers (content_in script world)
    (drop 2 world.words) (record_call_in (slice_index_or world.begun t None)) =
    rw (map-index world.begun t) at (k.record_kept.fits t) in
    current-ready limits script world t _ _ (content_in script world) (drop 2 world.words)
    (slice_index_or world.begun t None) b sound.suited k.width k.threads refl (k.begun t) fits e

-- what a call of the record may rely on where it stands
pub record-stands : (script : Scripted) (world : World) (t : ℕ) (b : Begun) (job : Job)
    (stage : RecordStage) → Invariant script world → world.position < 1000000 →
    ReadyAt script world t b → b.machine.stage ≡ OnRecord job stage →
    Stands (record_limits (shape_of script)) job stage (slice_index world.words 1)
    (drop 2 world.words) (content_in script world)
record-stands script world t b job stage k room ready e =
    let limits : Bounds = record_limits (shape_of script) in
    let d : record_call_at b.machine.stage ≡ Some (record { job = job; stage = stage }) = ap record_call_at e in
    let rd : read_in (record_call_in (slice_index_or world.begun t None)) ≡ read_by stage =
    ready.reads ∙ ap read_in d in
    let wr : written_in (record_call_in (slice_index_or world.begun t None)) ≡ written_by stage =
    ready.writes ∙ ap written_in d in
    let f : FitsIn limits (counts_at limits (slice_index world.words 1)).write_count
    (counts_at limits (slice_index world.words 1)).writers (content_in script world)
    (drop 2 world.words) (Some (record { job = job; stage = stage })) = rw d at ready.fits in
    let rk = k.record_kept in
    record {
      range = record_range script.limits.layout;
      admitted = rk.admitted;
      room = let v = record_room script.limits.layout in let few = k.few in omega (arith, v, few);
      width = rk.width;
      some = f.0;
      free = rk.free;
      reads = (let at : read_in (slice_index_or (map record_call_in world.begun) t None)
          ≡ read_in (record_call_in (slice_index_or world.begun t None)) = ap read_in
          (map-index world.begun t) in
          omega (arith, le_sum read_in (map record_call_in world.begun) t refl, at, rk.readers, rd));
      writes = (let at : written_in (slice_index_or (map record_call_in world.begun) t None)
          ≡ written_in (record_call_in (slice_index_or world.begun t None)) = ap written_in
          (map-index world.begun t) in
          omega (arith, le_sum written_in (map record_call_in world.begun) t refl, at, rk.writers, wr));
      words = f.1;
      fits = f.2;
    }

-- one access of a call
begun-kept : (script : Scripted) (world : World) (t : ℕ) (b : Begun) (stage : Stage) →
    Invariant script world → IsSound script → world.position < 1000000 → t < length world.begun →
    ReadyAt script world t b → b.machine.stage ≡ stage →
    Invariant script (world_after world t b
    (words_after (plan_in (shape_of script) b.machine.call stage) world.words)
    (after_in (shape_of script) b.machine.call
    (found_by (plan_in (shape_of script) b.machine.call stage) world.words) stage))
begun-kept script world t b (OnLock seen) k sound room h ready e =
    let a : LocalAccess = phase_plan script.limits b.machine.call seen in
    let m = lock-moves world.words script.width a k.words
    (phase-to_lock script.limits b.machine.call seen) in
    let w : IsAdmittedAt script.limits (slice_index world.words 0) =
    record { events = (events_in script world); represented = k.represented } in
    let l = phase-leaves script.limits b.machine.call (slice_index world.words 0) [] seen sound.range
    w in
    let j : job_of_call b.machine.call ≡ None = ready.of.1 ∙ ap job_of_stage e in
    let slot : record_call_in (slice_index_or world.begun t None) ≡ None = ready.lock (ap record_call_at e) in
    let n : length (words_after (with_lock 0 a) world.words) ≡ 2 + script.width =
    length-words_after (with_lock 0 a) world.words ∙ k.words in
    rw m.found (subst
    (λ (s : Shape). Invariant script
    (world_after world t b (words_after (with_lock 0 a) world.words)
    (lock_turn s b.machine.call
    (phase_after script.limits b.machine.call seen
    (local_found a (slice_index world.words 0) []))))) ready.of.0
    (lock-step script world t b _ _ _ k sound ready.of.0 j slot m.after n l))
begun-kept script world t b (OnRecord job stage) k sound room h ready e =
    let limits : Bounds = record_limits (shape_of script) in
    let a : LocalAccess = on_record.plan limits script.width job stage in
    let m = record-moves world.words script.width a k.words in
    let d : record_call_at b.machine.stage ≡ Some (record { job = job; stage = stage }) = ap record_call_at e in
    let j : job_of_call b.machine.call ≡ Some job = ready.of.1 ∙ ap job_of_stage e in
    let rd : read_in (record_call_in (slice_index_or world.begun t None)) ≡ read_by stage =
    ready.reads ∙ ap read_in d in
    let wr : written_in (record_call_in (slice_index_or world.begun t None)) ≡ written_by stage =
    ready.writes ∙ ap written_in d in
    let st = record-stands script world t b job stage k room ready e in
    let s = own-step limits script.width job stage (slice_index world.words 1) (drop 2 world.words)
    (content_in script world) st (sym k.width) in
    let n : length (words_after (with_lock 1 a) world.words) ≡ 2 + script.width =
    length-words_after (with_lock 1 a) world.words ∙ k.words in
    let few : (counts_at limits (lock_after a (slice_index world.words 1))).write_count
    ≤ world.position + 1 =
    (let one = at_most_one_more limits stage (slice_index world.words 1) _ (drop 2 world.words)
    (content_in script world) _ _ s.0.effect in let f = k.few in omega (arith, one, f)) in
    rw m.found (subst
    (λ (x : Shape). Invariant script
    (world_after world t b (words_after (with_lock 1 a) world.words)
    (record_turn x b.machine.call job
    (on_record.after limits script.width job stage
    (local_found a (slice_index world.words 1) (drop 2 world.words)))))) ready.of.0
    (record-step script world t b job stage _ _ _ _ k h ready.of.0 j rd wr m.after n few s))

-- a machine of another shape is none of the script's
of-shape : (script : Scripted) (world : World) (t : ℕ) (b : Begun) → b.machine.shape ≡ shape_of script →
    Invariant script (world_after world t b
    (words_after (plan_in (shape_of script) b.machine.call b.machine.stage) world.words)
    (after_in (shape_of script) b.machine.call
    (found_by (plan_in (shape_of script) b.machine.call b.machine.stage) world.words)
    b.machine.stage)) →
    Invariant script (world_after world t b (words_after (plan_of b.machine) world.words)
    (after_access b.machine (found_by (plan_of b.machine) world.words)))
of-shape script world t b e h =
    subst (λ (s : Shape). Invariant script
    (world_after world t b (words_after (plan_in s b.machine.call b.machine.stage) world.words)
    (after_in s b.machine.call
    (found_by (plan_in s b.machine.call b.machine.stage) world.words) b.machine.stage)))
    (sym e) h

world_stepped-kept : (script : Scripted) (world : World) (t : ℕ) (c : Option Begun) → Invariant script world →
    IsSound script → world.position < 1000000 → current script world t ≡ c →
    Invariant script (world_stepped world t c)
world_stepped-kept script world t None k sound room e =
    record {
      legal = k.legal;
      represented = k.represented;
      record_kept = k.record_kept;
      width = k.width;
      words = k.words;
      threads = k.threads;
      begun = k.begun;
      few = (let f = k.few in omega (arith, f));
    }
world_stepped-kept script world t (Some b) k sound room e =
    let r = call-ready script world t b k sound e in
    of-shape script world t b r.1.of.0
    (begun-kept script world t b b.machine.stage k sound room r.0 r.1 refl)

pub step-kept : (script : Scripted) (world : World) (t : ℕ) → Invariant script world → IsSound script →
    world.position < 1000000 → Invariant script (step script world t)
step-kept script world t k sound room =
    world_stepped-kept script world t (current script world t) k sound room refl

none-begun : (shape : Shape) (n k : ℕ) →
    IsOf shape (slice_index_or (replicate {A = Option Begun} n None) k None)
none-begun shape zero k = tt
none-begun shape (suc n) zero = tt
none-begun shape (suc n) (suc k) = none-begun shape n k

none-under_way : (n : ℕ) → map record_call_in (replicate {A = Option Begun} n None) ≡ replicate n None
none-under_way zero = refl
none-under_way (suc n) = ap (λ (xs : List (Option RecordCallAt)). None ∷ xs) (none-under_way n)

none-summed : (f : Option RecordCallAt → ℕ) (n : ℕ) → f None ≡ 0 → sum_by f (replicate n None) ≡ 0
none-summed f zero z = refl
none-summed f (suc n) z = omega (arith, sum_by-cons f None (replicate n None), none-summed f n z)

none-fits : (limits : Bounds) (k w : ℕ) (content record_words : List ℕ) (n t : ℕ) →
    FitsIn limits k w content record_words (slice_index_or (replicate n None) t None)
none-fits limits k w content record_words zero t = tt
none-fits limits k w content record_words (suc n) zero = tt
none-fits limits k w content record_words (suc n) (suc t) = none-fits limits k w content record_words n t

opening-shown : (limits : Bounds) → RepresentsAt limits (opening_word limits) []
opening-shown limits = record { well_formed = well_formed_none; layout = refl; spelled = refl }

pub opening-kept : (script : Scripted) → IsSound script → Invariant script (opening script)
opening-kept script sound =
    let limits : Bounds = record_limits (shape_of script) in
    let range : AreInRange limits = record_range script.limits.layout in
    let represented : RepresentsAt limits (opening_word script.limits) [] = opening-shown limits in
    let zeros = counts-of limits (opening_word script.limits) [] range represented in
    let n : ℕ = length script.threads in
    record {
      legal = tt;
      represented = opening-shown script.limits;
      record_kept = record {
        admitted = record { events = []; represented = represented };
        writers = rw (none-under_way n, zeros) (none-summed written_in n refl);
        readers = rw (none-under_way n, zeros) (none-summed read_in n refl);
        width = refl;
        free = λ _. refl;
        fits = λ t. rw (none-under_way n) (none-fits limits _ _ _ _ n t);
      };
      width = length-replicate {A = ℕ} script.width 0;
      words = (let e = length-replicate {A = ℕ} script.width 0 in omega (arith, e));
      threads = length-replicate {A = Option Begun} n None;
      begun = none-begun (shape_of script) n;
      few = rw zeros (omega arith);
    }

pub position-step : (script : Scripted) (world : World) (t : ℕ) →
    (step script world t).position ≡ world.position + 1
position-step script world t = go (current script world t)
  where
    done : (b : Begun) (words : List ℕ) (turned : MachineTurn) →
        (world_after world t b words turned).position ≡ world.position + 1
    done b words (machines.Going m) = refl
    done b words (machines.Done r) = refl

    go : (c : Option Begun) → (world_stepped world t c).position ≡ world.position + 1
    go None = refl
    go (Some b) = done b _ _

steps-kept : (script : Scripted) (world : World) (steps : List ℕ) → Invariant script world → IsSound script →
    world.position + length steps ≤ 1000000 → Invariant script (fold (step script) world steps)
steps-kept script world [] k sound room = k
steps-kept script world (t ∷ steps) k sound room =
    steps-kept script (step script world t) steps (step-kept script world t k sound (omega (arith, room)))
    sound (rw (position-step script world t) (omega (arith, room)))

-- the headline, of the definitions
pub always-kept : (script : Scripted) (steps : List ℕ) → IsSound script → length steps ≤ 1000000 →
    Invariant script (execution_of script steps)
unfolding execution_of
always-kept script steps sound few =
    steps-kept script (opening script) steps (opening-kept script sound) sound (omega (arith, few))

stage-safe : (script : Scripted) (world : World) (call : Call) (stage : Stage) → Invariant script world →
    world.position < 1000000 →
    FitsIn (record_limits (shape_of script))
    (counts_at (record_limits (shape_of script)) (slice_index world.words 1)).write_count
    (counts_at (record_limits (shape_of script)) (slice_index world.words 1)).writers
    (content_in script world) (drop 2 world.words) (record_call_at stage) →
    IsSafeIn (shape_of script) call stage world.words
stage-safe script world call (OnLock seen) k room f =
    lock-safe (shape_of script) call seen world.words k.words
    (record { events = (events_in script world); represented = k.represented })
stage-safe script world call (OnRecord job stage) k room f =
    record-safe (shape_of script) call (record_limits (shape_of script)) _ _ (content_in script world)
    (drop 2 world.words) job stage world.words k.words k.width k.record_kept.admitted
    (let v = record_room script.limits.layout in let few = k.few in omega (arith, v, few, room)) f.2

-- what a thread's step needs
pub current-safe : (script : Scripted) (world : World) (t : ℕ) (b : Begun) → Invariant script world →
    IsSound script → world.position < 1000000 → current script world t ≡ Some b →
    IsSafeIn b.machine.shape b.machine.call b.machine.stage world.words
current-safe script world t b k sound room e =
    let r = call-ready script world t b k sound e in
    subst (λ (s : Shape). IsSafeIn s b.machine.call b.machine.stage world.words) (sym r.1.of.0)
    (stage-safe script world b.machine.call b.machine.stage k room r.1.fits)

-- the exchange that releases finds what it expects
releases : (script : Scripted) (world : World) (t : ℕ) (b : Begun) (job : Job) (s : ℕ) (r : Reply) →
    Invariant script world → IsSound script → world.position < 1000000 → current script world t ≡ Some b →
    b.machine.stage ≡ OnRecord job (on_record.Releasing s r) →
    (plan_of b.machine ≡ Cas 1 s (s + (units script.limits).writer))
    × (slice_index world.words 1 ≡ s)
releases script world t b job s r k sound room e at =
    let ready = (call-ready script world t b k sound e).1 in
    let stands = record-stands script world t b job (on_record.Releasing s r) k room ready at in
    (rw (at, ready.of.0) refl, releasing-wins _ job s r _ _ _ stands)

position-after : (script : Scripted) (world : World) (steps : List ℕ) →
    (fold (step script) world steps).position ≡ world.position + length steps
position-after script world [] = omega arith
position-after script world (t ∷ steps) = let rest = position-after script (step script world t) steps in
    let one = position-step script world t in omega (arith, rest, one)

pub releases_win : ReleasesWinAlways
unfolding execution_of
releases_win script steps t b job s r sound few e at =
    let here = position-after script (opening script) steps in
    releases script (execution_of script steps) t b job s r
    (always-kept script steps sound (omega (arith, few))) sound (omega (arith, here, few)) e at

pub execution-position : (script : Scripted) (steps : List ℕ) →
    (execution_of script steps).position ≡ length steps
unfolding execution_of
execution-position script steps = let h = position-after script (opening script) steps in omega (arith, h)

pub execution_of-more : (script : Scripted) (steps : List ℕ) (t : ℕ) →
    execution_of script (steps ++ t ∷ []) ≡ step script (execution_of script steps) t
unfolding execution_of
execution_of-more script steps t = fold-append (step script) (opening script) steps (t ∷ [])

-- a call under way is of the script's shape, and its stage is one of its call
pub current-of : (script : Scripted) (world : World) (t : ℕ) (b : Begun) → Invariant script world →
    IsSound script → current script world t ≡ Some b → IsOf (shape_of script) (Some b)
current-of script world t b k sound e =
    (call-ready script world t b k sound e).1.of
