-- How many steps a call makes that never waits.
use Rattle.std.proofs.Common.{◌≡◌, ◌≢◌, ℕ, ◌+◌, ◌<◌, ◌≤◌, ◌==◌, Bool, true, false, List, [], ◌∷◌}
use Rattle.std.proofs.Common.{◌++◌, length, take, drop, Option, Some, None, refl, sym, ◌∙◌, ap}
use Rattle.std.proofs.Common.{subst, arith, ⊎_elim, if◌then◌else◌, append_assoc}
use Rattle.std.specs.Prelude.{not, All, count_by, fold, slice_index, slice_index_or, slice_set}
use Rattle.std.specs.Prelude.{slice_get}
use Rattle.std.proofs.lemmas.Grind.{fold-append}
use Rattle.std.proofs.lemmas.List.{length-append, take-append-drop, take-append-le, drop-append-le}
use Rattle.std.proofs.lemmas.List.{drop_all, append-nil}
use Rattle.std.proofs.lemmas.List.Sums.{sum_by-append}
use Rattle.std.proofs.lemmas.List.Elements.{All-push, All-nil}
use Rattle.std.proofs.Math.Seq.{take-length}
use Rattle.stamp_core.specs.Limits.{Bounds, AreInRange}
use Rattle.stamp_core.specs.Word.{word_at}
use Rattle.stamp_core.specs.Decision.{Decides}
use Rattle.stamp_core.specs.CountedDecision.{decision}
use Rattle.stamp_core.specs.declared.call.Call.{Call}
use Rattle.stamp_core.specs.declared.reply.Reply.{Reply}
use Rattle.stamp_core.specs.declared.entry.Entry.{Entry}
use Rattle.stamp_core.specs.declared.decision.Decision.{Decision}
use Rattle.stamp_core.specs.declared.decision.Decision.TheVariants.{Answer, Change, Wait}
use Rattle.stamp_core.proofs.Deciding.{only_locking_waits}
use Rattle.stamp_machines.specs.LockNumber.{IsAdmittedAt}
use Rattle.stamp_machines.specs.LockPhase as phases
use Rattle.stamp_machines.specs.LockPhase.{PhaseTurn, turn_on, tried, phase_after}
use Rattle.stamp_machines.specs.LockPhase.{phase_plan}
use Rattle.stamp_machines.specs.MachineState.{Stage, OnLock, OnRecord, start, first_stage}
use Rattle.stamp_machines.specs.Script.{Scripted, IsSound, calls_of}
use Rattle.stamp_machines.specs.World.{World, current, current_of, begun_call, shape_of, stamps_of}
use Rattle.stamp_machines.specs.World.{resolved, world_after, world_stepped, step, entry_of, execution_of}
use Rattle.stamp_machines.specs.World.{finished_calls}
use Rattle.stamp_machines.specs.Interference.{lock_word, interferes, changes_by_others, own_since}
use Rattle.stamp_machines.specs.Interference.{changes_since, own_steps, interference, NeverWaits}
use Rattle.stamp_machines.specs.Interference.{StepsBoundedAlways, UnderWayBoundedAlways}
use Rattle.stamp_machines.specs.declared.script.ScriptCall.{ScriptCall}
use Rattle.stamp_machines.specs.declared.shape.Shape.{Shape}
use Rattle.stamp_machines.specs.declared.state.Begun.{Begun}
use Rattle.stamp_machines.specs.declared.machine.Turn.{Turn}
use Rattle.stamp_machines.specs.declared.machine.Turn.TheVariants.{Going, Done}
use Rattle.stamp_machines.specs.Access.{words_after, found_by}
use Rattle.stamp_machines.specs.Job.{job_of_call}
use Rattle.stamp_machines.specs.LocalAccess.{LocalAccess, LoadLock, CasLock, LoadWord, StoreWord, with_lock}
use Rattle.stamp_machines.specs.inner.LocalAccess.{lock_after, local_found}
use Rattle.stamp_machines.specs.Machine.{plan_of, after_access, lock_turn}
use Rattle.stamp_machines.specs.inner.Invariant.{Invariant, IsOf, events_in, job_of_stage}
use Rattle.stamp_machines.proofs.LockCallSteps.{decided}
use Rattle.stamp_machines.proofs.TwoKindsOfCall.{lock_none}
use Rattle.stamp_machines.proofs.LockPhaseSteps.{PhaseLeaves, phase-leaves}
use Rattle.stamp_machines.proofs.CommonWords.{IsToLock, lock-moves, phase-to_lock}
use Rattle.stamp_machines.proofs.EntryOrder.{each_slot, slot_none}
use Rattle.stamp_machines.proofs.EntryCount.{IsStillOf, after_same}
use Rattle.stamp_machines.proofs.StepsKeep.{execution-position, execution_of-more, always-kept}
use Rattle.stamp_machines.proofs.StepsKeep.{current-of}

-- the word that was seen is one that the call changes
abbrev pub IsChange : Decision → Type 0
IsChange (Answer r) = ⊥
IsChange (Change new r) = Unit {0}
IsChange Wait = ⊥

-- own steps and others' changes since the call began: one step more than changes, and no more than
-- those where the word is not the one seen last
abbrev pub BoundedStage : Bounds → Call → ℕ → ℕ → ℕ → Stage → Type 0
BoundedStage limits call word own changes (OnLock None) = own ≡ 0
BoundedStage limits call word own changes (OnLock (Some w)) =
    (own ≤ changes + 1) × (word ≢ w → own ≤ changes) × IsChange (decision limits w call)
BoundedStage limits call word own changes (OnRecord job stage) = Unit {0}

-- the same once the access is made
abbrev pub BoundedTurn : Bounds → Call → ℕ → ℕ → ℕ → PhaseTurn → Type 0
BoundedTurn limits call word own changes (phases.Going seen) =
    BoundedStage limits call word own changes (OnLock seen)
BoundedTurn limits call word own changes (phases.Done r) = own ≤ changes + 2

never_waits : (limits : Bounds) (call : Call) (word : ℕ) → AreInRange limits →
    IsAdmittedAt limits word → NeverWaits call → decision limits word call ≡ Wait → ⊥
never_waits limits call word range a never waits =
    let none : Decides limits (word_at limits word) call Wait =
    decided limits call word Wait range waits in
    ⊎_elim never.no_write_lock never.no_read_lock
    (only_locking_waits limits a.events call never.lock (none a.events a.represented))

turn_on-bound : (limits : Bounds) (call : Call) (word own changes : ℕ) (d : Decision) →
    decision limits word call ≡ d → (d ≡ Wait → ⊥) → own ≤ changes + 1 →
    BoundedTurn limits call word own changes (turn_on word d)
turn_on-bound limits call word own changes (Answer r) e n h = omega (arith, h)
turn_on-bound limits call word own changes (Change new r) e n h = (h, λ q. absurd (q refl), rw e tt)
turn_on-bound limits call word own changes Wait e n h = absurd (n refl)

-- a step of one's own
pub own-bound : (limits : Bounds) (call : Call) (word own changes : ℕ) (seen : Option ℕ) →
    (decision limits word call ≡ Wait → ⊥) →
    BoundedStage limits call word own changes (OnLock seen) →
    BoundedTurn limits call word (own + 1) changes (phase_after limits call seen word)
own-bound limits call word own changes None n b =
    turn_on-bound limits call word (own + 1) changes (decision limits word call) refl n
    (omega (arith, b))
own-bound limits call word own changes (Some old) n b =
    on (decision limits old call) b.2 (word == old) refl
  where
    lost : (word == old) ≡ false → own ≤ changes
    lost q = b.1 (λ e. absurd (grind (arith, q, e)))

    on : (d : Decision) → IsChange d → (x : Bool) → (word == old) ≡ x →
        BoundedTurn limits call word (own + 1) changes (tried limits call old word d)
    on (Answer r) change x q = absurd change
    on (Change new r) change true q = rw q (let h = b.0 in omega (arith, h))
    on (Change new r) change false q =
        rw q (turn_on-bound limits call word (own + 1) changes (decision limits word call) refl n
        (let h = lost q in omega (arith, h)))
    on Wait change x q = absurd change

-- a step of another
pub other-bound : (limits : Bounds) (call : Call) (word now own changes : ℕ) (stage : Stage) →
    BoundedStage limits call word own changes stage →
    BoundedStage limits call now own (changes + (if not (now == word) then 1 else 0)) stage
other-bound limits call word now own changes (OnLock None) b = b
other-bound limits call word now own changes (OnRecord job stage) b = tt
other-bound limits call word now own changes (OnLock (Some w)) b = on (now == word) refl
  where
    on : (x : Bool) → (now == word) ≡ x →
        BoundedStage limits call now own (changes + (if not x then 1 else 0)) (OnLock (Some w))
    on true q =
        let same : now ≡ word = grind (arith, q) in
        let h = b.0 in
        (omega (arith, h), λ apart. let k = b.1 (λ e. apart (same ∙ e)) in omega (arith, k), b.2)
    on false q = let h = b.0 in (omega (arith, h), λ apart. omega (arith, h), b.2)

-- the steps since a position, with one more
pub own_since-more : (steps : List ℕ) (n t first : ℕ) → first ≤ length steps →
    own_since (steps ++ n ∷ []) t first ≡ own_since steps t first + (if n == t then 1 else 0)
own_since-more steps n t first within =
    rw (drop-append-le first steps (n ∷ []) within) (by (n == t) refl)
  where
    split : count_by (λ thread. thread == t) (drop first steps ++ n ∷ [])
        ≡ count_by (λ thread. thread == t) (drop first steps) + count_by (λ thread. thread == t) (n ∷ [])
    split = sum_by-append _ (drop first steps) (n ∷ [])

    by : (b : Bool) → (n == t) ≡ b →
        count_by (λ thread. thread == t) (drop first steps ++ n ∷ []) ≡ own_since steps t first
        + (if b then 1 else 0)
    by true e = grind (arith, split, e)
    by false e = grind (arith, split, e)

changes-append : (script : Scripted) (t : ℕ) (world : World) (steps : List ℕ) (n : ℕ) →
    changes_by_others script t world (steps ++ n ∷ []) ≡ changes_by_others script t world steps
    + (if interferes script t (fold (step script) world steps) n then 1 else 0)
changes-append script t world [] n = omega arith
changes-append script t world (x ∷ steps) n = let rest =
    changes-append script t (step script world x) steps n in omega (arith, rest)

pub execution-rest : (script : Scripted) (steps : List ℕ) (first : ℕ) →
    fold (step script) (execution_of script (take first steps)) (drop first steps)
    ≡ execution_of script steps
unfolding execution_of
execution-rest script steps first =
    sym (fold-append (step script) _ (take first steps) (drop first steps))
    ∙ ap (λ (xs : List ℕ). fold (step script) _ xs) (take-append-drop first steps)

pub changes_since-more : (script : Scripted) (steps : List ℕ) (n t first : ℕ) → first ≤ length steps →
    changes_since script (steps ++ n ∷ []) t first ≡ changes_since script steps t first
    + (if interferes script t (execution_of script steps) n then 1 else 0)
changes_since-more script steps n t first within =
    rw (
      drop-append-le first steps (n ∷ []) within,
      take-append-le first steps (n ∷ []) within,
      ← execution-rest script steps first,
    )
    (changes-append script t (execution_of script (take first steps)) (drop first steps) n)

-- a call that has begun, and an entry
abbrev pub BoundedSlot : Scripted → List ℕ → ℕ → Option Begun → Type 0
BoundedSlot script steps t None = Unit {0}
BoundedSlot script steps t (Some b) =
    (b.first ≤ length steps)
    × (NeverWaits b.machine.call →
    BoundedStage script.limits b.machine.call (lock_word (execution_of script steps))
    (own_since steps t b.first) (changes_since script steps t b.first) b.machine.stage)

abbrev pub BoundedEntry : Scripted → List ℕ → Entry → Type 0
BoundedEntry script steps e =
    (e.first ≤ e.last) × (e.last < length steps)
    × (NeverWaits e.call → own_steps steps e ≤ interference script steps e + 2)

pub record AreBounded (script : Scripted) (steps : List ℕ) : Type 0 where
  pub slots : (t : ℕ) →
      BoundedSlot script steps t (slice_index_or (execution_of script steps).begun t None)
  pub entries : All (BoundedEntry script steps) (finished_calls script steps)

pub one_more : (steps : List ℕ) (n : ℕ) → length (steps ++ n ∷ []) ≡ length steps + 1
one_more steps n = length-append steps (n ∷ [])

pub flip : (n k : ℕ) → (k == n) ≡ false → (n == k) ≡ false
flip n k apart = grind (arith, apart)

-- another thread's step
other-slot : (script : Scripted) (steps : List ℕ) (n t : ℕ) (slot : Option Begun) → (n == t) ≡ false →
    BoundedSlot script steps t slot → BoundedSlot script (steps ++ n ∷ []) t slot
other-slot script steps n t None e bounded = tt
other-slot script steps n t (Some b) e bounded =
    let longer = one_more steps n in
    let within = bounded.0 in
    let own : own_since (steps ++ n ∷ []) t b.first ≡ own_since steps t b.first =
    own_since-more steps n t b.first within ∙ rw e (omega arith) in
    let changes : changes_since script (steps ++ n ∷ []) t b.first
    ≡ changes_since script steps t b.first
    + (if not (lock_word (step script (execution_of script steps) n) == lock_word
    (execution_of script steps)) then 1 else 0) =
    changes_since-more script steps n t b.first within ∙ rw e refl in (
      omega (arith, longer, within),
      λ never. rw (own, changes, execution_of-more script steps n)
          (other-bound script.limits b.machine.call _ _ _ _ b.machine.stage (bounded.1 never)),
    )

older : (script : Scripted) (steps : List ℕ) (n : ℕ) (e : Entry) → BoundedEntry script steps e →
    BoundedEntry script (steps ++ n ∷ []) e
older script steps n e bounded =
    let longer = one_more steps n in
    let whole = bounded.0 in
    let ended = bounded.1 in
    let last : take (e.last + 1) (steps ++ n ∷ []) ≡ take (e.last + 1) steps =
    take-append-le (e.last + 1) steps (n ∷ []) (omega (arith, ended)) in
    let first : take e.first (steps ++ n ∷ []) ≡ take e.first steps =
    take-append-le e.first steps (n ∷ []) (omega (arith, whole, ended)) in
    (whole, omega (arith, longer, ended), λ never. rw (last, first) (bounded.2 never))

all-older : (script : Scripted) (steps : List ℕ) (n : ℕ) (entries : List Entry) →
    All (BoundedEntry script steps) entries → All (BoundedEntry script (steps ++ n ∷ [])) entries
all-older script steps n entries all =
    λ k d lt. older script steps n (slice_index_or entries k d) (all k d lt)

-- a thread's current call
current-bounded : (script : Scripted) (steps : List ℕ) (n : ℕ) (b : Begun) → AreBounded script steps →
    current script (execution_of script steps) n ≡ Some b → BoundedSlot script steps n (Some b)
current-bounded script steps n b all = by (slice_index_or (execution_of script steps).begun n None) refl
  where
    here : (execution_of script steps).position ≡ length steps
    here = execution-position script steps

    fresh : (call : Call) → NeverWaits call →
        BoundedStage script.limits call (lock_word (execution_of script steps))
        (own_since steps n (length steps)) (changes_since script steps n (length steps))
        (first_stage (job_of_call call))
    fresh call never =
        let lock : job_of_call call ≡ None = lock_none call never.lock in
        let none : drop (length steps) steps ≡ [] = drop_all (length steps) steps (omega arith) in
        rw (lock, none) refl

    begins : (c : Option ScriptCall) →
        begun_call (shape_of script) (λ k. stamps_of k (execution_of script steps).entries)
        (execution_of script steps).position c ≡ Some b → BoundedSlot script steps n (Some b)
    begins None e = cc
    begins (Some c) e =
        let same : record {
          machine = start (shape_of script)
              (resolved (λ k. stamps_of k (execution_of script steps).entries) c);
          first = (execution_of script steps).position;
        } ≡ b = cc in
        subst (λ (x : Begun). BoundedSlot script steps n (Some x)) same
        (rw here (omega arith, λ never. fresh _ never))

    by : (slot : Option Begun) → slice_index_or (execution_of script steps).begun n None ≡ slot →
        current_of script (λ k. stamps_of k (execution_of script steps).entries)
        (execution_of script steps).position n slot ≡ Some b → BoundedSlot script steps n (Some b)
    by None at e =
        begins (slice_get (calls_of script n)
        (length (stamps_of n (execution_of script steps).entries))) e
    by (Some c) at e = let same : c ≡ b =
        cc in subst (λ (x : Begun). BoundedSlot script steps n (Some x)) same
        (subst (BoundedSlot script steps n) at (all.slots n))

-- what its step leads to
abbrev pub BoundedMachine : Bounds → Call → ℕ → ℕ → ℕ → Turn → Type 0
BoundedMachine limits call word own changes (Going m) =
    BoundedStage limits call word own changes m.stage
BoundedMachine limits call word own changes (Done r) = own ≤ changes + 2

lock-bounded : (limits : Bounds) (shape : Shape) (call : Call) (word now own changes : ℕ)
    (x : PhaseTurn) → PhaseLeaves limits call word now x →
    BoundedTurn limits call word own changes x →
    BoundedMachine limits call now own changes (lock_turn shape call x)
lock-bounded limits shape call word now own changes (phases.Going seen) same bounded =
    subst (λ (w : ℕ). BoundedStage limits call w own changes (OnLock seen)) (sym same) bounded
lock-bounded limits shape call word now own changes (phases.Done r) same bounded = bounded

found-is : (a : LocalAccess) (word : ℕ) → IsToLock a → local_found a word [] ≡ word
found-is LoadLock word h = refl
found-is (CasLock old new) word h = refl
found-is (LoadWord i) word h = absurd h
found-is (StoreWord i v) word h = absurd h

turn-bounded : (script : Scripted) (world : World) (b : Begun) (stage : Stage) (own changes : ℕ) →
    Invariant script world → IsSound script → b.machine.shape ≡ shape_of script →
    job_of_call b.machine.call ≡ job_of_stage b.machine.stage → NeverWaits b.machine.call →
    b.machine.stage ≡ stage →
    BoundedStage script.limits b.machine.call (lock_word world) own changes stage →
    BoundedMachine script.limits b.machine.call
    (slice_index (words_after (plan_of b.machine) world.words) 0) (own + 1) changes
    (after_access b.machine (found_by (plan_of b.machine) world.words))
turn-bounded script world b (OnRecord job stage) own changes k sound shape kind never at bounded =
    let none : job_of_call b.machine.call ≡ None = lock_none b.machine.call never.lock in
    let some : job_of_call b.machine.call ≡ Some job = kind ∙ ap job_of_stage at in
    let apart : None ≡ Some job = sym none ∙ some in
    cc
turn-bounded script world b (OnLock seen) own changes k sound shape kind never at bounded =
    let call : Call = b.machine.call in
    let a : LocalAccess = phase_plan script.limits call seen in
    let word : ℕ = lock_word world in
    let to_lock : IsToLock a = phase-to_lock script.limits call seen in
    let m = lock-moves world.words script.width a k.words to_lock in
    let admitted : IsAdmittedAt script.limits word =
    record { events = events_in script world; represented = k.represented } in
    let found : local_found a word [] ≡ word = found-is a word to_lock in
    let l : PhaseLeaves script.limits call word (lock_after a word)
    (phase_after script.limits call seen word) =
    rw found at (phase-leaves script.limits call word [] seen sound.range admitted) in
    let t : BoundedTurn script.limits call word (own + 1) changes
    (phase_after script.limits call seen word) =
    own-bound script.limits call word own changes seen
    (never_waits script.limits call word sound.range admitted never) bounded in
    let done : BoundedMachine script.limits call (lock_after a word) (own + 1) changes
    (lock_turn (shape_of script) call (phase_after script.limits call seen word)) =
    lock-bounded script.limits (shape_of script) call word (lock_after a word) (own + 1) changes _ l
    t in
    let moved : slice_index (words_after (with_lock 0 a) world.words) 0 ≡ lock_after a word =
    ap (λ (ws : List ℕ). slice_index ws 0) m.after in
    rw (at, shape, moved, m.found, found) done

-- where the step of a thread leaves its call
itself : (n : ℕ) → (n == n) ≡ true
itself n = grind arith

pub own-more : (steps : List ℕ) (n first : ℕ) → first ≤ length steps →
    own_since (steps ++ n ∷ []) n first ≡ own_since steps n first + 1
own-more steps n first within = own_since-more steps n n first within ∙ rw (itself n) refl

pub changes-same : (script : Scripted) (steps : List ℕ) (n first : ℕ) → first ≤ length steps →
    changes_since script (steps ++ n ∷ []) n first ≡ changes_since script steps n first
changes-same script steps n first within =
    changes_since-more script steps n n first within ∙ rw (itself n) (omega arith)

-- the entry's steps are those since its first one
entry-bounded : (script : Scripted) (steps : List ℕ) (n : ℕ) (b : Begun) (r : Reply) →
    b.first ≤ length steps →
    (NeverWaits b.machine.call → own_since steps n b.first + 1 ≤ changes_since script steps n b.first
    + 2) → BoundedEntry script (steps ++ n ∷ []) (entry_of (execution_of script steps) n b r)
entry-bounded script steps n b r within few =
    let here : (execution_of script steps).position ≡ length steps = execution-position script steps in
    let longer = one_more steps n in
    let whole : take ((execution_of script steps).position + 1) (steps ++ n ∷ []) ≡ steps ++ n ∷ [] =
    ap (λ (k : ℕ). take k (steps ++ n ∷ [])) (ap (λ (k : ℕ). k + 1) here ∙ sym longer)
    ∙ take-length (steps ++ n ∷ []) in
    let own = own-more steps n b.first within in
    let changes = changes-same script steps n b.first within in (
      omega (arith, within, here),
      omega (arith, longer, here),
      λ never. let h = few never in
          rw whole (omega (arith, own, changes, h)),
    )

lands-bounded : (script : Scripted) (steps : List ℕ) (n : ℕ) (b : Begun) (words : List ℕ)
    (turned : Turn) → AreBounded script steps → BoundedSlot script steps n (Some b) →
    execution_of script (steps ++ n ∷ []) ≡ world_after (execution_of script steps) n b words turned →
    IsStillOf b.machine.call turned →
    (NeverWaits b.machine.call →
    BoundedMachine script.limits b.machine.call (slice_index words 0)
    (own_since steps n b.first + 1) (changes_since script steps n b.first) turned) →
    AreBounded script (steps ++ n ∷ [])
lands-bounded script steps n b words (Going m) all bounded now same turn =
    let steps' : List ℕ = steps ++ n ∷ [] in
    let longer = one_more steps n in
    let within = bounded.0 in
    let own = own-more steps n b.first within in
    let changes = changes-same script steps n b.first within in
    let word : lock_word (execution_of script steps') ≡ slice_index words 0 = ap lock_word now in
    let begun : (execution_of script steps').begun
    ≡ slice_set (execution_of script steps).begun n
    (Some (record { machine = m; first = b.first })) = ap (λ (w : World). w.begun) now in
    let slot : BoundedSlot script steps' n (Some (record { machine = m; first = b.first })) = (
      omega (arith, longer, within),
      λ never. rw (word, own, changes, same) (turn (subst NeverWaits same never)),
    ) in
    record {
      slots = λ t. rw begun
          (each_slot (BoundedSlot script steps') (execution_of script steps).begun n
          (Some (record { machine = m; first = b.first }))
          (λ k apart. other-slot script steps n k _ (flip n k apart) (all.slots k)) slot tt t);
      entries = rw (ap (λ (w : World). w.entries) now)
          (all-older script steps n (finished_calls script steps) all.entries);
    }
lands-bounded script steps n b words (Done r) all bounded now same turn =
    let steps' : List ℕ = steps ++ n ∷ [] in
    let begun : (execution_of script steps').begun
    ≡ slice_set (execution_of script steps).begun n None = ap (λ (w : World). w.begun) now in
    let e : Entry = entry_of (execution_of script steps) n b r in
    let entries : (execution_of script steps').entries ≡ finished_calls script steps ++ e ∷ [] =
    ap (λ (w : World). w.entries) now in
    record {
      slots = λ t. rw begun
          (each_slot (BoundedSlot script steps') (execution_of script steps).begun n None
          (λ k apart. other-slot script steps n k _ (flip n k apart) (all.slots k)) tt tt t);
      entries = rw entries
          (All-push (BoundedEntry script steps') (finished_calls script steps) e
          (all-older script steps n (finished_calls script steps) all.entries)
          (entry-bounded script steps n b r bounded.0 turn));
    }

-- a thread with no call left has begun none
pub idle-slot : (script : Scripted) (world : World) (n : ℕ) → current script world n ≡ None →
    slice_index_or world.begun n None ≡ None
idle-slot script world n = by (slice_index_or world.begun n None)
  where
    by : (slot : Option Begun) →
        current_of script (λ k. stamps_of k world.entries) world.position n slot ≡ None → slot ≡ None
    by None e = refl
    by (Some b) e = e

step-bounded : (script : Scripted) (steps : List ℕ) (n : ℕ) → IsSound script → length steps ≤ 1000000 →
    AreBounded script steps → AreBounded script (steps ++ n ∷ [])
step-bounded script steps n sound few all = by (current script world n) refl
  where
    world : World
    world = execution_of script steps

    k : Invariant script world
    k = always-kept script steps sound few

    by : (c : Option Begun) → current script world n ≡ c → AreBounded script (steps ++ n ∷ [])
    by None e =
        let now : execution_of script (steps ++ n ∷ []) ≡ world_stepped world n None =
        execution_of-more script steps n ∙ ap (world_stepped world n) e in
        record {
          slots = λ t. rw (ap (λ (w : World). w.begun) now) (idle t e);
          entries = rw (ap (λ (w : World). w.entries) now)
              (all-older script steps n (finished_calls script steps) all.entries);
        }
      where
        idle : (t : ℕ) → current script world n ≡ None →
            BoundedSlot script (steps ++ n ∷ []) t (slice_index_or world.begun t None)
        idle t e = on (n == t) refl
          where
            on : (x : Bool) → (n == t) ≡ x →
                BoundedSlot script (steps ++ n ∷ []) t (slice_index_or world.begun t None)
            on false apart = other-slot script steps n t _ apart (all.slots t)
            on true q =
                let same : t ≡ n = grind (arith, q) in
                let none : slice_index_or world.begun t None ≡ None =
                rw same (idle-slot script world n e) in
                rw none tt
    by (Some b) e =
        let of : IsOf (shape_of script) (Some b) = current-of script world n b k sound e in
        let bounded : BoundedSlot script steps n (Some b) = current-bounded script steps n b all e in
        let now : execution_of script (steps ++ n ∷ []) ≡ world_stepped world n (Some b) =
        execution_of-more script steps n ∙ ap (world_stepped world n) e in
        lands-bounded script steps n b (words_after (plan_of b.machine) world.words)
        (after_access b.machine (found_by (plan_of b.machine) world.words)) all bounded now
        (after_same b.machine _)
        (λ never. turn-bounded script world b b.machine.stage _ _ k sound of.0 of.1 never refl
        (bounded.1 never))

steps-bounded : (script : Scripted) (steps rest : List ℕ) → IsSound script →
    length steps + length rest ≤ 1000000 → AreBounded script steps → AreBounded script (steps ++ rest)
steps-bounded script steps [] sound few all = rw (append-nil steps) all
steps-bounded script steps (n ∷ rest) sound few all =
    let longer = one_more steps n in
    let whole : (steps ++ n ∷ []) ++ rest ≡ steps ++ n ∷ rest = append_assoc steps (n ∷ []) rest in
    subst (AreBounded script) whole
    (steps-bounded script (steps ++ n ∷ []) rest sound (omega (arith, longer, few))
    (step-bounded script steps n sound (omega (arith, few)) all))

none-bounded : (script : Scripted) → AreBounded script []
unfolding execution_of
none-bounded script = record {
  slots = λ t. rw (slot_none (length script.threads) t) tt;
  entries = All-nil (BoundedEntry script []);
}

pub steps_are_bounded : StepsBoundedAlways
steps_are_bounded script steps sound few =
    λ k d lt never.
    ((steps-bounded script [] steps sound (omega (arith, few)) (none-bounded script)).entries k d lt).2
    never

-- a call under way
under-way : (limits : Bounds) (call : Call) (word own changes : ℕ) (stage : Stage) →
    job_of_call call ≡ job_of_stage stage → NeverWaits call →
    BoundedStage limits call word own changes stage → own < changes + 2
under-way limits call word own changes (OnLock None) kind never bounded = omega (arith, bounded)
under-way limits call word own changes (OnLock (Some w)) kind never bounded = let h = bounded.0 in
    omega (arith, h)
under-way limits call word own changes (OnRecord job stage) kind never bounded =
    let none : job_of_call call ≡ None = lock_none call never.lock in
    let apart : None ≡ Some job = sym none ∙ kind in
    cc

pub under_way_bounded : UnderWayBoundedAlways
under_way_bounded script steps t b sound few at never =
    let all = steps-bounded script [] steps sound (omega (arith, few)) (none-bounded script) in
    let slot : BoundedSlot script steps t (Some b) =
    subst (BoundedSlot script steps t) at (all.slots t) in
    let k : Invariant script (execution_of script steps) = always-kept script steps sound few in
    let of : IsOf (shape_of script) (Some b) = subst (IsOf (shape_of script)) at (k.begun t) in
    under-way script.limits b.machine.call _ _ _ b.machine.stage of.1 never (slot.1 never)
