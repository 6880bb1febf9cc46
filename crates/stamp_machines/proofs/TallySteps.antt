-- What is counted while a script is run is what its calls cost.
use Rattle.std.proofs.Common.{◌≡◌, ◌≢◌, ℕ, ◌+◌, ◌-◌, ◌<◌, ◌≤◌, ◌==◌, Bool, true, false, List, []}
use Rattle.std.proofs.Common.{◌∷◌, ◌++◌, length, take, drop, Option, Some, None, zero, suc, refl}
use Rattle.std.proofs.Common.{sym, ◌∙◌, ap, subst, arith, if◌then◌else◌, map}
use Rattle.std.specs.Prelude.{not, All, slice_index_or, slice_set, slice_get, replicate}
use Rattle.std.proofs.lemmas.List.{length-append, length-set, length-replicate, map-append}
use Rattle.std.proofs.lemmas.List.{take-append-le, take-append-drop, drop_all, get_or-set_same}
use Rattle.std.proofs.lemmas.List.{get_or-set_other}
use Rattle.std.proofs.lemmas.List.Elements.{All-head, All-tail}
use Rattle.std.proofs.lemmas.List.Sums.{count_by-le-length}
use Rattle.std.proofs.Math.Seq.{take-length}
use Rattle.stamp_core.specs.Linearized.{HasPointInside}
use Rattle.stamp_core.specs.declared.reply.Reply.{Reply}
use Rattle.stamp_core.specs.declared.entry.Entry.{Entry}
use Rattle.stamp_machines.specs.declared.script.ScriptCall.{ScriptCall}
use Rattle.stamp_machines.specs.declared.state.Begun.{Begun}
use Rattle.stamp_machines.specs.declared.tally.Meter.{Meter}
use Rattle.stamp_machines.specs.declared.machine.Turn.{Turn}
use Rattle.stamp_machines.specs.declared.machine.Turn.TheVariants as turned
use Rattle.stamp_machines.specs.declared.running.Stepped.{Stepped}
use Rattle.stamp_machines.specs.declared.running.Stepped.TheVariants.{Idle, Going, Ended}
use Rattle.stamp_machines.specs.Script.{Scripted, IsSound, calls_of}
use Rattle.stamp_machines.specs.World.{World, current, current_of, begun_call, shape_of, stamps_of}
use Rattle.stamp_machines.specs.World.{resolved, world_after, world_stepped, entry_of, execution_of}
use Rattle.stamp_machines.specs.World.{finished_calls}
use Rattle.stamp_machines.specs.MachineState.{start}
use Rattle.stamp_machines.specs.Stepped.{AnswersStep}
use Rattle.stamp_machines.specs.Interference.{lock_word, own_since, changes_since, cost}
use Rattle.stamp_machines.specs.inner.Tally.{TallyState, IsMetered, IsTallied, idle_meter, meter_at, meter_after}
use Rattle.stamp_machines.specs.inner.Tally.{not_others_in, tally_after}
use Rattle.stamp_machines.proofs.EntryOrder.{InOrder, always-in-order, slot_other, slot_none}
use Rattle.stamp_machines.proofs.StepsKeep.{execution-position, execution_of-more, always-kept}
use Rattle.stamp_machines.proofs.StepBound.{own_since-more, changes_since-more, own-more}
use Rattle.stamp_machines.proofs.StepBound.{changes-same, one_more, flip, idle-slot}

-- whether this thread's step changes the lock's word
abbrev pub change_by : Scripted → List ℕ → ℕ → ℕ
change_by script steps n =
    if not (lock_word (execution_of script (steps ++ n ∷ [])) == lock_word (execution_of script steps))
    then 1 else 0

-- an entry costs what it did before
cost-older : (script : Scripted) (steps : List ℕ) (n : ℕ) (e : Entry) → e.first ≤ e.last →
    e.last < length steps → cost script (steps ++ n ∷ []) e ≡ cost script steps e
cost-older script steps n e whole ended =
    let last : take (e.last + 1) (steps ++ n ∷ []) ≡ take (e.last + 1) steps =
    take-append-le (e.last + 1) steps (n ∷ []) (omega (arith, ended)) in
    let first : take e.first (steps ++ n ∷ []) ≡ take e.first steps =
    take-append-le e.first steps (n ∷ []) (omega (arith, whole, ended)) in
    rw (last, first) refl

abbrev pub HasStood : List ℕ → Entry → Type 0
HasStood steps e = (e.first ≤ e.last) × (e.last < length steps)

costs-older : (script : Scripted) (steps : List ℕ) (n : ℕ) (entries : List Entry) →
    All (HasStood steps) entries → map (cost script (steps ++ n ∷ [])) entries
    ≡ map (cost script steps) entries
costs-older script steps n [] all = refl
costs-older script steps n (e ∷ entries) all =
    let head = All-head (HasStood steps) e entries all in
    rw (
      cost-older script steps n e head.0 head.1,
      costs-older script steps n entries (All-tail (HasStood steps) e entries all),
    ) refl

have-stood : (script : Scripted) (steps : List ℕ) → IsSound script → length steps ≤ 1000000 →
    All (HasStood steps) (finished_calls script steps)
have-stood script steps sound few = λ k d lt.
    let o : InOrder script (execution_of script steps) = always-in-order script steps sound few in
    let within : HasPointInside (slice_index_or (finished_calls script steps) k d) =
    o.linearized.within k d lt in
    let begun = within.begun in
    let ended = within.ended in
    let before = o.ended k d lt in
    let here = execution-position script steps in
    (omega (arith, begun, ended), omega (arith, before, here))

-- the thread's call, before its step
pub record Measures (script : Scripted) (steps : List ℕ) (changes n : ℕ) (b : Begun)
    (m : Meter) : Type 0 where
  pub within : b.first ≤ length steps
  pub own : m.steps ≡ own_since steps n b.first
  pub others : not_others_in changes m + changes_since script steps n b.first ≡ changes

current-measured : (script : Scripted) (steps : List ℕ) (n : ℕ) (b : Begun) (s : TallyState) →
    IsTallied script steps s → current script (execution_of script steps) n ≡ Some b →
    Measures script steps s.changes n b (meter_at s.meters n)
current-measured script steps n b s all =
    by (slice_index_or (execution_of script steps).begun n None) (all.meters n)
  where
    m : Meter
    m = meter_at s.meters n

    here : (execution_of script steps).position ≡ length steps
    here = execution-position script steps

    none : drop (length steps) steps ≡ []
    none = drop_all (length steps) steps (omega arith)

    begins : (c : Option ScriptCall) → m ≡ idle_meter →
        begun_call (shape_of script) (λ k. stamps_of k (execution_of script steps).entries)
        (execution_of script steps).position c ≡ Some b → Measures script steps s.changes n b m
    begins None z e = cc
    begins (Some c) z e =
        let same : record {
          machine = start (shape_of script)
              (resolved (λ k. stamps_of k (execution_of script steps).entries) c);
          first = (execution_of script steps).position;
        } ≡ b = cc in
        let first : b.first ≡ length steps = ap (λ (x : Begun). x.first) (sym same) ∙ here in
        let idle : m.steps ≡ 0 = ap (λ (x : Meter). x.steps) z in
        record {
          within = omega (arith, first);
          own = rw (first, none) idle;
          others = rw (first, none, idle) (omega arith);
        }

    by : (slot : Option Begun) → IsMetered script steps s.changes n slot m →
        current_of script (λ k. stamps_of k (execution_of script steps).entries)
        (execution_of script steps).position n slot ≡ Some b → Measures script steps s.changes n b m
    by None metered e =
        begins (slice_get (calls_of script n)
        (length (stamps_of n (execution_of script steps).entries))) metered e
    by (Some c) metered e =
        let same : c ≡ b = cc in
        let some : (m.steps == 0) ≡ false = (let h = metered.0 in grind (arith, h)) in
        subst (λ (x : Begun). Measures script steps s.changes n x m) same
        (record { within = metered.3; own = metered.1; others = rw some metered.2 })

-- another thread's meter
other-metered : (script : Scripted) (steps : List ℕ) (changes n t : ℕ) (slot : Option Begun)
    (m : Meter) → (n == t) ≡ false → IsMetered script steps changes t slot m →
    IsMetered script (steps ++ n ∷ []) (changes + change_by script steps n) t slot m
other-metered script steps changes n t None m apart metered = metered
other-metered script steps changes n t (Some b) m apart metered =
    let longer = one_more steps n in
    let within = metered.3 in
    let own : own_since (steps ++ n ∷ []) t b.first ≡ own_since steps t b.first =
    own_since-more steps n t b.first within ∙ rw apart (omega arith) in
    let others : changes_since script (steps ++ n ∷ []) t b.first ≡ changes_since script steps t b.first
    + change_by script steps n =
    changes_since-more script steps n t b.first within
    ∙ rw (apart, execution_of-more script steps n) refl in
    let h = metered.2 in
    (metered.0, metered.1 ∙ sym own, omega (arith, others, h), omega (arith, longer, within))

-- the thread's own meter, where its call goes on
own-metered : (script : Scripted) (steps : List ℕ) (changes n : ℕ) (b : Begun) (m : Meter) →
    Measures script steps changes n b m →
    IsMetered script (steps ++ n ∷ []) (changes + change_by script steps n) n (Some b)
    (meter_after changes (change_by script steps n) m)
own-metered script steps changes n b m measures =
    let longer = one_more steps n in
    let within = measures.within in
    let own = own-more steps n b.first within in
    let others = changes-same script steps n b.first within in
    let made = measures.own in
    let h = measures.others in (
      omega arith,
      omega (arith, own, made),
      omega (arith, others, h),
      omega (arith, longer, within),
    )

pub change_few : (script : Scripted) (steps : List ℕ) (n : ℕ) → change_by script steps n ≤ 1
change_few script steps n =
    by (lock_word (execution_of script (steps ++ n ∷ [])) == lock_word (execution_of script steps))
  where
    by : (x : Bool) → (if not x then 1 else 0) ≤ 1
    by true = omega arith
    by false = omega arith

-- the meters, where one was set
meters-set : (script : Scripted) (steps : List ℕ) (n : ℕ) (s : TallyState) (v : Option Begun)
    (m : Meter) → IsTallied script steps s → n < length (execution_of script steps).begun →
    n < length s.meters →
    IsMetered script (steps ++ n ∷ []) (s.changes + change_by script steps n) n v m → (t : ℕ) →
    IsMetered script (steps ++ n ∷ []) (s.changes + change_by script steps n) t
    (slice_index_or (slice_set (execution_of script steps).begun n v) t None)
    (meter_at (slice_set s.meters n m) t)
meters-set script steps n s v m all within metered here t = by (t == n) refl
  where
    by : (x : Bool) → (t == n) ≡ x →
        IsMetered script (steps ++ n ∷ []) (s.changes + change_by script steps n) t
        (slice_index_or (slice_set (execution_of script steps).begun n v) t None)
        (meter_at (slice_set s.meters n m) t)
    by true e =
        let same : t ≡ n = grind (arith, e) in
        rw (
          same,
          get_or-set_same (execution_of script steps).begun n v None within,
          get_or-set_same s.meters n m idle_meter metered,
        ) here
    by false e =
        let other : t ≢ n = λ same. absurd (grind (arith, e, same)) in
        rw (
          slot_other (execution_of script steps).begun n t v e,
          get_or-set_other s.meters n t m idle_meter other,
        )
        (other-metered script steps s.changes n t _ _ (flip n t e) (all.meters t))

longer-than : (entries : List Entry) (e : Entry) → entries ++ e ∷ [] ≡ entries → ⊥
longer-than entries e same = let l = length-append entries (e ∷ []) in let m = ap length same in
    omega (arith, l, m)

tallied-going : (script : Scripted) (steps : List ℕ) (n : ℕ) (s : TallyState) (b : Begun)
    (words : List ℕ) (t : Turn) → IsSound script → length steps ≤ 1000000 → n < length script.threads →
    IsTallied script steps s → Measures script steps s.changes n b (meter_at s.meters n) →
    execution_of script (steps ++ n ∷ []) ≡ world_after (execution_of script steps) n b words t →
    (world_after (execution_of script steps) n b words t).entries ≡ (execution_of script steps).entries →
    IsTallied script (steps ++ n ∷ []) (tally_after s n (change_by script steps n) Going)
tallied-going script steps n s b words (turned.Done r) sound few within all measures now entries =
    absurd (longer-than _ _ entries)
tallied-going script steps n s b words (turned.Going m) sound few within all measures now entries =
    let world : World = execution_of script steps in
    let threads = (always-kept script steps sound few).threads in
    let metered : n < length s.meters = rw all.threads within in
    let longer = one_more steps n in
    let one = change_few script steps n in
    let small = all.few in
    record {
      meters = λ t. rw (ap (λ (w : World). w.begun) now)
          (meters-set script steps n s (Some (record { machine = m; first = b.first }))
          (meter_after s.changes (change_by script steps n) (meter_at s.meters n)) all
          (rw threads within) metered
          (own-metered script steps s.changes n b (meter_at s.meters n) measures) t);
      few = omega (arith, longer, one, small);
      threads = length-set s.meters n _ ∙ all.threads;
      report = rw (ap (λ (w : World). w.entries) now)
          (all.report ∙ sym
          (costs-older script steps n (finished_calls script steps)
          (have-stood script steps sound few)));
    }

-- the cost of the entry that is appended
cost-last : (script : Scripted) (steps : List ℕ) (n : ℕ) (b : Begun) (r : Reply) (s : TallyState) →
    Measures script steps s.changes n b (meter_at s.meters n) →
    cost script (steps ++ n ∷ []) (entry_of (execution_of script steps) n b r)
    ≡ (
      (meter_after s.changes (change_by script steps n) (meter_at s.meters n)).steps,
      s.changes + change_by script steps
          n - (meter_after s.changes (change_by script steps n) (meter_at s.meters n)).not_others,
    )
cost-last script steps n b r s measures =
    let here : (execution_of script steps).position ≡ length steps = execution-position script steps in
    let longer = one_more steps n in
    let whole : take ((execution_of script steps).position + 1) (steps ++ n ∷ []) ≡ steps ++ n ∷ [] =
    ap (λ (k : ℕ). take k (steps ++ n ∷ [])) (ap (λ (k : ℕ). k + 1) here ∙ sym longer)
    ∙ take-length (steps ++ n ∷ []) in
    let own = own-more steps n b.first measures.within in
    let others = changes-same script steps n b.first measures.within in
    let made = measures.own in
    let h = measures.others in
    let first : own_since (steps ++ n ∷ []) n b.first ≡ (meter_at s.meters n).steps + 1 =
    omega (arith, own, made) in
    let second : changes_since script (steps ++ n ∷ []) n b.first ≡ s.changes
    + change_by script steps n - (not_others_in s.changes (meter_at s.meters n)
    + change_by script steps n) = omega (arith, others, h) in
    rw (whole, first, second) refl

tallied-ended : (script : Scripted) (steps : List ℕ) (n : ℕ) (s : TallyState) (b : Begun) (e : Entry)
    (words : List ℕ) (t : Turn) → IsSound script → length steps ≤ 1000000 → n < length script.threads →
    IsTallied script steps s → Measures script steps s.changes n b (meter_at s.meters n) →
    execution_of script (steps ++ n ∷ []) ≡ world_after (execution_of script steps) n b words t →
    (world_after (execution_of script steps) n b words t).entries ≡ (execution_of script steps).entries
    ++ e ∷ [] → IsTallied script (steps ++ n ∷ [])
    (tally_after s n (change_by script steps n) (Ended e))
tallied-ended script steps n s b e words (turned.Going m) sound few within all measures now entries =
    absurd (longer-than _ e (sym entries))
tallied-ended script steps n s b e words (turned.Done r) sound few within all measures now entries =
    let world : World = execution_of script steps in
    let x : Entry = entry_of world n b r in
    let threads = (always-kept script steps sound few).threads in
    let metered : n < length s.meters = rw all.threads within in
    let longer = one_more steps n in
    let one = change_few script steps n in
    let small = all.few in
    let before : s.report ≡ map (cost script (steps ++ n ∷ [])) (finished_calls script steps) =
    all.report ∙ sym
    (costs-older script steps n (finished_calls script steps) (have-stood script steps sound few)) in
    let last = cost-last script steps n b r s measures in
    let m : Meter = meter_after s.changes (change_by script steps n) (meter_at s.meters n) in
    let pair : ℕ × ℕ = (m.steps, s.changes + change_by script steps n - m.not_others) in
    let joined : map (cost script (steps ++ n ∷ [])) (finished_calls script steps ++ x ∷ [])
    ≡ map (cost script (steps ++ n ∷ [])) (finished_calls script steps)
    ++ cost script (steps ++ n ∷ []) x ∷ [] =
    map-append (cost script (steps ++ n ∷ [])) (finished_calls script steps) (x ∷ []) in
    record {
      meters = λ t. rw (ap (λ (w : World). w.begun) now)
          (meters-set script steps n s None idle_meter all (rw threads within) metered refl t);
      few = omega (arith, longer, one, small);
      threads = length-set s.meters n _ ∙ all.threads;
      report = ap (λ (xs : List (ℕ × ℕ)). xs ++ pair ∷ []) before
          ∙ ap (λ (y : ℕ × ℕ). map (cost script (steps ++ n ∷ [])) (finished_calls script steps)
          ++ y ∷ []) (sym last) ∙ sym joined
          ∙ ap (λ (w : World). map (cost script (steps ++ n ∷ [])) w.entries) (sym now);
    }

tallied-idle : (script : Scripted) (steps : List ℕ) (n : ℕ) (s : TallyState) → IsSound script →
    length steps ≤ 1000000 → IsTallied script steps s →
    current script (execution_of script steps) n ≡ None →
    execution_of script (steps ++ n ∷ []) ≡ world_stepped (execution_of script steps) n None →
    IsTallied script (steps ++ n ∷ []) s
tallied-idle script steps n s sound few all idle now =
    let longer = one_more steps n in
    let small = all.few in
    let begun : (execution_of script (steps ++ n ∷ [])).begun ≡ (execution_of script steps).begun =
    ap (λ (w : World). w.begun) now in
    record {
      meters = λ t. rw begun (by t (n == t) refl);
      few = omega (arith, longer, small);
      threads = all.threads;
      report = rw (ap (λ (w : World). w.entries) now)
          (all.report ∙ sym
          (costs-older script steps n (finished_calls script steps)
          (have-stood script steps sound few)));
    }
  where
    still : lock_word (execution_of script (steps ++ n ∷ [])) ≡ lock_word (execution_of script steps)
    still = ap lock_word now

    unchanged : change_by script steps n ≡ 0
    unchanged = let same : (lock_word (execution_of script (steps ++ n ∷ [])) == lock_word
        (execution_of script steps)) ≡ true = grind (arith, still) in rw same refl

    sum : s.changes + change_by script steps n ≡ s.changes
    sum = omega (arith, unchanged)

    by : (t : ℕ) (x : Bool) → (n == t) ≡ x →
        IsMetered script (steps ++ n ∷ []) s.changes t
        (slice_index_or (execution_of script steps).begun t None) (meter_at s.meters t)
    by t false apart =
        subst (λ (c : ℕ). IsMetered script (steps ++ n ∷ []) c t
        (slice_index_or (execution_of script steps).begun t None) (meter_at s.meters t)) sum
        (other-metered script steps s.changes n t _ _ apart (all.meters t))
    by t true e =
        let same : t ≡ n = grind (arith, e) in
        let none : slice_index_or (execution_of script steps).begun t None ≡ None =
        rw same (idle-slot script (execution_of script steps) n idle) in
        let zero_steps : IsMetered script steps s.changes t None (meter_at s.meters t) =
        rw none at (all.meters t) in
        rw none zero_steps

pub tallied-more : (script : Scripted) (steps : List ℕ) (n : ℕ) (s : TallyState) (told : Stepped) →
    IsSound script → length steps ≤ 1000000 → n < length script.threads → IsTallied script steps s →
    AnswersStep script (execution_of script steps) n told →
    IsTallied script (steps ++ n ∷ []) (tally_after s n (change_by script steps n) told)
tallied-more script steps n s told sound few within all says =
    by (current script (execution_of script steps) n) refl told says
  where
    world : World
    world = execution_of script steps

    by : (c : Option Begun) → current script world n ≡ c → (told : Stepped) →
        AnswersStep script world n told →
        IsTallied script (steps ++ n ∷ []) (tally_after s n (change_by script steps n) told)
    by None e Idle says =
        tallied-idle script steps n s sound few all e
        (execution_of-more script steps n ∙ ap (world_stepped world n) e)
    by None e Going says = let some = rw e at says.0 in cc
    by None e (Ended x) says = absurd (longer-than world.entries x (sym (rw e at says)))
    by (Some b) e Idle says = let apart : Some b ≡ None = sym e ∙ says in cc
    by (Some b) e Going says =
        tallied-going script steps n s b _ _ sound few within all
        (current-measured script steps n b s all e)
        (execution_of-more script steps n ∙ ap (world_stepped world n) e) (rw e at says.1)
    by (Some b) e (Ended x) says =
        tallied-ended script steps n s b x _ _ sound few within all
        (current-measured script steps n b s all e)
        (execution_of-more script steps n ∙ ap (world_stepped world n) e) (rw e at says)

pub none-tallied : (script : Scripted) (threads : ℕ) → threads ≡ length script.threads →
    IsTallied script [] (record { changes = 0; meters = replicate threads idle_meter; report = [] })
unfolding execution_of
none-tallied script threads same = record {
  meters = λ t. rw (slot_none (length script.threads) t) (idle-all threads t);
  few = omega arith;
  threads = length-replicate {A = Meter} threads idle_meter ∙ same;
  report = refl;
}
  where
    idle-all : (k t : ℕ) → meter_at (replicate k idle_meter) t ≡ idle_meter
    idle-all zero t = refl
    idle-all (suc k) zero = refl
    idle-all (suc k) (suc t) = idle-all k t

-- a call under way has made no more steps than all have
pub meter_few : (script : Scripted) (steps : List ℕ) (changes t : ℕ) (slot : Option Begun)
    (m : Meter) → IsMetered script steps changes t slot m → m.steps ≤ length steps
meter_few script steps changes t None m metered = let none : m.steps ≡ 0 =
    ap (λ (x : Meter). x.steps) metered in omega (arith, none)
meter_few script steps changes t (Some b) m metered =
    let made = metered.1 in
    let some : own_since steps t b.first ≤ length (drop b.first steps) =
    count_by-le-length (λ thread. thread == t) (drop b.first steps) in
    let rest : length (drop b.first steps) ≤ length steps =
    (let whole = ap length (take-append-drop b.first steps) in
    let parts = length-append (take b.first steps) (drop b.first steps) in
    omega (arith, whole, parts)) in
    omega (arith, made, some, rest)
