-- The entries of a schedule come in the order of their last steps, and those of a thread one after
-- the other.
use Rattle.std.proofs.Common.{◌≡◌, ◌⊎◌, ℕ, ◌+◌, ◌-◌, ◌<◌, ◌≤◌, ◌==◌, Bool, true, false, List, []}
use Rattle.std.proofs.Common.{◌∷◌, ◌++◌, length, Option, Some, None, zero, suc, refl, sym, ap}
use Rattle.std.proofs.Common.{subst, arith, inl, inr}
use Rattle.std.specs.Prelude.{slice_index_or, slice_set, slice_get, replicate, fold}
use Rattle.std.specs.List.{All}
use Rattle.std.proofs.lemmas.List.Elements.{All-push, All-nil}
use Rattle.stamp_core.specs.Limits.{Bounds}
use Rattle.stamp_core.specs.History.{History, IsLegal}
use Rattle.stamp_core.specs.Linearized.{history_of, AreLinearized, IsAnswered, MayFollow}
use Rattle.stamp_core.specs.declared.reply.Reply.{Reply}
use Rattle.stamp_core.specs.declared.entry.Entry.{Entry}
use Rattle.stamp_core.proofs.Linearizing.{linearized_none, linearized_more}
use Rattle.stamp_core.proofs.StampValidity.{legal_rest}
use Rattle.stamp_core.specs.Content.{zeros}
use Rattle.stamp_machines.specs.Script.{IsSound}
use Rattle.stamp_machines.specs.inner.Invariant.{Invariant}
use Rattle.stamp_machines.proofs.StepsKeep.{history_more, step-kept, position-step, opening-kept}
use Rattle.stamp_machines.specs.declared.script.ScriptCall.{ScriptCall}
use Rattle.stamp_machines.specs.declared.state.Begun.{Begun}
use Rattle.stamp_machines.specs.declared.machine.Turn.{Turn}
use Rattle.stamp_machines.specs.declared.machine.Turn.TheVariants.{Going, Done}
use Rattle.stamp_machines.specs.Script.{Scripted, calls_of}
use Rattle.stamp_machines.specs.World.{World, opening, current, current_of, begun_call, shape_of}
use Rattle.stamp_machines.specs.World.{stamps_of, world_after, world_stepped, step, entry_of, execution_of}

-- the list with one slot set
pub slot_other : (xs : List (Option Begun)) (i k : ℕ) (v : Option Begun) → (k == i) ≡ false →
    slice_index_or (slice_set xs i v) k None ≡ slice_index_or xs k None
slot_other [] i k v n = refl
slot_other (x ∷ xs) zero zero v n = cc
slot_other (x ∷ xs) zero (suc k) v n = refl
slot_other (x ∷ xs) (suc i) zero v n = refl
slot_other (x ∷ xs) (suc i) (suc k) v n = slot_other xs i k v (grind arith)

pub slot_emptied : (xs : List (Option Begun)) (i : ℕ) →
    slice_index_or (slice_set xs i None) i None ≡ None
slot_emptied [] i = refl
slot_emptied (x ∷ xs) zero = refl
slot_emptied (x ∷ xs) (suc i) = slot_emptied xs i

pub slot_set : (xs : List (Option Begun)) (i : ℕ) (v : Option Begun) →
    (slice_index_or (slice_set xs i v) i None ≡ v)
    ⊎ (slice_index_or (slice_set xs i v) i None ≡ None)
slot_set [] i v = inr refl
slot_set (x ∷ xs) zero v = inl refl
slot_set (x ∷ xs) (suc i) v = slot_set xs i v

pub slot_none : (n k : ℕ) → slice_index_or (replicate {A = Option Begun} n None) k None ≡ None
slot_none zero k = refl
slot_none (suc n) zero = refl
slot_none (suc n) (suc k) = slot_none n k

-- a fact of each slot, after one was set
pub each_slot : (P : ℕ → Option Begun → Type 0) (xs : List (Option Begun)) (i : ℕ)
    (v : Option Begun) → ((k : ℕ) → (k == i) ≡ false → P k (slice_index_or xs k None)) → P i v →
    P i None → (k : ℕ) → P k (slice_index_or (slice_set xs i v) k None)
each_slot P xs i v others set none k = by (k == i) refl
  where
    by : (b : Bool) → (k == i) ≡ b → P k (slice_index_or (slice_set xs i v) k None)
    by false n = subst (P k) (sym (slot_other xs i k v n)) (others k n)
    by true e =
        let same : k ≡ i = grind (arith, e) in
        rw same (elim (slot_set xs i v)
        [ inl h ↦ subst (P i) (sym h) set | inr h ↦ subst (P i) (sym h) none ])

-- the entries of this thread had ended before
abbrev pub EndedBefore : ℕ → ℕ → List Entry → Type 0
EndedBefore thread first entries = All (λ (d : Entry). d.thread ≡ thread → d.last < first) entries

-- a call that has begun did so at a step already made, after its thread's entries
abbrev pub IsSince : ℕ → List Entry → ℕ → Option Begun → Type 0
IsSince position entries thread None = Unit {0}
IsSince position entries thread (Some b) = (b.first ≤ position) × EndedBefore thread b.first entries

pub record InOrder (script : Scripted) (world : World) : Type 0 where
  pub linearized : AreLinearized script.limits script.width world.entries
  pub points : All (λ (d : Entry). d.point ≡ d.last) world.entries
  pub ended : All (λ (d : Entry). d.last < world.position) world.entries
  pub begun : (t : ℕ) → IsSince world.position world.entries t (slice_index_or world.begun t None)

-- a thread's current call
current-since : (script : Scripted) (world : World) (t : ℕ) (b : Begun) → InOrder script world →
    current script world t ≡ Some b → IsSince world.position world.entries t (Some b)
current-since script world t b o = by (slice_index_or world.begun t None) refl
  where
    begins : (c : Option ScriptCall) →
        begun_call (shape_of script) (λ k. stamps_of k world.entries) world.position c ≡ Some b →
        IsSince world.position world.entries t (Some b)
    begins None e = cc
    begins (Some c) e =
        let first : world.position ≡ b.first = ap first_of e in
        (omega (arith, first), λ k d lt same. rw (← first) (o.ended k d lt))
      where
        first_of : Option Begun → ℕ
        first_of None = 0
        first_of (Some x) = x.first

    by : (slot : Option Begun) → slice_index_or world.begun t None ≡ slot →
        current_of script (λ k. stamps_of k world.entries) world.position t slot ≡ Some b →
        IsSince world.position world.entries t (Some b)
    by None at e = begins (slice_get (calls_of script t) (length (stamps_of t world.entries))) e
    by (Some c) at e = let same : c ≡ b =
        cc in subst (λ (x : Begun). IsSince world.position world.entries t (Some x)) same
        (subst (IsSince world.position world.entries t) at (o.begun t))

later : (position : ℕ) (entries : List Entry) (t : ℕ) (slot : Option Begun) →
    IsSince position entries t slot → IsSince (position + 1) entries t slot
later position entries t None since = tt
later position entries t (Some b) since = (omega (arith, since.0), since.1)

-- another thread's entry is of no account
other-since : (position : ℕ) (entries : List Entry) (e : Entry) (t : ℕ) (slot : Option Begun) →
    (t == e.thread) ≡ false → IsSince position entries t slot →
    IsSince (position + 1) (entries ++ e ∷ []) t slot
other-since position entries e t None n since = tt
other-since position entries e t (Some b) n since = (
  omega (arith, since.0),
  All-push (λ (d : Entry). d.thread ≡ t → d.last < b.first) entries e since.1
      (λ same. absurd (grind (arith, n, same))),
)

going-order : (script : Scripted) (world : World) (t : ℕ) (words : List ℕ) (now : Option Begun) →
    InOrder script world → IsSince world.position world.entries t now →
    InOrder script
    (record {
      words = words;
      begun = slice_set world.begun t now;
      entries = world.entries;
      position = world.position + 1;
    })
going-order script world t words now o since = record {
  linearized = o.linearized;
  points = o.points;
  ended = λ k d lt. let h = o.ended k d lt in omega (arith, h);
  begun = each_slot (IsSince (world.position + 1) world.entries) world.begun t now
      (λ k n. later world.position world.entries k _ (o.begun k))
      (later world.position world.entries t now since) tt;
}

-- in a legal history the last entry is answered after those before it
last-answered : (limits : Bounds) (width : ℕ) (entries : List Entry) (e : Entry) →
    IsLegal limits width (history_of (entries ++ e ∷ [])) → IsAnswered limits width entries e
last-answered limits width entries e legal =
    (legal_rest limits [] (zeros width) (history_of entries) ((e.call, e.reply) ∷ [])
    (subst (λ (h : History). IsLegal limits width h) (history_more entries e) legal)).0

-- the entry may follow those before it
entry-fits : (script : Scripted) (world : World) (t : ℕ) (b : Begun) (r : Reply) →
    InOrder script world → IsSince world.position world.entries t (Some b) →
    IsAnswered script.limits script.width world.entries (entry_of world t b r) →
    MayFollow script.limits script.width world.entries (entry_of world t b r)
entry-fits script world t b r o since answered = record {
  within = record { begun = since.0; ended = omega arith };
  rises = λ d some.
      let k : ℕ = length world.entries - 1 in
      let lt : k < length world.entries = omega arith in
      let p = o.points k d lt in
      let h = o.ended k d lt in
      omega (arith, p, h);
  follows = λ k d lt. since.1 k d lt;
  answered = answered;
}

done-order : (script : Scripted) (world : World) (t : ℕ) (b : Begun) (words : List ℕ) (r : Reply) →
    InOrder script world → IsSince world.position world.entries t (Some b) →
    IsLegal script.limits script.width (history_of (world.entries ++ entry_of world t b r ∷ [])) →
    InOrder script (world_after world t b words (Done r))
done-order script world t b words r o since legal =
    let e : Entry = entry_of world t b r in
    record {
      linearized =
          linearized_more script.limits script.width world.entries e o.linearized
          (entry-fits script world t b r o since
          (last-answered script.limits script.width world.entries e legal));
      points = All-push (λ (d : Entry). d.point ≡ d.last) world.entries e o.points refl;
      ended = All-push (λ (d : Entry). d.last < world.position + 1) world.entries e
          (λ k d lt. let h = o.ended k d lt in omega (arith, h)) (omega arith);
      begun = each_slot (IsSince (world.position + 1) (world.entries ++ e ∷ [])) world.begun t None
          (λ k n. other-since world.position world.entries e k _ n (o.begun k)) tt tt;
    }

-- one step
step-order : (script : Scripted) (world : World) (t : ℕ) → InOrder script world →
    IsLegal script.limits script.width (history_of (step script world t).entries) →
    InOrder script (step script world t)
step-order script world t o legal = by (current script world t) refl legal
  where
    lands : (b : Begun) (words : List ℕ) (turned : Turn) →
        IsSince world.position world.entries t (Some b) →
        IsLegal script.limits script.width (history_of (world_after world t b words turned).entries) →
        InOrder script (world_after world t b words turned)
    lands b words (Going m) since legal =
        going-order script world t words (Some (record { machine = m; first = b.first })) o since
    lands b words (Done r) since legal = done-order script world t b words r o since legal

    by : (c : Option Begun) → current script world t ≡ c →
        IsLegal script.limits script.width (history_of (world_stepped world t c).entries) →
        InOrder script (world_stepped world t c)
    by None e legal = record {
      linearized = o.linearized;
      points = o.points;
      ended = λ k d lt. let h = o.ended k d lt in omega (arith, h);
      begun = λ k. later world.position world.entries k _ (o.begun k);
    }
    by (Some b) e legal = lands b _ _ (current-since script world t b o e) legal

opening-order : (script : Scripted) → InOrder script (opening script)
opening-order script = record {
  linearized = linearized_none script.limits script.width;
  points = All-nil (λ (d : Entry). d.point ≡ d.last);
  ended = All-nil (λ (d : Entry). d.last < 0);
  begun = λ k. rw (slot_none (length script.threads) k) tt;
}

steps-order : (script : Scripted) (world : World) (steps : List ℕ) → Invariant script world → IsSound script →
    world.position + length steps ≤ 1000000 → InOrder script world →
    InOrder script (fold (step script) world steps)
steps-order script world [] k sound room o = o
steps-order script world (t ∷ steps) k sound room o =
    let kept : Invariant script (step script world t) =
    step-kept script world t k sound (omega (arith, room)) in
    steps-order script (step script world t) steps kept sound
    (rw (position-step script world t) (omega (arith, room)))
    (step-order script world t o kept.legal)

pub always-in-order : (script : Scripted) (steps : List ℕ) → IsSound script → length steps ≤ 1000000 →
    InOrder script (execution_of script steps)
unfolding execution_of
always-in-order script steps sound few =
    steps-order script (opening script) steps (opening-kept script sound) sound (omega (arith, few))
    (opening-order script)
