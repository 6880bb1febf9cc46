-- A run of two objects, as a run of each.
use Rattle.std.proofs.Common.{◌≡◌, ◌≢◌, ◌⊎◌, ℕ, Bool, true, false, List, ◌∷◌, refl, sym, ◌∙◌, subst, inl, inr}
use Rattle.std.specs.Prelude.{not}
use Rattle.std.specs.Bool.{MatchBool}
use Rattle.std.proofs.lemmas.Bool.{cases_eq}
use Rattle.stamp_core.specs.declared.call.Call.{Call}
use Rattle.stamp_core.specs.declared.reply.Reply.{Reply}
use Rattle.stamp_runs.specs.Object.{Object}
use Rattle.stamp_runs.specs.declared.event.Event.{Event}
use Rattle.stamp_runs.specs.Run.{Lanes, Leads, Phase, Sets, Survives, Happens}
use Rattle.stamp_runs.specs.declared.event.Event.TheVariants.{Begins, Returns, Withdraws}
use Rattle.stamp_runs.specs.Run.Leads.{leads_nowhere, by_effect, by_event}
use Rattle.stamp_runs.specs.Run.Phase.{Idle, Asks, Gets}
use Rattle.stamp_runs.specs.Pairs.{Of, Pair, not_of}
use Rattle.stamp_runs.proofs.Going.{survives_effect}
use Rattle.stamp_runs.proofs.Lanes.{asks_or_gets, idle_or_asks, idle_or_gets, one_call, set_of, sets_of}

-- it asks this call, or is in effect
abbrev pub IsOpenAs : Call → Phase → Type 0
IsOpenAs call phase = (phase ≡ Asks call) ⊎ ((reply : Reply) × (phase ≡ Gets reply))

-- a lane of the two, of the first and of the other: the one whose call it is tells
pub data Together (mine : Call → Bool) (x a b : Phase) : Type 0 where
  all_are_idle : x ≡ Idle → a ≡ Idle → b ≡ Idle → Together mine x a b
  of_first : (call : Call) → mine call ≡ true → x ≡ a → IsOpenAs call a → IsOpenAs call b → Together mine x a b
  of_other : (call : Call) → mine call ≡ false → x ≡ b → IsOpenAs call a → IsOpenAs call b → Together mine x a b

pub open_call : {c d : Call} {p : Phase} → IsOpenAs c p → p ≡ Asks d → c ≡ d
open_call (inl asks) other = one_call asks other
open_call (inr gets) other = absurd (asks_or_gets other gets.1)

pub not_idle : {c : Call} {p : Phase} → IsOpenAs c p → p ≡ Idle → ⊥
not_idle (inl asks) idle = idle_or_asks idle asks
not_idle (inr gets) idle = idle_or_gets idle gets.1

-- one lane of each becomes something else
together_then : {mine : Call → Bool} {x a b x1 a1 b1 : Lanes} {p q r : Phase} (lane : ℕ) →
    ((v : ℕ) → Together mine (x v) (a v) (b v)) → Sets x x1 lane p → Sets a a1 lane q → Sets b b1 lane r →
    Together mine p q r → (v : ℕ) → Together mine (x1 v) (a1 v) (b1 v)
together_then {mine} {x} {a} {b} {x1} {a1} {b1} {p} {q} {r} lane before sx sa sb now v = by (cases_eq v lane)
  where
    put : {p p' q q' r r' : Phase} → p' ≡ p → q' ≡ q → r' ≡ r → Together mine p q r → Together mine p' q' r'
    put {p} {p'} {q} {q'} {r} {r'} e f g is = subst (λ (z : Phase). Together mine z q' r') (sym e)
        (subst (λ (z : Phase). Together mine p z r') (sym f) (subst (λ (z : Phase). Together mine p q z) (sym g) is))

    by : (v ≡ lane) ⊎ (v ≢ lane) → Together mine (x1 v) (a1 v) (b1 v)
    by (inl same) = subst (λ (w : ℕ). Together mine (x1 w) (a1 w) (b1 w)) (sym same) (put sx.here sa.here sb.here now)
    by (inr apart) = put (sx.others v apart) (sa.others v apart) (sb.others v apart) (before v)

stays_so : (l : Lanes) (lane : ℕ) → Sets l l lane (l lane)
stays_so l lane = record { here = refl; others = λ v apart. refl }

module _ {S T : Type 0} (mine : Call → Bool) (O : Object S) (P : Object T) where
  -- the way of the two is one of each
  pub way_of_first : {events : List Event} {s t : S × T} {a b : Lanes} → Leads (Pair mine O P) events s a t b →
      Leads (Of mine O) events s.0 a t.0 b
  way_of_first leads_nowhere = leads_nowhere
  way_of_first (by_effect lane call reply asks step sets rest) =
      by_effect lane call reply asks step.0 sets (way_of_first rest)
  way_of_first (by_event event happens rest) = by_event event happens (way_of_first rest)

  pub way_of_other : {events : List Event} {s t : S × T} {a b : Lanes} → Leads (Pair mine O P) events s a t b →
      Leads (Of (not_of mine) P) events s.1 a t.1 b
  way_of_other leads_nowhere = leads_nowhere
  way_of_other (by_effect lane call reply asks step sets rest) =
      by_effect lane call reply asks step.1 sets (way_of_other rest)
  way_of_other (by_event event happens rest) = by_event event happens (way_of_other rest)

  abbrev AreTogether : Lanes → Lanes → Lanes → Type 0
  AreTogether x a b = (lane : ℕ) → Together mine (x lane) (a lane) (b lane)

  -- a call takes effect on the way of the first, and in both if it is one of its own
  first_effect : {events : List Event} {s next : S} {t : T} {x a b a1 : Lanes} (lane : ℕ) (call : Call)
      (reply : Reply) → AreTogether x a b → a lane ≡ Asks call → Of mine O s call reply next →
      Sets a a1 lane (Gets reply) →
      ((x1 : Lanes) → AreTogether x1 a1 b → Survives (Pair mine O P) events (next, t) x1) →
      Survives (Pair mine O P) events (s, t) x
  first_effect {events} {s} {next} {t} {x} {a} {b} {a1} lane call reply together asks step sets on =
      by (together lane)
    where
      by : Together mine (x lane) (a lane) (b lane) → Survives (Pair mine O P) events (s, t) x
      by (all_are_idle i j k) = absurd (idle_or_asks j asks)
      by (of_first c is same is_open other) = survives_effect (Pair mine O P) lane call reply (same ∙ asks) (
        step,
        apart,
      ) (sets_of x lane (Gets reply)) (on (set_of x lane (Gets reply)) (together_then lane together
          (sets_of x lane (Gets reply)) sets (stays_so b lane)
          (of_first c is refl (inr (reply, refl)) other)))
        where
          apart : Of (not_of mine) P t call reply t
          apart = subst (λ (z : Bool). MatchBool (not z) (P t call reply t) (t ≡ t))
              (sym (subst (λ (z : Call). mine z ≡ true) (open_call is_open asks) is)) refl
      by (of_other c is same is_open other) = subst (λ (z : S). Survives (Pair mine O P) events (z, t) x) still
          (on x (together_then lane together (stays_so x lane) sets (stays_so b lane)
          (of_other c is same (inr (reply, refl)) other)))
        where
          still : next ≡ s
          still = subst (λ (z : Bool). MatchBool z (O s call reply next) (next ≡ s))
              (subst (λ (z : Call). mine z ≡ false) (open_call is_open asks) is) step

  -- and on the way of the other
  other_effect : {events : List Event} {s : S} {t next : T} {x a b b1 : Lanes} (lane : ℕ) (call : Call)
      (reply : Reply) → AreTogether x a b → b lane ≡ Asks call → Of (not_of mine) P t call reply next →
      Sets b b1 lane (Gets reply) →
      ((x1 : Lanes) → AreTogether x1 a b1 → Survives (Pair mine O P) events (s, next) x1) →
      Survives (Pair mine O P) events (s, t) x
  other_effect {events} {s} {t} {next} {x} {a} {b} {b1} lane call reply together asks step sets on =
      by (together lane)
    where
      by : Together mine (x lane) (a lane) (b lane) → Survives (Pair mine O P) events (s, t) x
      by (all_are_idle i j k) = absurd (idle_or_asks k asks)
      by (of_other c is same other is_open) = survives_effect (Pair mine O P) lane call reply (same ∙ asks) (
        apart,
        step,
      ) (sets_of x lane (Gets reply)) (on (set_of x lane (Gets reply)) (together_then lane together
          (sets_of x lane (Gets reply)) (stays_so a lane) sets
          (of_other c is refl other (inr (reply, refl)))))
        where
          apart : Of mine O s call reply s
          apart = subst (λ (z : Bool). MatchBool z (O s call reply s) (s ≡ s))
              (sym (subst (λ (z : Call). mine z ≡ false) (open_call is_open asks) is)) refl
      by (of_first c is same other is_open) = subst (λ (z : T). Survives (Pair mine O P) events (s, z) x) still
          (on x (together_then lane together (stays_so x lane) (stays_so a lane) sets
          (of_first c is same other (inr (reply, refl)))))
        where
          still : next ≡ t
          still = subst (λ (z : Bool). MatchBool (not z) (P t call reply next) (next ≡ t))
              (subst (λ (z : Call). mine z ≡ true) (open_call is_open asks) is) step

  -- an event of each is one of the two
  record HappensTogether (event : Event) (x a b : Lanes) : Type 0 where
    after : Lanes
    happens : Happens event x after
    together : AreTogether after a b

  happen_together : {x a b a1 b1 : Lanes} (event : Event) → AreTogether x a b → Happens event a a1 →
      Happens event b b1 → HappensTogether event x a1 b1
  happen_together {x} {a} {b} {a1} {b1} (Begins lane call) together first other = by (together lane)
    where
      kind : (k : Bool) → mine call ≡ k → Together mine (Asks call) (Asks call) (Asks call)
      kind true is = of_first call is refl (inl refl) (inl refl)
      kind false is = of_other call is refl (inl refl) (inl refl)

      by : Together mine (x lane) (a lane) (b lane) → HappensTogether (Begins lane call) x a1 b1
      by (all_are_idle i j k) = record {
        after = set_of x lane (Asks call);
        happens = (i, sets_of x lane (Asks call));
        together = together_then lane together (sets_of x lane (Asks call)) first.1 other.1 (kind (mine call) refl);
      }
      by (of_first c is same is_open open_too) = absurd (not_idle is_open first.0)
      by (of_other c is same is_open open_too) = absurd (not_idle is_open first.0)
  happen_together {x} {a} {b} {a1} {b1} (Returns lane reply) together first other = record {
    after = set_of x lane Idle;
    happens = (gets (together lane), sets_of x lane Idle);
    together = together_then lane together (sets_of x lane Idle) first.1 other.1 (all_are_idle refl refl refl);
  }
    where
      gets : Together mine (x lane) (a lane) (b lane) → x lane ≡ Gets reply
      gets (all_are_idle i j k) = absurd (idle_or_gets j first.0)
      gets (of_first c is same is_open open_too) = same ∙ first.0
      gets (of_other c is same is_open open_too) = same ∙ other.0
  happen_together {x} {a} {b} {a1} {b1} (Withdraws lane) together first other = record {
    after = set_of x lane Idle;
    happens = ((asks (together lane)).0, (asks (together lane)).1, sets_of x lane Idle);
    together = together_then lane together (sets_of x lane Idle) first.2 other.2 (all_are_idle refl refl refl);
  }
    where
      asks : Together mine (x lane) (a lane) (b lane) → (c : Call) × (x lane ≡ Asks c)
      asks (all_are_idle i j k) = absurd (idle_or_asks j first.1)
      asks (of_first c is same is_open open_too) = (first.0, same ∙ first.1)
      asks (of_other c is same is_open open_too) = (other.0, same ∙ other.1)

  -- the way of the other up to an event
  until_event : {events : List Event} {s : S} {t u : T} {x a b a1 l : Lanes} (event : Event) → AreTogether x a b →
      Happens event a a1 → Leads (Of (not_of mine) P) (event ∷ events) t b u l →
      ((v : T) (x1 b1 : Lanes) → AreTogether x1 a1 b1 → Leads (Of (not_of mine) P) events v b1 u l →
      Survives (Pair mine O P) events (s, v) x1) → Survives (Pair mine O P) (event ∷ events) (s, t) x
  until_event event together happens (by_effect lane call reply asks step sets rest) on =
      other_effect lane call reply together asks step sets
      (λ x1 together1. until_event event together1 happens rest on)
  until_event {events} {s} {x = x} event together happens (by_event {s = v} {after = b1} itself happens_too rest) on =
      let both = happen_together event together happens happens_too in
      let then_on : Survives (Pair mine O P) events (s, v) both.after = on v both.after b1 both.together rest in
      record { state = then_on.state; last = then_on.last; way = by_event event both.happens then_on.way }

  -- a way of each is one of the two
  pub ways_merge : {events : List Event} {s s' : S} {t t' : T} {x a a' b b' : Lanes} → AreTogether x a b →
      Leads (Of mine O) events s a s' a' → Leads (Of (not_of mine) P) events t b t' b' →
      Survives (Pair mine O P) events (s, t) x
  ways_merge {s = s} {t = t} {x = x} together leads_nowhere other =
      record { state = (s, t); last = x; way = leads_nowhere }
  ways_merge together (by_effect lane call reply asks step sets rest) other =
      first_effect lane call reply together asks step sets (λ x1 together1. ways_merge together1 rest other)
  ways_merge together (by_event event happens rest) other =
      until_event event together happens other (λ v x1 b1 together1 then_other. ways_merge together1 rest then_other)
