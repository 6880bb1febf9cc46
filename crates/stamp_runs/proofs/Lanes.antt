-- Lanes of which one is set.
use Rattle.std.proofs.Common.{None, Some, ◌≡◌, ◌≢◌, ◌⊎◌, ℕ, Bool, true, false, List, ◌++◌, refl, sym, ◌∙◌, subst, inl}
use Rattle.std.proofs.Common.{inr}
use Rattle.std.proofs.lemmas.Bool.{cases_eq}
use Rattle.stamp_core.specs.declared.call.Call.{Call}
use Rattle.stamp_core.specs.declared.reply.Reply.{Reply}
use Rattle.stamp_runs.specs.Object.{Object}
use Rattle.stamp_runs.specs.declared.event.Event.{Event}
use Rattle.stamp_runs.specs.Run.{Happens, IsEndOf, Lanes, Leads, Phase, Sets, lane_of}
use Rattle.stamp_runs.specs.declared.event.Event.TheVariants.{Begins, Returns, Withdraws}
use Rattle.stamp_runs.specs.Run.Leads.{leads_nowhere, by_effect, by_event}
use Rattle.stamp_runs.specs.Run.Phase.{Idle, Asks, Gets}

pub idle_or_asks : {p : Phase} {call : Call} → p ≡ Idle → p ≡ Asks call → ⊥
idle_or_asks idle asks = cc

pub idle_or_gets : {p : Phase} {reply : Reply} → p ≡ Idle → p ≡ Gets reply → ⊥
idle_or_gets idle gets = cc

pub asks_or_gets : {p : Phase} {call : Call} {reply : Reply} → p ≡ Asks call → p ≡ Gets reply → ⊥
asks_or_gets asks gets = cc

pub one_reply : {p : Phase} {a b : Reply} → p ≡ Gets a → p ≡ Gets b → a ≡ b
one_reply is other = cc

pub one_call : {p : Phase} {a b : Call} → p ≡ Asks a → p ≡ Asks b → a ≡ b
one_call is other = cc

pub none_some : {X : Type 0} {x : X} → None ≡ Some x → ⊥
none_some same = cc

pub true_or_false : {b : Bool} → b ≡ true → b ≡ false → ⊥
true_or_false is not = cc

abbrev pub pick : {A X : Type 0} → A ⊎ (¬ A) → X → X → X
pick (inl is) x y = x
pick (inr not) x y = y

pub picks_first : {A X : Type 0} (d : A ⊎ (¬ A)) (x y : X) → A → pick d x y ≡ x
picks_first (inl is) x y a = refl
picks_first (inr not) x y a = absurd (not a)

pub picks_second : {A X : Type 0} (d : A ⊎ (¬ A)) (x y : X) → (¬ A) → pick d x y ≡ y
picks_second (inl is) x y not = absurd (not is)
picks_second (inr other) x y not = refl

abbrev pub set_of : Lanes → ℕ → Phase → Lanes
set_of lanes lane phase = λ (other : ℕ). pick (cases_eq other lane) phase (lanes other)

pub sets_of : (lanes : Lanes) (lane : ℕ) (phase : Phase) → Sets lanes (set_of lanes lane phase) lane phase
sets_of lanes lane phase = record {
  here = picks_first (cases_eq lane lane) phase (lanes lane) refl;
  others = λ other apart. picks_second (cases_eq other lane) phase (lanes other) apart;
}

pub sets_as : (lanes : Lanes) (lane : ℕ) {phase other : Phase} → phase ≡ other →
    Sets lanes (set_of lanes lane phase) lane other
sets_as lanes lane {phase} same = record {
  here = (sets_of lanes lane phase).here ∙ same;
  others = (sets_of lanes lane phase).others;
}

-- what is set in one way has one result
pub sets_alike : (old a b : Lanes) (lane : ℕ) (phase : Phase) → Sets old a lane phase → Sets old b lane phase → a ≡ b
sets_alike old a b lane phase left right = λ i other. by other (cases_eq other lane) i
  where
    by : (other : ℕ) → (other ≡ lane) ⊎ (other ≢ lane) → a other ≡ b other
    by other (inl same) = subst (λ (u : ℕ). a u ≡ b u) (sym same) (left.here ∙ sym right.here)
    by other (inr apart) = left.others other apart ∙ sym (right.others other apart)

-- the phases of two lanes are set in either order
pub sets_swapped : (old a b c : Lanes) (u t : ℕ) (x y : Phase) → u ≢ t → Sets old a u x → Sets old b t y →
    Sets a c t y → Sets b c u x
sets_swapped old a b c u t x y apart first second last = record {
  here = last.others u apart ∙ first.here;
  others = λ v other. by v other (cases_eq v t);
}
  where
    by : (v : ℕ) → v ≢ u → (v ≡ t) ⊎ (v ≢ t) → c v ≡ b v
    by v other (inl same) = subst (λ (w : ℕ). c w ≡ b w) (sym same) (last.here ∙ sym second.here)
    by v other (inr beyond) = last.others v beyond ∙ first.others v other ∙ sym (second.others v beyond)

-- one way after another
pub leads_on : {S : Type 0} {O : Object S} {past more : List Event} {s t u : S} {a b c : Lanes} →
    Leads O past s a t b → Leads O more t b u c → Leads O (past ++ more) s a u c
leads_on leads_nowhere later = later
leads_on (by_effect lane call reply asks step sets rest) later =
    by_effect lane call reply asks step sets (leads_on rest later)
leads_on (by_event event happens rest) later = by_event event happens (leads_on rest later)

-- a lane that is so already
pub sets_itself : (l : Lanes) (lane : ℕ) (phase : Phase) → l lane ≡ phase → Sets l l lane phase
sets_itself l lane phase is = record { here = is; others = λ v apart. refl }

-- what happens in one lane is the same whatever another is about
pub happens_beside : {a b a' b' : Lanes} (event : Event) (lane : ℕ) (phase : Phase) → lane_of event ≢ lane →
    Happens event a b → Sets a a' lane phase → Sets b b' lane phase → Happens event a' b'
happens_beside {a} {b} {a'} {b'} (Begins u call) lane phase apart happens sets sets_b =
    (sets.others u apart ∙ happens.0, sets_swapped a b a' b' u lane (Asks call) phase apart happens.1 sets sets_b)
happens_beside {a} {b} {a'} {b'} (Returns u reply) lane phase apart happens sets sets_b =
    (sets.others u apart ∙ happens.0, sets_swapped a b a' b' u lane Idle phase apart happens.1 sets sets_b)
happens_beside {a} {b} {a'} {b'} (Withdraws u) lane phase apart happens sets sets_b = (
  happens.0,
  sets.others u apart ∙ happens.1,
  sets_swapped a b a' b' u lane Idle phase apart happens.2 sets sets_b,
)

-- and that lane stays as it is
pub stays_beside : (a b : Lanes) (event : Event) (lane : ℕ) → lane_of event ≢ lane → Happens event a b →
    b lane ≡ a lane
stays_beside a b (Begins u call) lane apart happens = happens.1.others lane (λ e. apart (sym e))
stays_beside a b (Returns u reply) lane apart happens = happens.1.others lane (λ e. apart (sym e))
stays_beside a b (Withdraws u) lane apart happens = happens.2.others lane (λ e. apart (sym e))

-- an event that does not end an open call is of another lane
pub open_apart : (a b : Lanes) (event : Event) (lane : ℕ) → (a lane ≡ Idle → ⊥) → ¬ IsEndOf lane event →
    Happens event a b → lane_of event ≢ lane
open_apart a b (Begins u call) lane busy not happens e = busy (subst (λ (w : ℕ). a w ≡ Idle) e happens.0)
open_apart a b (Returns u reply) lane busy not happens e = not e
open_apart a b (Withdraws u) lane busy not happens e = not e

-- and it happens in other lanes, too, where that lane is about the same
pub happens_as : (a after b : Lanes) (event : Event) → Happens event a after → b (lane_of event) ≡ a (lane_of event) →
    Happens event b (set_of b (lane_of event) (after (lane_of event)))
happens_as a after b (Begins u call) happens same = (same ∙ happens.0, sets_as b u (happens.1.here))
happens_as a after b (Returns u reply) happens same = (same ∙ happens.0, sets_as b u (happens.1.here))
happens_as a after b (Withdraws u) happens same = (happens.0, same ∙ happens.1, sets_as b u (happens.2.here))

pub sets_by : (a after : Lanes) (event : Event) → Happens event a after →
    Sets a after (lane_of event) (after (lane_of event))
sets_by a after event happens = record {
  here = refl;
  others = λ v apart. stays_beside a after event v (λ e. apart (sym e)) happens;
}
