-- Of calls that are alike one takes effect in place of the other.
use Rattle.std.proofs.Common.{◌≡◌, ◌≢◌, ◌⊎◌, ℕ, suc, List, sym, ◌∙◌, ap, subst}
use Rattle.std.proofs.Common.{inl, inr}
use Rattle.std.proofs.lemmas.Bool.{cases_eq}
use Rattle.stamp_core.specs.declared.call.Call.{Call}
use Rattle.stamp_core.specs.declared.reply.Reply.{Reply}
use Rattle.stamp_runs.specs.declared.event.Event.{Event}
use Rattle.stamp_runs.specs.declared.event.Event.TheVariants.{Returns}
use Rattle.stamp_runs.specs.Object.{Object}
use Rattle.stamp_runs.specs.Run.{DoesAs, EndsBy, EndsNever, GoesFirst, Lanes, Phase, ReturnsSooner, Sets}
use Rattle.stamp_runs.specs.Run.{lane_of}
use Rattle.stamp_runs.specs.Run.EndsBy.{ends_next, ends_later}
use Rattle.stamp_runs.specs.Run.GoesFirst.{goes_sooner, goes_endless}
use Rattle.stamp_runs.specs.Run.Phase.{Asks, Gets}
use Rattle.stamp_runs.specs.Run.ReturnsSooner.{sooner_next, sooner_later}
use Rattle.stamp_runs.proofs.Lanes.{asks_or_gets, happens_as, idle_or_asks, idle_or_gets, one_call, open_apart, set_of}
use Rattle.stamp_runs.proofs.Lanes.{sets_by, sets_of, stays_beside}
use Rattle.stamp_runs.proofs.Going.{GoesOnIn, gotten_is_told}
use Rattle.stamp_runs.proofs.Going.GoesOnIn.{at_end, one_effect, one_event}
use Rattle.stamp_runs.proofs.Endless.{never_here, never_later, one_asks_on}

-- the same lanes, but in the one the call of this lane has the reply, in the other that of the second
pub record Twisted (lane than : ℕ) (other : Call) (reply : Reply) (a b : Lanes) : Type 0 where
  pub here : b lane ≡ Gets reply
  pub there : b than ≡ Asks other
  pub others : (v : ℕ) → v ≢ lane → v ≢ than → b v ≡ a v

pub twisted_of : (lanes later sooner : Lanes) (lane than : ℕ) (other : Call) (reply : Reply) → lane ≢ than →
    lanes than ≡ Asks other → Sets lanes later than (Gets reply) → Sets lanes sooner lane (Gets reply) →
    Twisted lane than other reply later sooner
twisted_of lanes later sooner lane than other reply apart asks sets sets_sooner = record {
  here = sets_sooner.here;
  there = sets_sooner.others than (λ e. apart (sym e)) ∙ asks;
  others = λ v not nor. sets_sooner.others v not ∙ sym (sets.others v nor);
}

abbrev pub twist : ℕ → ℕ → Call → Reply → Lanes → Lanes
twist lane than other reply l = set_of (set_of l lane (Gets reply)) than (Asks other)

pub twist_is : (lane than : ℕ) (other : Call) (reply : Reply) (l : Lanes) → lane ≢ than →
    Twisted lane than other reply l (twist lane than other reply l)
twist_is lane than other reply l apart = record {
  here = (sets_of (set_of l lane (Gets reply)) than (Asks other)).others lane apart ∙
      (sets_of l lane (Gets reply)).here;
  there = (sets_of (set_of l lane (Gets reply)) than (Asks other)).here;
  others = λ v one two. (sets_of (set_of l lane (Gets reply)) than (Asks other)).others v two ∙
      (sets_of l lane (Gets reply)).others v one;
}

-- a third lane of both becomes the same
pub twisted_on : {lane than : ℕ} {other : Call} {reply : Reply} {a after b : Lanes} (u : ℕ) {phase : Phase} →
    u ≢ lane → u ≢ than → Sets a after u phase → Twisted lane than other reply a b →
    Twisted lane than other reply after (set_of b u phase)
twisted_on {lane} {than} {other} {reply} {a} {after} {b} u {phase} not nor sets twisted = record {
  here = (sets_of b u phase).others lane (λ e. not (sym e)) ∙ twisted.here;
  there = (sets_of b u phase).others than (λ e. nor (sym e)) ∙ twisted.there;
  others = λ v first second. alike v first second (cases_eq v u);
}
  where
    alike : (v : ℕ) → v ≢ lane → v ≢ than → (v ≡ u) ⊎ (v ≢ u) → set_of b u phase v ≡ after v
    alike v first second (inl e) = subst (λ (w : ℕ). set_of b u phase w ≡ after w) (sym e)
        ((sets_of b u phase).here ∙ sym sets.here)
    alike v first second (inr beyond) = (sets_of b u phase).others v beyond ∙ twisted.others v first second ∙
        sym (sets.others v beyond)

module _ {S : Type 0} (O : Object S) (lane than : ℕ) (call other : Call) (reply : Reply) (does : DoesAs O call other)
    (apart : lane ≢ than) where
  abbrev TwistedSo : Lanes → Lanes → Type 0
  TwistedSo = Twisted lane than other reply

  not_than : (a : Lanes) {u : ℕ} {c : Call} {g : Reply} → a u ≡ Asks c → a than ≡ Gets g → u ≢ than
  not_than a {u} {c} {g} asks gets e = asks_or_gets asks (subst (λ (v : ℕ). a v ≡ Gets g) (sym e) gets)

  does_so : (a : Lanes) {s next : S} {u : ℕ} {c : Call} {r : Reply} → u ≡ lane → a u ≡ Asks c → a lane ≡ Asks call →
      O s c r next → O s other r next
  does_so a {s} {next} {u} {c} {r} here asks_u asks step = does s next r (subst (λ (x : Call). O s x r next)
      (one_call (subst (λ (v : ℕ). a v ≡ Asks c) here asks_u) asks) step)

  -- the one that returns sooner
  pub sooner_first : {n : ℕ} {events : List Event} {s : S} {a : Lanes} → a lane ≡ Asks call → a than ≡ Gets reply →
      EndsBy lane (Returns lane reply) events → ReturnsSooner lane than events → GoesOnIn O n events s a → (b : Lanes)
      → TwistedSo a b → GoesOnIn O n events s b
  sooner_first asks gets tells sooner at_end b twisted = at_end
  sooner_first {s = s} {a} asks gets tells sooner (one_effect {n = n} {events = events} {next = next} {after = after} u
      c r asks_u step sets rest) b twisted = by (cases_eq u lane)
      (λ not. sooner_first (sets.others lane (λ e. not (sym e)) ∙ asks)
      (sets.others than (λ e. not_than a asks_u gets (sym e)) ∙ gets) tells sooner rest (set_of b u (Gets r))
      (twisted_on u not (not_than a asks_u gets) sets twisted))
    where
      by : (u ≡ lane) ⊎ (u ≢ lane) → (u ≢ lane → GoesOnIn O n events next (set_of b u (Gets r))) →
          GoesOnIn O (suc n) events s b
      by (inr not) more = one_effect u c r (twisted.others u not (not_than a asks_u gets) ∙ asks_u) step
          (sets_of b u (Gets r)) (more not)
      by (inl here) more = one_effect than other reply twisted.there
          (subst (λ (x : Reply). O s other x next) told (does_so a here asks_u asks step)) (record {
            here = sets.others than (λ e. not_than a asks_u gets (sym e)) ∙ gets;
            others = λ v beyond. alike v beyond (cases_eq v lane);
          }) rest
        where
          gets_u : after lane ≡ Gets r
          gets_u = subst (λ (v : ℕ). after v ≡ Gets r) here sets.here

          told : r ≡ reply
          told = gotten_is_told O lane r reply gets_u tells rest

          alike : (v : ℕ) → v ≢ than → (v ≡ lane) ⊎ (v ≢ lane) → after v ≡ b v
          alike v beyond (inl e) = subst (λ (w : ℕ). after w ≡ b w) (sym e) (gets_u ∙ ap Gets told ∙ sym twisted.here)
          alike v beyond (inr not) = sets.others v (λ e. not (e ∙ here)) ∙ sym (twisted.others v not beyond)
  sooner_first asks gets ends_next sooner (one_event event happens rest) b twisted =
      absurd (asks_or_gets asks happens.0)
  sooner_first asks gets (ends_later itself not tells) (sooner_next answer) (one_event event happens rest) b twisted =
      absurd (asks_or_gets asks happens.0)
  sooner_first {a = a} asks gets (ends_later itself not tells) (sooner_later too nor nor_than sooner)
      (one_event {after = after} event happens rest) b twisted = one_event event
      (happens_as a after b event happens (twisted.others (lane_of event) first second))
      (sooner_first (stays_beside a after event lane first happens ∙ asks)
      (stays_beside a after event than second happens ∙ gets) tells sooner rest
      (set_of b (lane_of event) (after (lane_of event)))
      (twisted_on (lane_of event) first second (sets_by a after event happens) twisted))
    where
      first : lane_of event ≢ lane
      first = open_apart a after event lane (λ idle. idle_or_asks idle asks) nor happens

      second : lane_of event ≢ than
      second = open_apart a after event than (λ idle. idle_or_gets idle gets) nor_than happens

  -- neither ends
  pub endless_first : {n : ℕ} {events : List Event} {s : S} {a : Lanes} (gotten : Reply) → a lane ≡ Asks call →
      a than ≡ Gets gotten → EndsNever lane events → EndsNever than events → GoesOnIn O n events s a → (b : Lanes) →
      TwistedSo a b → GoesOnIn O n events s b
  endless_first gotten asks gets never nor_than at_end b twisted = at_end
  endless_first {s = s} {a} gotten asks gets never nor_than (one_effect {n = n} {events = events} {next = next}
      {after = after} u c r asks_u step sets rest) b twisted = by (cases_eq u lane)
      (λ not. endless_first gotten (sets.others lane (λ e. not (sym e)) ∙ asks)
      (sets.others than (λ e. not_than a asks_u gets (sym e)) ∙ gets) never nor_than rest (set_of b u (Gets r))
      (twisted_on u not (not_than a asks_u gets) sets twisted))
    where
      by : (u ≡ lane) ⊎ (u ≢ lane) → (u ≢ lane → GoesOnIn O n events next (set_of b u (Gets r))) →
          GoesOnIn O (suc n) events s b
      by (inr not) more = one_effect u c r (twisted.others u not (not_than a asks_u gets) ∙ asks_u) step
          (sets_of b u (Gets r)) (more not)
      by (inl here) more = one_effect than other r twisted.there (does_so a here asks_u asks step)
          (sets_of b than (Gets r)) (one_asks_on O than gotten (Gets r) (sets_m.others than (λ e. apart (sym e)) ∙
          sets.others than (λ e. not_than a asks_u gets (sym e)) ∙ gets) nor_than
          (one_asks_on O lane r (Gets reply) (subst (λ (v : ℕ). after v ≡ Gets r) here sets.here) never rest m sets_m)
          (set_of b than (Gets r)) (record {
            here = (sets_of b than (Gets r)).here;
            others = λ v beyond. (sets_of b than (Gets r)).others v beyond ∙ alike v beyond (cases_eq v lane);
          }))
        where
          m : Lanes
          m = set_of after lane (Gets reply)

          sets_m : Sets after m lane (Gets reply)
          sets_m = sets_of after lane (Gets reply)

          alike : (v : ℕ) → v ≢ than → (v ≡ lane) ⊎ (v ≢ lane) → b v ≡ m v
          alike v beyond (inl e) = subst (λ (w : ℕ). b w ≡ m w) (sym e) (twisted.here ∙ sym sets_m.here)
          alike v beyond (inr not) = twisted.others v not beyond ∙ sym (sets.others v (λ e. not (e ∙ here))) ∙
              sym (sets_m.others v not)
  endless_first {a = a} gotten asks gets never nor_than (one_event {events = events} {after = after} event happens
      rest) b twisted =
      one_event event (happens_as a after b event happens (twisted.others (lane_of event) first second))
      (endless_first gotten (stays_beside a after event lane first happens ∙ asks)
      (stays_beside a after event than second happens ∙ gets) (never_later event events lane never) (never_later event
      events than nor_than) rest (set_of b (lane_of event) (after (lane_of event)))
      (twisted_on (lane_of event) first second (sets_by a after event happens) twisted))
    where
      first : lane_of event ≢ lane
      first = open_apart a after event lane (λ idle. idle_or_asks idle asks) (never_here event events lane never)
          happens

      second : lane_of event ≢ than
      second = open_apart a after event than (λ idle. idle_or_gets idle gets) (never_here event events than nor_than)
          happens

  pub alike_first : {n : ℕ} {events : List Event} {s : S} {a : Lanes} → a lane ≡ Asks call → a than ≡ Gets reply →
      GoesFirst lane than reply events → GoesOnIn O n events s a → (b : Lanes) → TwistedSo a b →
      GoesOnIn O n events s b
  alike_first asks gets (goes_sooner tells sooner) way b twisted = sooner_first asks gets tells sooner way b twisted
  alike_first asks gets (goes_endless never nor) way b twisted = endless_first reply asks gets never nor way b twisted
