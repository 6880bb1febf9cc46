-- Free calls that are hidden before an overwriting one.
use Rattle.std.proofs.Common.{◌≡◌, ◌≢◌, ◌⊎◌, ℕ, Bool, true, false, List, [], ◌∷◌, ◌++◌, Option, Some, None, refl, sym}
use Rattle.std.proofs.Common.{◌∙◌, ap, subst, inl, inr, append-nil}
use Rattle.std.specs.Prelude.{map}
use Rattle.std.proofs.lemmas.Bool.{cases_eq}
use Rattle.stamp_core.specs.declared.call.Call.{Call}
use Rattle.stamp_core.specs.declared.reply.Reply.{Reply}
use Rattle.stamp_runs.specs.Object.{Object}
use Rattle.stamp_runs.specs.declared.event.Event.{Event}
use Rattle.stamp_runs.specs.Run.{Lanes, Leads, Phase, Sets}
use Rattle.stamp_runs.specs.Run.Leads.{leads_nowhere, by_effect}
use Rattle.stamp_runs.specs.Run.Phase.{Asks, Gets}
use Rattle.stamp_runs.specs.Position.{Hidden, Overwrites}
use Rattle.stamp_runs.specs.Position.Hidden.{no_more, overwrites, sees}
use Rattle.stamp_runs.specs.Trace.{LeadsBy, hidden_calls, taken_at}
use Rattle.stamp_runs.specs.Trace.LeadsBy.{led_nowhere, by_taken}
use Rattle.stamp_runs.proofs.Ordering.{leads_of}
use Rattle.stamp_runs.proofs.Lanes.{asks_or_gets, leads_on, set_of, sets_of, sets_alike, sets_swapped, true_or_false}

-- a state as that of the last hidden call, if there was one
abbrev pub IsAt : {S : Type 0} → Option S → S → Type 0
IsAt None s = Unit {0}
IsAt (Some t) s = s ≡ t

module _ {S : Type 0} (O : Object S) where
  -- one more effect
  pub one_more : {past : List Event} {start s next : S} {first lanes after : Lanes} (lane : ℕ) (call : Call)
      (reply : Reply) → lanes lane ≡ Asks call → O s call reply next → Sets lanes after lane (Gets reply) →
      Leads O past start first s lanes → Leads O past start first next after
  one_more {past} {start} {next = next} {first = first} {after = after} lane call reply asks step sets way =
      subst (λ (events : List Event). Leads O events start first next after) (append-nil past)
      (leads_on way (by_effect lane call reply asks step sets leads_nowhere))

  -- what is in effect stays so
  pub stays_in_effect : {free : ℕ → Bool} {at : Option S} {a l : Lanes} (v : ℕ) (r : Reply) → Hidden O free at a l →
      a v ≡ Gets r → l v ≡ Gets r
  stays_in_effect v r no_more gets = gets
  stays_in_effect {a = a} v r (overwrites lane call reply t free asks over sets rest) gets = stays_in_effect v r rest
      (sets.others v (λ e. asks_or_gets asks (subst (λ (w : ℕ). a w ≡ Gets r) e gets)) ∙ gets)
  stays_in_effect {a = a} v r (sees lane call reply free asks step sets rest) gets = stays_in_effect v r rest
      (sets.others v (λ e. asks_or_gets asks (subst (λ (w : ℕ). a w ≡ Gets r) e gets)) ∙ gets)

  -- all calls that are hidden before an overwriting one take effect before it, in their order
  pub hidden_take : {free : ℕ → Bool} (n lane : ℕ) (call : Call) (reply : Reply) (t : S) → Overwrites O call reply t →
      free lane ≡ false → {at : Option S} {a' last : Lanes} → (hidden : Hidden O free at a' last) → (s : S) →
      IsAt at s → (a : Lanes) → a lane ≡ Asks call → Sets a a' lane (Gets reply) →
      LeadsBy O n (map (taken_at n) (hidden_calls hidden) ++ taken_at n (lane, reply) ∷ []) [] s a t last
  hidden_take n lane call reply t over apart no_more s at a asks sets =
      by_taken lane call reply asks (over.may s) sets led_nowhere
  hidden_take {free} n lane call reply t over apart {a' = a'} (overwrites {after = after} u c r v free_u asks_u over_u
      sets_u rest) s at a asks sets =
      by_taken u c r (sym (sets.others u other) ∙ asks_u) (over_u.may s) (sets_of a u (Gets r))
      (hidden_take n lane call reply t over apart rest v refl
      (set_of a u (Gets r)) ((sets_of a u (Gets r)).others lane (λ e. other (sym e)) ∙ asks)
      (sets_swapped a a' (set_of a u (Gets r)) after lane u (Gets reply) (Gets r) (λ e. other (sym e)) sets
      (sets_of a u (Gets r)) sets_u))
    where
      other : u ≢ lane
      other e = true_or_false (subst (λ (w : ℕ). free w ≡ true) e free_u) apart
  hidden_take {free} n lane call reply t over apart {a' = a'} (sees {after = after} {t = v} u c r free_u asks_u step
      sets_u rest) s at a asks sets =
      by_taken u c r (sym (sets.others u other) ∙ asks_u) (subst (λ (w : S). O w c r v) (sym at) step)
      (sets_of a u (Gets r)) (hidden_take n lane call reply t over apart rest v refl
      (set_of a u (Gets r)) ((sets_of a u (Gets r)).others lane (λ e. other (sym e)) ∙ asks)
      (sets_swapped a a' (set_of a u (Gets r)) after lane u (Gets reply) (Gets r) (λ e. other (sym e)) sets
      (sets_of a u (Gets r)) sets_u))
    where
      other : u ≢ lane
      other e = true_or_false (subst (λ (w : ℕ). free w ≡ true) e free_u) apart

  pub hidden_leads : {past : List Event} {start : S} {first : Lanes} {free : ℕ → Bool} (lane : ℕ) (call : Call)
      (reply : Reply) (t : S) → Overwrites O call reply t → free lane ≡ false → {at : Option S} {a' last : Lanes} →
      Hidden O free at a' last → (s : S) → IsAt at s → (a : Lanes) → a lane ≡ Asks call →
      Sets a a' lane (Gets reply) → Leads O past start first s a → Leads O past start first t last
  hidden_leads {past} {start} {first} lane call reply t over apart {last = last} hidden s at a asks sets way =
      subst (λ (events : List Event). Leads O events start first t last) (append-nil past)
      (leads_on way (leads_of O (hidden_take 0 lane call reply t over apart hidden s at a asks sets)))

  -- the lane is not free, or its call is not in effect in the end: then what it is about makes no difference to what
  -- is hidden
  pub also_beside : {free then_free : ℕ → Bool} (lane : ℕ) →
      ((other : ℕ) → other ≢ lane → free other ≡ true → then_free other ≡ true) → {at : Option S} {a l : Lanes} →
      (hidden : Hidden O free at a l) → ((r : Reply) → free lane ≡ true → l lane ≡ Gets r → ⊥) → (phase : Phase)
      (a' l' : Lanes) → Sets a a' lane phase → Sets l l' lane phase →
      (also : Hidden O then_free at a' l') × (hidden_calls also ≡ hidden_calls hidden)
  also_beside {then_free = then_free} lane more {at} {a = a} no_more not phase a' l' sets sets_l =
      subst (λ (m : Lanes). (also : Hidden O then_free at a' m) × (hidden_calls also ≡ []))
      (sets_alike a a' l' lane phase sets sets_l) (no_more, refl)
  also_beside {free} lane more {a = a} {l = l} (overwrites {after = after} u c r v free_u asks_u over_u sets_u rest)
      not phase a' l' sets sets_l = let on = also_beside lane more rest not phase (set_of after lane phase) l'
      (sets_of after lane phase) sets_l in (
        overwrites u c r v (more u other free_u) (sets.others u other ∙ asks_u) over_u
            (sets_swapped a after a' (set_of after lane phase) u lane (Gets r) phase other sets_u sets
            (sets_of after lane phase)) on.0,
        ap (λ (calls : List (ℕ × Reply)). (u, r) ∷ calls) on.1,
      )
    where
      other : u ≢ lane
      other e = not r (subst (λ (w : ℕ). free w ≡ true) e free_u)
          (subst (λ (w : ℕ). l w ≡ Gets r) e (stays_in_effect u r rest sets_u.here))
  also_beside {free} lane more {a = a} {l = l} (sees {after = after} u c r free_u asks_u step sets_u rest)
      not phase a' l' sets sets_l = let on = also_beside lane more rest not phase (set_of after lane phase) l'
      (sets_of after lane phase) sets_l in (
        sees u c r (more u other free_u) (sets.others u other ∙ asks_u) step
            (sets_swapped a after a' (set_of after lane phase) u lane (Gets r) phase other sets_u sets
            (sets_of after lane phase)) on.0,
        ap (λ (calls : List (ℕ × Reply)). (u, r) ∷ calls) on.1,
      )
    where
      other : u ≢ lane
      other e = not r (subst (λ (w : ℕ). free w ≡ true) e free_u)
          (subst (λ (w : ℕ). l w ≡ Gets r) e (stays_in_effect u r rest sets_u.here))

  pub hidden_beside : {free then_free : ℕ → Bool} (lane : ℕ) →
      ((other : ℕ) → other ≢ lane → free other ≡ true → then_free other ≡ true) → {at : Option S} {a l : Lanes} →
      Hidden O free at a l → ((r : Reply) → free lane ≡ true → l lane ≡ Gets r → ⊥) → (phase : Phase)
      (a' l' : Lanes) → Sets a a' lane phase → Sets l l' lane phase → Hidden O then_free at a' l'
  hidden_beside lane more hidden not phase a' l' sets sets_l =
      (also_beside lane more hidden not phase a' l' sets sets_l).0

  -- what is hidden took effect in calls that asked
  pub asked_before : {free : ℕ → Bool} {at : Option S} {a l : Lanes} (v : ℕ) (c : Call) → Hidden O free at a l →
      l v ≡ Asks c → a v ≡ Asks c
  asked_before v c no_more asks = asks
  asked_before {l = l} v c (overwrites {after = after} lane call reply t free asks over sets rest) asks_v =
      sym (sets.others v (λ e. asks_or_gets (asked_before v c rest asks_v)
      (subst (λ (w : ℕ). after w ≡ Gets reply) (sym e) sets.here))) ∙ asked_before v c rest asks_v
  asked_before {l = l} v c (sees {after = after} lane call reply free asks step sets rest) asks_v =
      sym (sets.others v (λ e. asks_or_gets (asked_before v c rest asks_v)
      (subst (λ (w : ℕ). after w ≡ Gets reply) (sym e) sets.here))) ∙ asked_before v c rest asks_v

  -- the state from which it goes makes no difference where it begins with a call that overwrites
  pub from_any : {free : ℕ → Bool} {a l : Lanes} (at : Option S) → Hidden O free None a l → Hidden O free at a l
  from_any at no_more = no_more
  from_any at (overwrites lane call reply t free asks over sets rest) =
      overwrites lane call reply t free asks over sets rest

  pub with_more : {free then_free : ℕ → Bool} → ((v : ℕ) → free v ≡ true → then_free v ≡ true) → {at : Option S}
      {a l : Lanes} → Hidden O free at a l → Hidden O then_free at a l
  with_more more no_more = no_more
  with_more more (overwrites lane call reply t free asks over sets rest) =
      overwrites lane call reply t (more lane free) asks over sets (with_more more rest)
  with_more more (sees lane call reply free asks step sets rest) =
      sees lane call reply (more lane free) asks step sets (with_more more rest)

  -- calls that are hidden, and others after them
  pub hidden_on : {free : ℕ → Bool} {at : Option S} {a b l : Lanes} → Hidden O free at a b → Hidden O free None b l →
      Hidden O free at a l
  hidden_on {at = at} no_more later = from_any at later
  hidden_on (overwrites lane call reply t free asks over sets rest) later =
      overwrites lane call reply t free asks over sets (hidden_on rest later)
  hidden_on (sees lane call reply free asks step sets rest) later =
      sees lane call reply free asks step sets (hidden_on rest later)

  -- those are the same calls, in their order
  same_from_any : {free : ℕ → Bool} {a l : Lanes} (at : Option S) (hidden : Hidden O free None a l) →
      hidden_calls (from_any at hidden) ≡ hidden_calls hidden
  unfolding from_any
  same_from_any at no_more = refl
  same_from_any at (overwrites lane call reply t free asks over sets rest) = refl

  same_with_more : {free then_free : ℕ → Bool} (more : (v : ℕ) → free v ≡ true → then_free v ≡ true) {at : Option S}
      {a l : Lanes} (hidden : Hidden O free at a l) → hidden_calls (with_more more hidden) ≡ hidden_calls hidden
  unfolding with_more
  same_with_more more no_more = refl
  same_with_more more (overwrites lane call reply t free asks over sets rest) =
      ap (λ (calls : List (ℕ × Reply)). (lane, reply) ∷ calls) (same_with_more more rest)
  same_with_more more (sees lane call reply free asks step sets rest) =
      ap (λ (calls : List (ℕ × Reply)). (lane, reply) ∷ calls) (same_with_more more rest)

  pub calls_on : {free then_free : ℕ → Bool} (more : (v : ℕ) → then_free v ≡ true → free v ≡ true) {at : Option S}
      {a b l : Lanes} (hidden : Hidden O free at a b) (later : Hidden O then_free None b l) →
      hidden_calls (hidden_on hidden (with_more more later)) ≡ hidden_calls hidden ++ hidden_calls later
  unfolding hidden_on
  calls_on more {at} no_more later = same_from_any at (with_more more later) ∙ same_with_more more later
  calls_on more (overwrites lane call reply t free asks over sets rest) later =
      ap (λ (calls : List (ℕ × Reply)). (lane, reply) ∷ calls) (calls_on more rest later)
  calls_on more (sees lane call reply free asks step sets rest) later =
      ap (λ (calls : List (ℕ × Reply)). (lane, reply) ∷ calls) (calls_on more rest later)

  -- each free call that asks overwrites
  abbrev pub EachOverwrites : (ℕ → Bool) → Lanes → Type 0
  EachOverwrites free a = (v : ℕ) → free v ≡ true → (c : Call) → a v ≡ Asks c →
      (r : Reply) × (t : S) × Overwrites O c r t

  still_each : {free : ℕ → Bool} {a after : Lanes} (u : ℕ) (r : Reply) → EachOverwrites free a →
      Sets a after u (Gets r) → EachOverwrites free after
  still_each {a = a} {after = after} u r each sets v free c asks = each v free c (sym (sets.others v (λ e.
      asks_or_gets asks (subst (λ (w : ℕ). after w ≡ Gets r) (sym e) sets.here))) ∙ asks)

  -- where all free calls overwrite, the one of a lane may be hidden first
  pub hidden_first : {free then_free : ℕ → Bool} (lane : ℕ) (reply : Reply) →
      ((v : ℕ) → v ≢ lane → free v ≡ true → then_free v ≡ true) → {at : Option S} {a l : Lanes} →
      Hidden O free at a l → EachOverwrites free a → l lane ≡ Gets reply → (a' : Lanes) →
      Sets a a' lane (Gets reply) → Hidden O then_free None a' l
  hidden_first {then_free = then_free} lane reply more {a = a} no_more each gets a' sets =
      subst (λ (m : Lanes). Hidden O then_free None a' m)
      (sets_alike a a' a lane (Gets reply) sets (record { here = gets; others = λ v apart. refl })) no_more
  hidden_first {free} {then_free} lane reply more {a = a} {l = l} (overwrites {after = after} u c r v free_u asks over
      sets_u rest) each gets a' sets = by (cases_eq u lane) (hidden_first lane reply more rest
      (still_each u r each sets_u) gets (set_of after lane (Gets reply)) (sets_of after lane (Gets reply)))
      (λ sets'. hidden_first lane reply more rest (still_each u r each sets_u) gets a' sets')
    where
      by : (u ≡ lane) ⊎ (u ≢ lane) → Hidden O then_free None (set_of after lane (Gets reply)) l →
          (Sets after a' lane (Gets reply) → Hidden O then_free None a' l) → Hidden O then_free None a' l
      by (inr apart) on it = overwrites u c r v (more u apart free_u) (sets.others u apart ∙ asks) over
          (sets_swapped a after a' (set_of after lane (Gets reply)) u lane (Gets r) (Gets reply) apart sets_u sets
          (sets_of after lane (Gets reply))) (from_any (Some v) on)
      by (inl same) on it = it (record {
        here = sets.here;
        others = λ v apart. sets.others v apart ∙ sym (sets_u.others v (λ e. apart (e ∙ same)));
      })
  hidden_first {free} {then_free} lane reply more {a = a} {l = l} (sees {after = after} {t = t} u c r free_u asks step
      sets_u rest) each gets a' sets = by (cases_eq u lane) (hidden_first lane reply more rest
      (still_each u r each sets_u) gets (set_of after lane (Gets reply)) (sets_of after lane (Gets reply)))
      (λ sets'. hidden_first lane reply more rest (still_each u r each sets_u) gets a' sets')
    where
      over : Overwrites O c r t
      over = subst (λ (w : S). Overwrites O c r w) (sym ((each u free_u c asks).2.leaves t t r step))
          (subst (λ (w : Reply). Overwrites O c w (each u free_u c asks).1)
          (sym ((each u free_u c asks).2.answer t t r step)) (each u free_u c asks).2)

      by : (u ≡ lane) ⊎ (u ≢ lane) → Hidden O then_free None (set_of after lane (Gets reply)) l →
          (Sets after a' lane (Gets reply) → Hidden O then_free None a' l) → Hidden O then_free None a' l
      by (inr apart) on it = overwrites u c r t (more u apart free_u) (sets.others u apart ∙ asks) over
          (sets_swapped a after a' (set_of after lane (Gets reply)) u lane (Gets r) (Gets reply) apart sets_u sets
          (sets_of after lane (Gets reply))) (from_any (Some t) on)
      by (inl same) on it = it (record {
        here = sets.here;
        others = λ v apart. sets.others v apart ∙ sym (sets_u.others v (λ e. apart (e ∙ same)));
      })
