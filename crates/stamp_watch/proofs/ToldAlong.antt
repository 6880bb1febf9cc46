-- What is so of each configuration to which the events of a run lead.
use Rattle.std.proofs.Common.{◌≡◌, ◌≢◌, ◌⊎◌, ◌+◌, ◌<◌, ◌≤◌, ℕ, List, [], ◌∷◌, ◌++◌, Some, refl, sym, ◌∙◌, ap, subst}
use Rattle.std.proofs.Common.{inl, inr, arith, append_assoc, append-nil}
use Rattle.std.specs.List.{Contains}
use Rattle.std.proofs.lemmas.Bool.{cases_eq}
use Rattle.std.proofs.lemmas.List.Elements.{Contains-append_left, Contains-push, Contains-push_cases}
use Rattle.stamp_core.specs.LockEvent.{write_count}
use Rattle.stamp_core.specs.IsWellFormed.{IsWellFormed}
use Rattle.stamp_core.specs.Limits.{AreInRange, Bounds, units}
use Rattle.stamp_core.specs.Stamp.{IsStamp, write_stamp}
use Rattle.stamp_core.specs.declared.call.Call.{Call}
use Rattle.stamp_core.specs.declared.reply.Reply.{Reply}
use Rattle.stamp_core.specs.declared.reply.Reply.TheVariants.{Stamp}
use Rattle.stamp_core.proofs.WellFormedPush.{obeys_now, well_formed_none}
use Rattle.stamp_runs.specs.BothRun.{Both, State, start}
use Rattle.stamp_runs.specs.Run.{Happens, Lanes, Leads, Phase, Sets, all_idle, lane_of}
use Rattle.stamp_runs.specs.Run.Leads.{by_effect, by_event, leads_nowhere}
use Rattle.stamp_runs.specs.Run.Phase.{Asks, Gets, Idle}
use Rattle.stamp_runs.specs.declared.event.Event.{Event}
use Rattle.stamp_runs.specs.declared.event.Event.TheVariants.{Begins, Returns, Withdraws}
use Rattle.stamp_runs.proofs.Lanes.{asks_or_gets, idle_or_asks, idle_or_gets, one_call, one_reply, stays_beside}
use Rattle.stamp_watch.specs.declared.candidates.Issued.TheVariants.{OfWriter}
use Rattle.stamp_watch.specs.inner.Candidates.{AreTelling, IsOpen, Tells, stamps_given}
use Rattle.stamp_watch.proofs.BeginningLate.{version_stays}
use Rattle.stamp_watch.proofs.Giving.{StepGives, step_gives}
use Rattle.stamp_watch.proofs.OpenCalls.{open_next, open_on}
use Rattle.stamp_watch.proofs.TellingVersions.{one_version, stamp_some}

module _ (limits : Bounds) where
  pub telling_more : (k : ℕ) (past : List Event) (e : Event) → AreTelling limits k past →
      AreTelling limits k (past ++ e ∷ [])
  telling_more k past e is = record {
    event = is.event;
    among = Contains-append_left past (e ∷ []) is.event is.among;
    tells = is.tells;
  }

  pub telling_last : (k : ℕ) (past : List Event) (e : Event) → Tells limits k e → AreTelling limits k (past ++ e ∷ [])
  telling_last k past e tells = record { event = e; among = Contains-push past e; tells = tells }

  pub telling_cases : (k : ℕ) (past : List Event) (e : Event) → AreTelling limits k (past ++ e ∷ []) →
      AreTelling limits k past ⊎ Tells limits k e
  telling_cases k past e is = by (Contains-push_cases past e is.event is.among)
    where
      by : Contains past is.event ⊎ (e ≡ is.event) → AreTelling limits k past ⊎ Tells limits k e
      by (inl among) = inl (record { event = is.event; among = among; tells = is.tells })
      by (inr same) = inr (subst (Tells limits k) (sym same) is.tells)

  -- the stamp of a reply is of a version that there was
  abbrev pub IsPast : State → Reply → Type 0
  IsPast s reply = (stamp : ℕ) → reply ≡ Stamp stamp →
      (stamp ≡ 0) ⊎ ((k : ℕ) × (k ≤ write_count s.0) × IsStamp (units limits) k stamp)

  -- a call in effect
  pub record InEffect (past : List Event) (s : State) (lane : ℕ) (reply : Reply) : Type 0 where
    pub call : Call
    pub there : IsOpen past lane call
    pub valid : IsPast s reply

  -- the call that acquired this version is in effect
  pub record Holds (past : List Event) (lanes : Lanes) (version : ℕ) : Type 0 where
    pub lane : ℕ
    pub call : Call
    pub there : IsOpen past lane call
    pub writes : stamps_given call ≡ Some OfWriter
    pub gets : lanes lane ≡ Gets (Stamp (write_stamp (units limits) version))

  -- behind these events a configuration stands so: no version that was told is newer than the lock's, and each version
  -- that the lock had was told, or the call that acquired it is in effect
  pub record Stands (past : List Event) (s : State) (lanes : Lanes) : Type 0 where
    pub well_formed : IsWellFormed limits s.0
    pub asks : (lane : ℕ) (call : Call) → lanes lane ≡ Asks call → IsOpen past lane call
    pub gets : (lane : ℕ) (reply : Reply) → lanes lane ≡ Gets reply → InEffect past s lane reply
    pub told : (k : ℕ) → AreTelling limits k past → k ≤ write_count s.0
    pub issued : (k : ℕ) → 1 ≤ k → k ≤ write_count s.0 → AreTelling limits k past ⊎ Holds past lanes k

  pub stands_first : Stands [] start all_idle
  stands_first = record {
    well_formed = well_formed_none;
    asks = λ lane call asks. absurd (idle_or_asks refl asks);
    gets = λ lane reply gets. absurd (idle_or_gets refl gets);
    told = λ k is. absurd (let few = is.among.1 in omega (arith, few));
    issued = λ k some most. absurd (omega (arith, some, most));
  }

  past_on : (s next : State) (reply : Reply) → write_count s.0 ≤ write_count next.0 → IsPast s reply →
      IsPast next reply
  past_on s next reply least valid stamp is = by (valid stamp is)
    where
      by : (stamp ≡ 0) ⊎ ((k : ℕ) × (k ≤ write_count s.0) × IsStamp (units limits) k stamp) →
          (stamp ≡ 0) ⊎ ((k : ℕ) × (k ≤ write_count next.0) × IsStamp (units limits) k stamp)
      by (inl none) = inl none
      by (inr of) = inr (of.0, (let less : of.0 ≤ write_count s.0 = of.1 in omega (arith, less, least)), of.2)

  module _ (range : AreInRange limits) where
    -- where a call takes effect
    module _ (past : List Event) (s next : State) (lanes after : Lanes) (lane : ℕ) (call : Call) (reply : Reply)
        (stands : Stands past s lanes) (asks : lanes lane ≡ Asks call) (step : Both limits s call reply next)
        (sets : Sets lanes after lane (Gets reply)) where
      gives : StepGives limits s next call reply
      gives = step_gives limits range s next call reply stands.well_formed step

      least : write_count s.0 ≤ write_count next.0
      least = version_stays limits s next call reply step

      valid_now : IsPast next reply
      valid_now stamp is = by (gives.valid stamp is)
        where
          by : (stamp ≡ 0) ⊎ IsStamp (units limits) (write_count next.0) stamp →
              (stamp ≡ 0) ⊎ ((k : ℕ) × (k ≤ write_count next.0) × IsStamp (units limits) k stamp)
          by (inl none) = inl none
          by (inr of) = inr (write_count next.0, omega arith, of)

      still_asks : (v : ℕ) (c : Call) → after v ≡ Asks c → (v ≡ lane) ⊎ (v ≢ lane) → IsOpen past v c
      still_asks v c is (inl same) =
          absurd (asks_or_gets is (subst (λ (w : ℕ). after w ≡ Gets reply) (sym same) sets.here))
      still_asks v c is (inr apart) = stands.asks v c (sym (sets.others v apart) ∙ is)

      in_effect : (v : ℕ) (r : Reply) → after v ≡ Gets r → (v ≡ lane) ⊎ (v ≢ lane) → InEffect past next v r
      in_effect v r is (inl same) = record {
        call = call;
        there = subst (λ (w : ℕ). IsOpen past w call) (sym same) (stands.asks lane call asks);
        valid = subst (IsPast next) (one_reply sets.here (subst (λ (w : ℕ). after w ≡ Gets r) same is)) valid_now;
      }
      in_effect v r is (inr apart) =
          let was : InEffect past s v r = stands.gets v r (sym (sets.others v apart) ∙ is) in
          record { call = was.call; there = was.there; valid = past_on s next r least was.valid }

      still_holds : (k : ℕ) → AreTelling limits k past ⊎ Holds past lanes k →
          AreTelling limits k past ⊎ Holds past after k
      still_holds k (inl told) = inl told
      still_holds k (inr held) = inr (record {
        lane = held.lane;
        call = held.call;
        there = held.there;
        writes = held.writes;
        gets = sets.others held.lane (λ same. asks_or_gets asks (subst (λ (w : ℕ). lanes w ≡ Gets (Stamp (write_stamp
            (units limits) k))) same held.gets)) ∙ held.gets;
      })

      issued_now : (k : ℕ) → 1 ≤ k → k ≤ write_count next.0 → AreTelling limits k past ⊎ Holds past after k
      issued_now k some most = by gives.writes
        where
          old : k ≤ write_count s.0 → AreTelling limits k past ⊎ Holds past after k
          old less = still_holds k (stands.issued k some less)

          at_last : stamps_given call ≡ Some OfWriter →
              reply ≡ Stamp (write_stamp (units limits) (write_count next.0)) → k ≡ write_count next.0 →
              Holds past after k
          at_last writes is same = record {
            lane = lane;
            call = call;
            there = stands.asks lane call asks;
            writes = writes;
            gets = sets.here ∙ ap Gets (is ∙ ap (λ (n : ℕ). Stamp (write_stamp (units limits) n)) (sym same));
          }

          new : write_count next.0 ≡ write_count s.0 + 1 → stamps_given call ≡ Some OfWriter →
              reply ≡ Stamp (write_stamp (units limits) (write_count next.0)) →
              (k ≤ write_count s.0) ⊎ (k ≡ write_count next.0) → AreTelling limits k past ⊎ Holds past after k
          new one writes is (inl less) = old less
          new one writes is (inr same) = inr (at_last writes is same)

          either : write_count next.0 ≡ write_count s.0 + 1 → (k ≤ write_count s.0) ⊎ (k ≡ write_count next.0)
          either one = grind (arith, one, most)

          by : (write_count next.0 ≡ write_count s.0) ⊎ ((write_count next.0 ≡ write_count s.0 + 1) ×
              (stamps_given call ≡ Some OfWriter) ×
              (reply ≡ Stamp (write_stamp (units limits) (write_count next.0)))) →
              AreTelling limits k past ⊎ Holds past after k
          by (inl same) = old (omega (arith, most, same))
          by (inr one) = new one.0 one.1 one.2 (either one.0)

      pub stands_effect : Stands past next after
      stands_effect = record {
        well_formed = gives.well_formed;
        asks = λ v c is. still_asks v c is (cases_eq v lane);
        gets = λ v r is. in_effect v r is (cases_eq v lane);
        told = λ k is. let was : k ≤ write_count s.0 = stands.told k is in omega (arith, was, least);
        issued = issued_now;
      }

    -- where an event comes
    module _ (past : List Event) (s : State) (lanes after : Lanes) (event : Event) (stands : Stands past s lanes)
        (happens : Happens event lanes after) where
      asks_beside : (v : ℕ) (c : Call) → after v ≡ Asks c → v ≢ lane_of event → IsOpen (past ++ event ∷ []) v c
      asks_beside v c is apart = open_on past event v c (λ same. apart (sym same))
          (stands.asks v c (sym (stays_beside lanes after event v (λ same. apart (sym same)) happens) ∙ is))

      gets_beside : (v : ℕ) (r : Reply) → after v ≡ Gets r → v ≢ lane_of event →
          InEffect (past ++ event ∷ []) s v r
      gets_beside v r is apart =
          let was : InEffect past s v r = stands.gets v r
          (sym (stays_beside lanes after event v (λ same. apart (sym same)) happens) ∙ is) in record {
            call = was.call;
            there = open_on past event v was.call (λ same. apart (sym same)) was.there;
            valid = was.valid;
          }

      holds_beside : (k : ℕ) → (held : Holds past lanes k) → held.lane ≢ lane_of event →
          Holds (past ++ event ∷ []) after k
      holds_beside k held apart = record {
        lane = held.lane;
        call = held.call;
        there = open_on past event held.lane held.call (λ same. apart (sym same)) held.there;
        writes = held.writes;
        gets = stays_beside lanes after event held.lane (λ same. apart (sym same)) happens ∙ held.gets;
      }

    here : (a : Lanes) (phase : Phase) (v lane : ℕ) → v ≡ lane → a lane ≡ phase → a v ≡ phase
    here a phase v lane same = subst (λ (w : ℕ). a w ≡ phase) (sym same)

    pub stands_event : (past : List Event) (s : State) (lanes after : Lanes) (event : Event) → Stands past s lanes →
        Happens event lanes after → Stands (past ++ event ∷ []) s after
    stands_event past s lanes after (Begins lane call) stands happens = record {
      well_formed = stands.well_formed;
      asks = λ v c is. asks v c is (cases_eq v lane);
      gets = λ v r is. gets v r is (cases_eq v lane);
      told = λ k is. told k (telling_cases k past (Begins lane call) is);
      issued = λ k some most. issued k (stands.issued k some most);
    }
      where
        asks : (v : ℕ) (c : Call) → after v ≡ Asks c → (v ≡ lane) ⊎ (v ≢ lane) →
            IsOpen (past ++ Begins lane call ∷ []) v c
        asks v c is (inr apart) = asks_beside past s lanes after (Begins lane call) stands happens v c is apart
        asks v c is (inl same) = subst (λ (d : Call). IsOpen (past ++ Begins lane call ∷ []) v d)
            (one_call (here after (Asks call) v lane same happens.1.here) is)
            (subst (λ (w : ℕ). IsOpen (past ++ Begins lane call ∷ []) w call) (sym same) (open_next past lane call))

        gets : (v : ℕ) (r : Reply) → after v ≡ Gets r → (v ≡ lane) ⊎ (v ≢ lane) →
            InEffect (past ++ Begins lane call ∷ []) s v r
        gets v r is (inr apart) = gets_beside past s lanes after (Begins lane call) stands happens v r is apart
        gets v r is (inl same) = absurd (asks_or_gets (here after (Asks call) v lane same happens.1.here) is)

        none_told : (k : ℕ) → Tells limits k (Begins lane call) → ⊥
        none_told k tells = let is = tells.returns in cc

        told : (k : ℕ) → AreTelling limits k past ⊎ Tells limits k (Begins lane call) → k ≤ write_count s.0
        told k (inl was) = stands.told k was
        told k (inr tells) = absurd (none_told k tells)

        issued : (k : ℕ) → AreTelling limits k past ⊎ Holds past lanes k →
            AreTelling limits k (past ++ Begins lane call ∷ []) ⊎ Holds (past ++ Begins lane call ∷ []) after k
        issued k (inl was) = inl (telling_more k past (Begins lane call) was)
        issued k (inr held) = inr (holds_beside past s lanes after (Begins lane call) stands happens k held
            (λ same. idle_or_gets happens.0 (subst (λ (w : ℕ). lanes w ≡ Gets (Stamp (write_stamp (units limits) k)))
            same held.gets)))
    stands_event past s lanes after (Returns lane reply) stands happens = record {
      well_formed = stands.well_formed;
      asks = λ v c is. asks v c is (cases_eq v lane);
      gets = λ v r is. gets v r is (cases_eq v lane);
      told = λ k is. told k (telling_cases k past (Returns lane reply) is);
      issued = λ k some most. issued k some most (stands.issued k some most);
    }
      where
        asks : (v : ℕ) (c : Call) → after v ≡ Asks c → (v ≡ lane) ⊎ (v ≢ lane) →
            IsOpen (past ++ Returns lane reply ∷ []) v c
        asks v c is (inr apart) = asks_beside past s lanes after (Returns lane reply) stands happens v c is apart
        asks v c is (inl same) = absurd (idle_or_asks (here after Idle v lane same happens.1.here) is)

        gets : (v : ℕ) (r : Reply) → after v ≡ Gets r → (v ≡ lane) ⊎ (v ≢ lane) →
            InEffect (past ++ Returns lane reply ∷ []) s v r
        gets v r is (inr apart) = gets_beside past s lanes after (Returns lane reply) stands happens v r is apart
        gets v r is (inl same) = absurd (idle_or_gets (here after Idle v lane same happens.1.here) is)

        same_reply : {l m t : ℕ} → Returns l reply ≡ Returns m (Stamp t) → reply ≡ Stamp t
        same_reply is = cc

        told : (k : ℕ) → AreTelling limits k past ⊎ Tells limits k (Returns lane reply) → k ≤ write_count s.0
        told k (inl was) = stands.told k was
        told k (inr tells) = by ((stands.gets lane reply happens.0).valid tells.stamp (same_reply tells.returns))
          where
            by : (tells.stamp ≡ 0) ⊎ ((j : ℕ) × (j ≤ write_count s.0) × IsStamp (units limits) j tells.stamp) →
                k ≤ write_count s.0
            by (inl none) = absurd (let some : 0 < tells.stamp = stamp_some limits.layout k tells.stamp tells.is_of in
                omega (arith, some, none))
            by (inr of) = let less : of.0 ≤ write_count s.0 = of.1 in
                let same : k ≡ of.0 = one_version limits.layout of.0 tells.stamp of.2 k tells.is_of in
                omega (arith, less, same)

        issued : (k : ℕ) → 1 ≤ k → k ≤ write_count s.0 → AreTelling limits k past ⊎ Holds past lanes k →
            AreTelling limits k (past ++ Returns lane reply ∷ []) ⊎ Holds (past ++ Returns lane reply ∷ []) after k
        issued k some most (inl was) = inl (telling_more k past (Returns lane reply) was)
        issued k some most (inr held) = by (cases_eq held.lane lane)
          where
            by : (held.lane ≡ lane) ⊎ (held.lane ≢ lane) →
                AreTelling limits k (past ++ Returns lane reply ∷ []) ⊎
                Holds (past ++ Returns lane reply ∷ []) after k
            by (inr apart) = inr (holds_beside past s lanes after (Returns lane reply) stands happens k held apart)
            by (inl same) = inl (telling_last k past (Returns lane reply) (record {
              lane = lane;
              stamp = write_stamp (units limits) k;
              returns = ap (Returns lane) (one_reply happens.0
                  (subst (λ (w : ℕ). lanes w ≡ Gets (Stamp (write_stamp (units limits) k))) same held.gets));
              is_of = inl (record {
                some = some;
                most = let within = (obeys_now limits s.0 stands.well_formed).within.versions in
                    let room = range.versions in omega (arith, most, within, room);
                number = refl;
              });
            }))
    stands_event past s lanes after (Withdraws lane) stands happens = record {
      well_formed = stands.well_formed;
      asks = λ v c is. asks v c is (cases_eq v lane);
      gets = λ v r is. gets v r is (cases_eq v lane);
      told = λ k is. told k (telling_cases k past (Withdraws lane) is);
      issued = λ k some most. issued k (stands.issued k some most);
    }
      where
        asks : (v : ℕ) (c : Call) → after v ≡ Asks c → (v ≡ lane) ⊎ (v ≢ lane) →
            IsOpen (past ++ Withdraws lane ∷ []) v c
        asks v c is (inr apart) = asks_beside past s lanes after (Withdraws lane) stands happens v c is apart
        asks v c is (inl same) = absurd (idle_or_asks (here after Idle v lane same happens.2.here) is)

        gets : (v : ℕ) (r : Reply) → after v ≡ Gets r → (v ≡ lane) ⊎ (v ≢ lane) →
            InEffect (past ++ Withdraws lane ∷ []) s v r
        gets v r is (inr apart) = gets_beside past s lanes after (Withdraws lane) stands happens v r is apart
        gets v r is (inl same) = absurd (idle_or_gets (here after Idle v lane same happens.2.here) is)

        none_told : (k : ℕ) → Tells limits k (Withdraws lane) → ⊥
        none_told k tells = let is = tells.returns in cc

        told : (k : ℕ) → AreTelling limits k past ⊎ Tells limits k (Withdraws lane) → k ≤ write_count s.0
        told k (inl was) = stands.told k was
        told k (inr tells) = absurd (none_told k tells)

        issued : (k : ℕ) → AreTelling limits k past ⊎ Holds past lanes k →
            AreTelling limits k (past ++ Withdraws lane ∷ []) ⊎ Holds (past ++ Withdraws lane ∷ []) after k
        issued k (inl was) = inl (telling_more k past (Withdraws lane) was)
        issued k (inr held) = inr (holds_beside past s lanes after (Withdraws lane) stands happens k held
            (λ same. asks_or_gets happens.1 (subst (λ (w : ℕ). lanes w ≡ Gets (Stamp (write_stamp (units limits) k)))
            same held.gets)))

    -- along a way
    pub stands_along : {events : List Event} {s t : State} {a b : Lanes} (past : List Event) → Stands past s a →
        Leads (Both limits) events s a t b → Stands (past ++ events) t b
    stands_along {s = s} {a = a} past stands leads_nowhere =
        subst (λ (xs : List Event). Stands xs s a) (sym (append-nil past)) stands
    stands_along {s = s} {a = a} past stands (by_effect {next = next} {after = after} lane call reply asks step sets
        rest) = stands_along past (stands_effect past s next a after lane call reply stands asks step sets) rest
    stands_along {s = s} {t} {a} {b} past stands (by_event {events = events} {after = after} event happens rest) =
        subst (λ (xs : List Event). Stands xs t b) (append_assoc past (event ∷ []) events)
        (stands_along (past ++ event ∷ []) (stands_event past s a after event stands happens) rest)

    pub stands_so : {events : List Event} {t : State} {b : Lanes} → Leads (Both limits) events start all_idle t b →
        Stands events t b
    stands_so way = stands_along [] stands_first way
