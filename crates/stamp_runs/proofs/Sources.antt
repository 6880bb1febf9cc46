-- What a call that is hidden got, and which one left it.
use Rattle.std.proofs.Common.{◌≡◌, ◌≢◌, ◌⊎◌, ℕ, Bool, true, false, Option, Some, refl, sym, ◌∙◌, inl, inr, subst}
use Rattle.std.proofs.lemmas.Bool.{cases_eq}
use Rattle.std.proofs.lemmas.Option.{same_Some}
use Rattle.stamp_core.specs.declared.call.Call.{Call}
use Rattle.stamp_core.specs.declared.reply.Reply.{Reply}
use Rattle.stamp_runs.specs.Object.{Object}
use Rattle.stamp_runs.specs.Run.{Lanes, Sets}
use Rattle.stamp_runs.specs.Run.Phase.{Asks, Gets}
use Rattle.stamp_runs.specs.Position.{Hidden, Overwrites}
use Rattle.stamp_runs.specs.Position.Hidden.{no_more, overwrites, sees}
use Rattle.stamp_runs.specs.Returning.{Effect}
use Rattle.stamp_runs.proofs.Lanes.{asks_or_gets, one_call, one_reply, true_or_false}
use Rattle.stamp_runs.proofs.Hiding.{stays_in_effect}

module _ {S : Type 0} (O : Object S) where
  -- what is not free is not hidden
  pub unfree_stays : {free : ℕ → Bool} {at : Option S} {a l : Lanes} (v : ℕ) → free v ≡ false → Hidden O free at a l →
      l v ≡ a v
  unfree_stays v not no_more = refl
  unfree_stays {free} v not (overwrites u c r t is asks over sets rest) = unfree_stays v not rest ∙
      sets.others v (λ e. true_or_false is (subst (λ (w : ℕ). free w ≡ false) e not))
  unfree_stays {free} v not (sees u c r is asks step sets rest) = unfree_stays v not rest ∙
      sets.others v (λ e. true_or_false is (subst (λ (w : ℕ). free w ≡ false) e not))

  -- what is hidden next is this lane's call, or what comes of it is hidden later
  now_or_later : {free : ℕ → Bool} {at : Option S} {after l : Lanes} {u v : ℕ} {c : Call} {r : Reply} →
      after u ≡ Gets r → Hidden O free at after l → (v ≡ u) ⊎ (v ≢ u) →
      (v ≢ u → (l v ≡ Asks c) ⊎ ((q : Reply) × (l v ≡ Gets q))) → (l v ≡ Asks c) ⊎ ((q : Reply) × (l v ≡ Gets q))
  now_or_later {after = after} {v = v} {r = r} gets rest (inl same) later =
      inr (r, stays_in_effect O v r rest (subst (λ (w : ℕ). after w ≡ Gets r) (sym same) gets))
  now_or_later gets rest (inr apart) later = later apart

  -- a call that asks does so in the end, or is hidden
  pub asks_or_is_hidden : {free : ℕ → Bool} {at : Option S} {a l : Lanes} (v : ℕ) (c : Call) → Hidden O free at a l →
      a v ≡ Asks c → (l v ≡ Asks c) ⊎ ((r : Reply) × (l v ≡ Gets r))
  asks_or_is_hidden v c no_more asks = inl asks
  asks_or_is_hidden v c (overwrites u d r t is asks_u over sets rest) asks = now_or_later sets.here rest (cases_eq v u)
      (λ apart. asks_or_is_hidden v c rest (sets.others v apart ∙ asks))
  asks_or_is_hidden v c (sees u d r is asks_u step sets rest) asks = now_or_later sets.here rest (cases_eq v u)
      (λ apart. asks_or_is_hidden v c rest (sets.others v apart ∙ asks))

  -- the step of the lane's call, which is this one
  step_of : {a after l : Lanes} {free : ℕ → Bool} {s t : S} {u : ℕ} {c : Call} {r : Reply} (lane : ℕ) (call : Call)
      (g : Reply) → u ≡ lane → a u ≡ Asks c → a lane ≡ Asks call → Sets a after u (Gets r) →
      Hidden O free (Some t) after l → l lane ≡ Gets g → O s c r t → O s call g t
  step_of {a} {after} {l} {s = s} {t} {u} {c} {r} lane call g same asks_u asks sets rest gets step =
      subst (λ (q : Reply). O s call q t)
      (one_reply (subst (λ (w : ℕ). l w ≡ Gets r) same (stays_in_effect O u r rest sets.here)) gets)
      (subst (λ (d : Call). O s d r t) (one_call (subst (λ (w : ℕ). a w ≡ Asks c) same asks_u) asks) step)

  -- a call that asks after the effect did so before
  asked_first : {a after : Lanes} {u v : ℕ} {c : Call} {r : Reply} → Sets a after u (Gets r) → after v ≡ Asks c →
      a v ≡ Asks c
  asked_first {a} {after} {u} {v} {c} {r} sets asks = sym (sets.others v (λ e. asks_or_gets asks
      (subst (λ (w : ℕ). after w ≡ Gets r) (sym e) sets.here))) ∙ asks

  -- a call that is hidden overwrites, or one does that is hidden and left what it read
  pub record HasSource (free : ℕ → Bool) (lane : ℕ) (a l : Lanes) (call : Call) (g : Reply) : Type 0 where
    pub x : Effect S
    pub is_free : free x.lane ≡ true
    pub asks : a x.lane ≡ Asks x.call
    pub over : Overwrites O x.call x.reply x.next
    pub gets : l x.lane ≡ Gets x.reply
    pub from : (x.lane ≡ lane) ⊎ O x.next call g x.next

  earlier : {free : ℕ → Bool} {lane u : ℕ} {a after l : Lanes} {call : Call} {r g : Reply} → Sets a after u (Gets r) →
      HasSource free lane after l call g → HasSource free lane a l call g
  earlier sets source = record {
    x = source.x;
    is_free = source.is_free;
    asks = asked_first sets source.asks;
    over = source.over;
    gets = source.gets;
    from = source.from;
  }

  pub source_of : {free : ℕ → Bool} {at : Option S} {a l : Lanes} (lane : ℕ) (call : Call) (g : Reply) →
      Hidden O free at a l → a lane ≡ Asks call → l lane ≡ Gets g →
      HasSource free lane a l call g ⊎ ((t : S) × (at ≡ Some t) × O t call g t)
  source_of lane call g no_more asks gets = absurd (asks_or_gets asks gets)
  source_of {free} {at} {a} {l} lane call g (overwrites {after = after} u c r t is asks_u over sets rest) asks gets =
      by (cases_eq u lane) (λ apart. source_of lane call g rest (sets.others lane (λ e. apart (sym e)) ∙ asks) gets)
    where
      this : (u ≡ lane) ⊎ O t call g t → HasSource free lane a l call g
      this from = record {
        x = record { lane = u; call = c; reply = r; next = t };
        is_free = is;
        asks = asks_u;
        over = over;
        gets = stays_in_effect O u r rest sets.here;
        from = from;
      }

      by : (u ≡ lane) ⊎ (u ≢ lane) →
          (u ≢ lane → HasSource free lane after l call g ⊎ ((w : S) × (Some t ≡ Some w) × O w call g w)) →
          HasSource free lane a l call g ⊎ ((w : S) × (at ≡ Some w) × O w call g w)
      by (inl same) more = inl (this (inl same))
      by (inr apart) more = so (more apart)
        where
          so : HasSource free lane after l call g ⊎ ((w : S) × (Some t ≡ Some w) × O w call g w) →
              HasSource free lane a l call g ⊎ ((w : S) × (at ≡ Some w) × O w call g w)
          so (inl source) = inl (earlier sets source)
          so (inr here) = inl (this (inr (subst (λ (w : S). O w call g w) (sym (same_Some _ _ here.1)) here.2)))
  source_of {free} {at} {a} {l} lane call g (sees {after = after} {t = t} u c r is asks_u step sets rest) asks gets =
      by (cases_eq u lane) (λ apart. source_of lane call g rest (sets.others lane (λ e. apart (sym e)) ∙ asks) gets)
    where
      by : (u ≡ lane) ⊎ (u ≢ lane) →
          (u ≢ lane → HasSource free lane after l call g ⊎ ((w : S) × (Some t ≡ Some w) × O w call g w)) →
          HasSource free lane a l call g ⊎ ((w : S) × (Some t ≡ Some w) × O w call g w)
      by (inl same) more = inr (t, refl, step_of lane call g same asks_u asks sets rest gets step)
      by (inr apart) more = so (more apart)
        where
          so : HasSource free lane after l call g ⊎ ((w : S) × (Some t ≡ Some w) × O w call g w) →
              HasSource free lane a l call g ⊎ ((w : S) × (Some t ≡ Some w) × O w call g w)
          so (inl source) = inl (earlier sets source)
          so (inr here) = inr here

  -- a call that is hidden was answered in some state
  pub answered_of : {free : ℕ → Bool} {at : Option S} {a l : Lanes} (lane : ℕ) (call : Call) (g : Reply) →
      Hidden O free at a l → a lane ≡ Asks call → l lane ≡ Gets g → (s : S) × (t : S) × O s call g t
  answered_of lane call g no_more asks gets = absurd (asks_or_gets asks gets)
  answered_of lane call g (overwrites u c r t is asks_u over sets rest) asks gets =
      by (cases_eq u lane) (λ apart. answered_of lane call g rest (sets.others lane (λ e. apart (sym e)) ∙ asks) gets)
    where
      by : (u ≡ lane) ⊎ (u ≢ lane) → (u ≢ lane → (s : S) × (w : S) × O s call g w) → (s : S) × (w : S) × O s call g w
      by (inr apart) more = more apart
      by (inl same) more = (t, t, step_of lane call g same asks_u asks sets rest gets (over.may t))
  answered_of lane call g (sees {t = t} u c r is asks_u step sets rest) asks gets =
      by (cases_eq u lane) (λ apart. answered_of lane call g rest (sets.others lane (λ e. apart (sym e)) ∙ asks) gets)
    where
      by : (u ≡ lane) ⊎ (u ≢ lane) → (u ≢ lane → (s : S) × (w : S) × O s call g w) → (s : S) × (w : S) × O s call g w
      by (inr apart) more = more apart
      by (inl same) more = (t, t, step_of lane call g same asks_u asks sets rest gets step)
