-- What a trace leads to, in the order that is read back from it.
use Rattle.std.proofs.Common.{◌≡◌, ℕ, ◌+◌, List, [], ◌∷◌, ◌++◌, None, length, refl}
use Rattle.std.proofs.Common.{sym, ◌∙◌, ap, subst, append-nil, arith}
use Rattle.stamp_core.specs.declared.reply.Reply.{Reply}
use Rattle.stamp_runs.specs.declared.event.Event.{Event}
use Rattle.stamp_runs.specs.Object.{Object}
use Rattle.stamp_runs.specs.Run.{Happens, Lanes, all_idle, lane_of}
use Rattle.stamp_runs.specs.Run.Phase.{Asks}
use Rattle.stamp_runs.specs.Position.{Hidden, Position}
use Rattle.stamp_runs.specs.Position.Hidden.{no_more}
use Rattle.stamp_runs.specs.Trace.{IsTrace, LeadsBy, Move, Taken, hidden_calls, order_from}
use Rattle.stamp_runs.specs.Trace.IsTrace.{in_opening, with_event, with_effect, with_overwriting, with_hidden}
use Rattle.stamp_runs.specs.Trace.LeadsBy.{led_nowhere, by_next, by_taken}
use Rattle.stamp_runs.proofs.Hiding.{also_beside, calls_on, hidden_on, hidden_take, with_more}
use Rattle.stamp_runs.proofs.Lanes.{happens_as, set_of, sets_alike, sets_by, sets_of}
use Rattle.stamp_runs.proofs.Lanes.{true_or_false}
use Rattle.stamp_runs.proofs.Ordering.{ordered_on}
use Rattle.stamp_runs.proofs.Sources.{unfree_stays}

module _ {S : Type 0} (O : Object S) (start : S) where
  -- from the opening along these events, in this order
  abbrev Along : List Event → List Taken → S → Lanes → Type 0
  Along past order s lanes = LeadsBy O 0 order past start all_idle s lanes

  more_taken : {past : List Event} {order more : List Taken} {s t : S} {a b : Lanes} →
      Along past order s a → LeadsBy O (length past) more [] s a t b → Along past (order ++ more) t b
  more_taken {past} {order} {more} {s} {t} {a} {b} way later =
      let same : length past ≡ 0 + length past = omega arith in
      subst (λ (events : List Event). Along events (order ++ more) t b) (append-nil past)
      (ordered_on O way (subst (λ (k : ℕ). LeadsBy O k more [] s a t b) same later))

  -- with what is hidden at last
  pub trace_leads : {past : List Event} {moves : List Move} (p : Position S) → IsTrace O start past moves p →
      (l : Lanes) (hidden : Hidden O p.free None p.lanes l) →
      LeadsBy O 0 (order_from (hidden_calls hidden) moves) past start all_idle p.state l
  trace_leads p (in_opening itself same idle none) l hidden =
      subst (λ (s : S). Along [] [] s l) (sym same) (subst (λ (m : Lanes). Along [] [] start m)
      (sym idle ∙ (λ i v. sym (unfree_stays O v (none v) hidden) i)) led_nowhere)
  trace_leads q (with_event {past = past} {moves = moves} p itself event trace same happens apart fewer) l hidden =
      subst (λ (s : S). Along (past ++ event ∷ []) (order_from (hidden_calls hidden) moves) s l) same
      (subst (λ (order : List Taken). Along (past ++ event ∷ []) order p.state l)
      (append-nil (order_from (hidden_calls hidden) moves)) (ordered_on O
      (subst (λ (calls : List (ℕ × Reply)). Along past (order_from calls moves) p.state before) beside.1
      (trace_leads p trace before beside.0)) (by_next event now led_nowhere)))
    where
      lane : ℕ
      lane = lane_of event

      before : Lanes
      before = set_of l lane (p.lanes lane)

      beside : (also : Hidden O p.free None p.lanes before) × (hidden_calls also ≡ hidden_calls hidden)
      beside = also_beside O lane (λ v other free. fewer v free) hidden (λ r free gets. true_or_false free apart)
          (p.lanes lane) p.lanes before (record {
            here = refl;
            others = λ v other. sym ((sets_by p.lanes itself.lanes event happens).others v other);
          }) (sets_of l lane (p.lanes lane))

      now : Happens event before l
      now = subst (λ (m : Lanes). Happens event before m)
          (sets_alike before (set_of before lane (itself.lanes lane)) l lane (itself.lanes lane)
          (sets_of before lane (itself.lanes lane)) (record {
            here = unfree_stays O lane apart hidden;
            others = λ v other. sym ((sets_of l lane (p.lanes lane)).others v other);
          })) (happens_as p.lanes itself.lanes before event happens (sets_of l lane (p.lanes lane)).here)
  trace_leads q (with_effect {past = past} {moves = moves} p itself lane call reply trace asks step sets apart fewer) l
      hidden = more_taken (subst (λ (calls : List (ℕ × Reply)). Along past (order_from calls moves) p.state asking)
      beside.1 (trace_leads p trace asking beside.0))
      (by_taken lane call reply (sets_of l lane (Asks call)).here step (record {
        here = unfree_stays O lane apart hidden ∙ sets.here;
        others = λ v other. sym ((sets_of l lane (Asks call)).others v other);
      }) led_nowhere)
    where
      asking : Lanes
      asking = set_of l lane (Asks call)

      beside : (also : Hidden O p.free None p.lanes asking) × (hidden_calls also ≡ hidden_calls hidden)
      beside = also_beside O lane (λ v other free. fewer v free) hidden (λ r free gets. true_or_false free apart)
          (Asks call) p.lanes asking (record { here = asks; others = λ v other. sym (sets.others v other) })
          (sets_of l lane (Asks call))
  trace_leads q (with_overwriting {past = past} p itself lane call reply trace asks over sets apart) l hidden =
      more_taken (trace_leads p trace p.lanes no_more)
      (hidden_take O (length past) lane call reply itself.state over apart hidden p.state tt p.lanes asks sets)
  trace_leads q (with_hidden {past = past} {moves = moves} p itself calls trace same hidden are fewer) l later =
      subst (λ (s : S). Along past (order_from (calls ++ hidden_calls later) moves) s l) same
      (subst (λ (first : List (ℕ × Reply)). Along past (order_from first moves) p.state l)
      (calls_on O fewer hidden later ∙ ap (λ (first : List (ℕ × Reply)). first ++ hidden_calls later) are)
      (trace_leads p trace l (hidden_on O hidden (with_more O fewer later))))
