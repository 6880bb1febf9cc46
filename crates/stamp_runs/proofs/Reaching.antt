-- Positions to which old ones lead.
use Rattle.std.proofs.Common.{[], refl, sym, ◌∙◌, subst}
use Rattle.stamp_runs.specs.Object.{Object}
use Rattle.stamp_runs.specs.Run.{Lanes, Leads}
use Rattle.stamp_runs.specs.Run.Leads.{leads_nowhere}
use Rattle.stamp_runs.specs.Run.Phase.{Asks}
use Rattle.stamp_runs.specs.Position.{OfSome, Position, StandsFor}
use Rattle.stamp_runs.specs.Position.Hidden.{no_more}
use Rattle.stamp_runs.specs.Returning.{IsReached}
use Rattle.stamp_runs.specs.Returning.IsReached.{from_old, by_changing, by_overwriting}
use Rattle.stamp_runs.proofs.Lanes.{set_of, sets_of, true_or_false}
use Rattle.stamp_runs.proofs.Hiding.{hidden_beside, hidden_leads, hidden_on, one_more, stays_in_effect, with_more}

module _ {S : Type 0} (O : Object S) where
  -- from one of these positions effects lead there
  pub record CameFrom (old : Position S → Type 0) (s : S) (lanes : Lanes) : Type 0 where
    pub state : S
    pub before : Lanes
    pub among : OfSome O old state before
    pub way : Leads O [] state before s lanes

  -- what a reached position stands for is come to by effects
  pub reached_came : {old : Position S → Type 0} (q : Position S) → IsReached O old q → (s : S) (l : Lanes) →
      StandsFor O q s l → CameFrom old s l
  reached_came q (from_old p itself there same hidden more) s l stands = record {
    state = s;
    before = l;
    among = record {
      position = p;
      among = there;
      stands = record {
        same = same ∙ stands.same;
        hidden = hidden_on O hidden (with_more O more stands.hidden);
      };
    };
    way = leads_nowhere;
  }
  reached_came {old} q (by_changing p itself lane call reply reached asks step sets apart fewer) s l stands =
      let asking : Lanes = set_of l lane (Asks call) in
      let before = reached_came p reached p.state asking (record {
        same = refl;
        hidden = hidden_beside O lane (λ v other free. fewer v free) stands.hidden
            (λ r free gets. true_or_false free apart) (Asks call) p.lanes asking
            (record { here = asks; others = λ v other. sym (sets.others v other) }) (sets_of l lane (Asks call));
      }) in record {
        state = before.state;
        before = before.before;
        among = before.among;
        way = subst (λ (w : S). Leads O [] before.state before.before w l) stands.same
            (one_more O lane call reply (sets_of l lane (Asks call)).here step (record {
              here = stays_in_effect O lane reply stands.hidden sets.here;
              others = λ v other. sym ((sets_of l lane (Asks call)).others v other);
            }) before.way);
      }
  reached_came {old} q (by_overwriting p itself lane call reply reached asks over sets apart) s l stands =
      let before = reached_came p reached p.state p.lanes (record { same = refl; hidden = no_more }) in record {
        state = before.state;
        before = before.before;
        among = before.among;
        way = subst (λ (w : S). Leads O [] before.state before.before w l) stands.same
            (hidden_leads O lane call reply q.state over apart stands.hidden p.state tt p.lanes asks sets before.way);
      }
