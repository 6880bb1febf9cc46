-- Legal histories, by the transitions of lock and record.
use Rattle.std.proofs.Common.{ℕ, List, [], ◌∷◌, ◌++◌, refl}
use Rattle.std.proofs.Common.{subst}
use Rattle.stamp_core.specs.LockEvent.{LockEvent}
use Rattle.stamp_core.specs.Limits.{Bounds}
use Rattle.stamp_core.specs.Content.{content_next}
use Rattle.stamp_core.specs.Transition.{transition}
use Rattle.stamp_core.specs.History.{History, IsLegalFrom, appended_by}
use Rattle.stamp_explain.specs.inner.States.{Runs}
use Rattle.stamp_explain.specs.inner.States.{LockState, after_call, StateTransition}

-- legal histories are those that lock and record run
pub runs_legal : (limits : Bounds) (events : List LockEvent) (content : List ℕ) (history : History) →
    IsLegalFrom limits events content history → Runs (StateTransition limits) (events, content) history
runs_legal limits events content [] legal = tt
runs_legal limits events content (x ∷ xs) legal = (
  after_call limits (events, content) x,
  (
    record { replies = legal.0; next = refl },
    runs_legal limits (events ++ appended_by (transition limits events x.0)) (content_next content x.0 x.1) xs legal.1,
  ),
)

pub legal_runs : (limits : Bounds) (events : List LockEvent) (content : List ℕ) (history : History) →
    Runs (StateTransition limits) (events, content) history → IsLegalFrom limits events content history
legal_runs limits events content [] runs = tt
legal_runs limits events content (x ∷ xs) runs = (
  runs.1.0.replies,
  legal_runs limits (events ++ appended_by (transition limits events x.0)) (content_next content x.0 x.1) xs
      (subst (λ (t : LockState). Runs (StateTransition limits) t xs) runs.1.0.next
      runs.1.1),
)
