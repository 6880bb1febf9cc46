use Rattle.std.proofs.Common.{◌≡◌, ◌∙◌, ◌++◌, List, sym, subst, ap, ℕ}
use Rattle.std.proofs.lemmas.Bool.{false≢true}
use Rattle.stamp_runs.specs.declared.event.Event.{Event}
use Rattle.stamp_watch.specs.Issued.{ReturnsOlder}
use Rattle.stamp_watch.proofs.Issuing.{issued_once}
use Rattle.stamp_watch.proofs.delay.Delay.loses_nothing.Goals as goal
use Rattle.stamp_watch.proofs.delay.Delay.loses_nothing.Goals.{After-drop-events-2}

pub returns-in_default-clause-shows : goal.returns-in_default-clause-shows
returns-in_default-clause-shows c = (
  (λ no. absurd (false≢true no)),
  (λ is. absurd (c.in_default.ensures.issued
      is.version is.issues)),
)

-- all that wait were gone through
all_of : (c : After-drop-events-2) → c.as_slice.result.now ≡ c.args.self.now.waiting.events.items
all_of c = c.as_slice.ensures.value ∙ c.in_ok-extend_from_slice.ensures.items ∙
    ap (λ (xs : List Event). xs ++ c.as_slices.result.1.now) c.in_ok-events.ensures.items ∙ c.as_slices.ensures.items

pub returns-clause-shows : goal.returns-clause-shows
returns-clause-shows c = (
  (λ yes. record {
    version = c.in-Some.version;
    issues = c.in-Some.ensures.issued;
    older = subst (ReturnsOlder c.args.self.now.limits c.in-Some.version) (all_of c) (c.returns_older.ensures.0 yes);
  }),
  (λ is. c.returns_older.ensures.1 (subst (ReturnsOlder c.args.self.now.limits c.in-Some.version) (sym (all_of c))
      (subst (λ (k : ℕ). ReturnsOlder c.args.self.now.limits k c.args.self.now.waiting.events.items)
      (issued_once c.args.self.now.limits c.args.begun.now c.args.end.now is.version c.in-Some.version is.issues
      c.in-Some.ensures.issued) is.older))),
)
