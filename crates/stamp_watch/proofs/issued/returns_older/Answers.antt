use Rattle.std.proofs.Common.{◌≡◌, ◌∙◌, ◌<◌, ◌≤◌, ◌+◌, ◌-◌, ◌⊎◌, inl, inr, sym, subst, ap, ℕ, arith, suc, get_or}
use Rattle.std.proofs.Common.{length}
use Rattle.std.specs.Prelude.{drop, take}
use Rattle.std.proofs.lemmas.Bool.{cases_lt, false≢true}
use Rattle.std.proofs.lemmas.List.{get_or_default, length-drop, take_all}
use Rattle.stamp_runs.specs.declared.event.Event.{Event}
use Rattle.stamp_watch.specs.Issued.{IssuesOlder}
use Rattle.stamp_watch.proofs.Issuing.{no_older}
use Rattle.stamp_watch.proofs.issued.returns_older.Goals as goal
use Rattle.stamp_watch.proofs.issued.returns_older.Goals.{Else-issues_older}

pub returns : goal.returns
returns c = (
  (λ no. absurd (false≢true no)),
  (λ is. absurd (no_older c.args.limits c.args.version c.args.events.now
      (λ k d less. c.loop-place.invariant k d (omega (arith, less, c.loop-place-test.false))) is)),
)

-- what is behind the event
behind_it : (c : Else-issues_older) → take (length c.args.events.now - (c.loop-place.place + 1))
    (drop (c.loop-place.place + 1) c.args.events.now) ≡ drop (suc c.loop-place.place) c.args.events.now
behind_it c = take_all (length c.args.events.now - (c.loop-place.place + 1))
    (drop (c.loop-place.place + 1) c.args.events.now)
    (let long : length (drop (c.loop-place.place + 1) c.args.events.now) ≡
    length c.args.events.now - (c.loop-place.place + 1) = length-drop (c.loop-place.place + 1) c.args.events.now in
    omega (arith, long)) ∙ ap (λ (n : ℕ). drop n c.args.events.now)
    (let same : c.loop-place.place + 1 ≡ suc c.loop-place.place = omega arith in same)

pub loop-place-preserved : goal.loop-place-preserved
loop-place-preserved c k d less is = by (cases_lt k c.loop-place.place)
  where
    at_it : c.loop-place.place ≤ k → k ≡ c.loop-place.place
    at_it behind = omega (arith, less, behind)

    here : (n : ℕ) → n ≡ c.loop-place.place → IssuesOlder c.args.limits c.args.version (get_or c.args.events.now n d)
        (drop (suc n) c.args.events.now) → ⊥
    here n same older = false≢true (sym c.if-issues_older.false ∙ c.issues_older.ensures.1
        (subst (IssuesOlder c.args.limits c.args.version c.index-events-place.result) (sym (behind_it c))
        (subst (λ (e : Event). IssuesOlder c.args.limits c.args.version e
        (drop (suc c.loop-place.place) c.args.events.now))
        (get_or_default c.args.events.now c.loop-place.place d c.index-events-place.result c.loop-place-test.true ∙
        sym c.index-events-place.is)
        (subst (λ (m : ℕ). IssuesOlder c.args.limits c.args.version (get_or c.args.events.now m d)
        (drop (suc m) c.args.events.now)) same older))))

    by : (k < c.loop-place.place) ⊎ (c.loop-place.place ≤ k) → ⊥
    by (inl before) = c.loop-place.invariant k d before is
    by (inr behind) = here k (at_it behind) is
