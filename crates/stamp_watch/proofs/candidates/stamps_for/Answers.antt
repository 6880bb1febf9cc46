use Rattle.std.proofs.Common.{◌≡◌, ◌∷◌, [], ◌++◌, ℕ, List, Option, Some, Vec, Global, sym, ◌∙◌, ap, subst}
use Rattle.std.proofs.Common.{inl, inr}
use Rattle.std.specs.Prelude.{MatchOption, map}
use Rattle.std.specs.List.{Contains}
use Rattle.std.proofs.lemmas.List.Elements.{Contains-append_left, Contains-push}
use Rattle.std.proofs.lemmas.Option.{none-some, same_Some}
use Rattle.stamp_watch.specs.declared.candidates.Issued.{Issued}
use Rattle.stamp_watch.specs.inner.Candidates.{IsGiven, MayBeGiven, MayBeNow, as_stamp, converted, stamps_given}
use Rattle.stamp_watch.proofs.Gathering.{stamp_replied, stamps_differ}
use Rattle.stamp_watch.proofs.candidates.stamps_for.Goals as goal
use Rattle.stamp_watch.proofs.candidates.stamps_for.Goals.{in-Some+in_ok-push-2, in_default}

pub returns-clause-whole : goal.returns-clause-whole
returns-clause-whole c old version s between may = stamp_replied c.once.new.numbers.items
    c.in_ok-replies.replies.items s (c.in_ok-replies.ensures ∙ ap (map as_stamp) c.as_slice.ensures.value)
    (c.once.ensures.keeps s (by may))
  where
    on : (n : ℕ) → Contains c.push.new.self.items n → Contains c.match-converted.stamps.items n
    on n was = elim c.match-converted.branch [
      | in-Some+in_ok-push-2 w ↦ subst (λ (xs : List ℕ). Contains xs n)
          (sym (ap (λ (v : Vec ℕ Global). v.items) w.stamps-is ∙ w.in_ok-push-2.ensures.items))
          (Contains-append_left c.push.new.self.items (w.in-Some.stamp ∷ []) n was)
      | in_default w ↦ subst (λ (xs : List ℕ). Contains xs n)
          (sym (ap (λ (v : Vec ℕ Global). v.items) w.stamps-is)) was
    ]

    own : converted c.args.call.now ≡ Some s → Contains c.match-converted.stamps.items s
    own is = elim c.match-converted.branch [
      | in-Some+in_ok-push-2 w ↦ subst (λ (xs : List ℕ). Contains xs s)
          (sym (ap (λ (v : Vec ℕ Global). v.items) w.stamps-is ∙ w.in_ok-push-2.ensures.items))
          (subst (λ (n : ℕ). Contains (c.push.new.self.items ++ w.in-Some.stamp ∷ []) n)
          (same_Some w.in-Some.stamp s (sym w.in-Some.is ∙ c.converted.ensures ∙ is))
          (Contains-push c.push.new.self.items w.in-Some.stamp))
      | in_default w ↦ absurd (none-some s (sym w.in_default.is ∙ c.converted.ensures ∙ is))
    ]

    given : MatchOption (stamps_given c.args.call.now) ⊥ (λ kind. MayBeNow kind old version ×
        IsGiven c.args.limits kind version s) → MayBeNow c.args.kind old version ×
        IsGiven c.args.limits c.args.kind version s
    given is = subst (λ (o : Option Issued). MatchOption o ⊥ (λ kind. MayBeNow kind old version ×
        IsGiven c.args.limits kind version s)) c.requires.given is

    first : (n : ℕ) → Contains c.in_ok-stamps.stamps.items n → Contains c.push.new.self.items n
    first n was = subst (λ (xs : List ℕ). Contains xs n) (sym c.in_ok-push.ensures.items)
        (Contains-append_left c.in_ok-stamps.stamps.items (0 ∷ []) n was)

    by : MayBeGiven c.args.limits c.args.call.now old version s → Contains c.match-converted.stamps.items s
    by (inl none) = on s (subst (λ (n : ℕ). Contains c.push.new.self.items n) (sym none)
        (subst (λ (xs : List ℕ). Contains xs 0) (sym c.in_ok-push.ensures.items)
        (Contains-push c.in_ok-stamps.stamps.items 0)))
    by (inr (inl is)) = own is
    by (inr (inr is)) = let there = c.in_ok-versions.ensures.whole old version between (given is).0 in
        on s (first s (c.in_ok-stamps.ensures version s there.0 there.1 (given is).1))

pub returns-clause-once : goal.returns-clause-once
returns-clause-once c = stamps_differ c.once.new.numbers.items c.in_ok-replies.replies.items
    (c.in_ok-replies.ensures ∙ ap (map as_stamp) c.as_slice.ensures.value) c.once.ensures.rises
