use Rattle.std.proofs.Common.{ℕ, ◌≤◌, List, Option, length, arith, inl, inr, rules, subst}
use Rattle.std.specs.Prelude.{MatchOption}
use Rattle.stamped_watch.specs.declared.so_far.SoFar.{SoFar}
use Rattle.stamped_watch.specs.Header.{IsShortHeader}
use Rattle.stamped_watch.specs.Progress.{IsSoFarOf}
use Rattle.stamped_watch.proofs.telling.Telling.tell.Goals as goal

no_short : (bytes : List ℕ) → 24 ≤ length bytes → ¬ IsShortHeader bytes
no_short bytes many (inl short) = omega (arith, short, many)
no_short bytes many (inr short) = let less = short.0 in omega (arith, less, many)

pub unreachable-requires : goal.unreachable-requires
unreachable-requires g c =
    let at = c.requires in
    let short : IsShortHeader at.fed = subst (λ (o : Option SoFar). MatchOption o (IsShortHeader at.fed)
    (λ so_far. IsSoFarOf at.ahead at.fed so_far)) c.in_default.is (c.so_far.ensures at.most at.ahead at.fed at.is) in
    no_short at.fed at.many short

pub returns-clause-told : goal.returns-clause-told
returns-clause-told g c most ahead fed is = record {
  line = c.deref.result.now;
  is = record {
    so_far = c.in-Some.so_far;
    is = subst (λ (o : Option SoFar). MatchOption o (IsShortHeader fed) (λ so_far. IsSoFarOf ahead fed so_far))
        c.in-Some.is (c.so_far.ensures most ahead fed is);
    text = search rules;
  };
  writes = c.write.ensures.once;
}
