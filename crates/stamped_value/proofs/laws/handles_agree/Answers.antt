use Rattle.std.proofs.Common.{◌≡◌, List, [], ◌∷◌, ◌++◌, sym, ◌∙◌, ⊎_elim, inl, inr}
use mathlib.Core.List.{IsPrefix}
use Rattle.stamp_threads.specs.PassView.{every}
use Rattle.stamp_threads.specs.LockLog.{IsLegalLog}
use Rattle.stamp_threads.specs.OneHistory.{AreOrdered}
use Rattle.stamp_threads.proofs.OneHistory.{met_agree}
use Rattle.stamped_value.proofs.laws.handles_agree.Goals as goal

ordered_by : {A : Type 0} (xs a ys b : List A) → xs ++ a ≡ ys ++ b → AreOrdered xs ys
ordered_by [] a ys b e = inl (ys, λ i. ys)
ordered_by (x ∷ xs) a [] b e = inr (x ∷ xs, λ i. x ∷ xs)
ordered_by (x ∷ xs) a (y ∷ ys) b e =
    let same : x ≡ y = cc in let rest : xs ++ a ≡ ys ++ b = cc in
    ⊎_elim (λ (p : IsPrefix xs ys). inl (p.0, λ i. same i ∷ p.1 i))
    (λ (p : IsPrefix ys xs). inr (p.0, λ i. sym same i ∷ p.1 i)) (ordered_by xs a ys b rest)

pub returns : goal.returns
returns g c a b a' b' m =
    let first = m.passes.all_consistent.0 in let second = m.passes.all_consistent.1 in (
      met_agree every (IsLegalLog a.lock.limits) a.me.0.pass b.me.0.pass a'.me.0.pass b'.me.0.pass m.passes.met
          first.legal first.own first.given second.own second.given,
      ordered_by a.me.0.values m.first_begins.0 b.me.0.values m.second_begins.0
          (m.first_begins.1 ∙ sym m.second_begins.1),
    )
