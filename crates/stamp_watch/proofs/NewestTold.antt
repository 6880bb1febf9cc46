-- The newest version that events tell.
use Rattle.std.proofs.Common.{◌≡◌, ◌⊎◌, ◌≤◌, ℕ, List, [], ◌∷◌, ◌++◌, sym, ◌∙◌, subst, inl, inr, arith}
use Rattle.stamp_core.specs.Limits.{Bounds, units}
use Rattle.stamp_core.specs.Stamp.{IsStamp}
use Rattle.stamp_core.specs.declared.reply.Reply.TheVariants.{Stamp}
use Rattle.stamp_runs.specs.declared.event.Event.{Event}
use Rattle.stamp_runs.specs.declared.event.Event.TheVariants.{Returns}
use Rattle.stamp_watch.specs.inner.Candidates.{AreTelling, IsNewestTold, Tells}
use Rattle.stamp_watch.proofs.TellingVersions.{one_version}
use Rattle.stamp_watch.proofs.ToldAlong.{telling_cases, telling_last, telling_more}

same_told : {l m s t : ℕ} → Returns l (Stamp s) ≡ Returns m (Stamp t) → s ≡ t
same_told is = cc

module _ (limits : Bounds) where
  -- an event tells one version
  tells_once : (j k : ℕ) (e : Event) → Tells limits j e → Tells limits k e → j ≡ k
  tells_once j k e one other = one_version limits.layout k other.stamp other.is_of j
      (subst (IsStamp (units limits) j) (same_told (sym one.returns ∙ other.returns)) one.is_of)

  pub newest_stays : (past : List Event) (e : Event) (newest : ℕ) → ((k : ℕ) → ¬ Tells limits k e) →
      IsNewestTold limits past newest → IsNewestTold limits (past ++ e ∷ []) newest
  newest_stays past e newest none is = record {
    told = told is.told;
    most = λ k telling. by k (telling_cases limits k
        past e telling);
  }
    where
      told : (newest ≡ 0) ⊎ AreTelling limits newest past → (newest ≡ 0) ⊎ AreTelling limits newest (past ++ e ∷ [])
      told (inl same) = inl same
      told (inr was) = inr (telling_more limits newest past e was)

      by : (k : ℕ) → AreTelling limits k past ⊎ Tells limits k e → k ≤ newest
      by k (inl was) = is.most k was
      by k (inr tells) = absurd (none k tells)

  pub newest_on : (past : List Event) (e : Event) (version newest next : ℕ) → Tells limits version e →
      newest ≤ next → version ≤ next → (next ≡ newest) ⊎ (next ≡ version) →
      IsNewestTold limits past newest → IsNewestTold limits (past ++ e ∷ []) next
  newest_on past e version newest next tells more above one is = record {
    told = told one;
    most = λ k telling. by k (telling_cases limits k past e telling);
  }
    where
      kept : next ≡ newest → (newest ≡ 0) ⊎ AreTelling limits newest past →
          (next ≡ 0) ⊎ AreTelling limits next (past ++ e ∷ [])
      kept same (inl none) = inl (same ∙ none)
      kept same (inr was) = inr (telling_more limits next past e
          (subst (λ (n : ℕ). AreTelling limits n past) (sym same) was))

      told : (next ≡ newest) ⊎ (next ≡ version) → (next ≡ 0) ⊎ AreTelling limits next (past ++ e ∷ [])
      told (inl same) = kept same is.told
      told (inr same) = inr (telling_last limits next past e
          (subst (λ (n : ℕ). Tells limits n e) (sym same) tells))

      by : (k : ℕ) → AreTelling limits k past ⊎ Tells limits k e → k ≤ next
      by k (inl was) = let less : k ≤ newest = is.most k was in omega (arith, less, more)
      by k (inr own) = let same : k ≡ version = tells_once k version e own tells in omega (arith, same, above)
