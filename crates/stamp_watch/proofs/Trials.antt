-- A run that is judged with any return at its end.
use Rattle.std.proofs.Common.{ℕ, ◌≡◌, ◌≢◌, ◌⊎◌, ◌+◌, true, false, List, [], ◌∷◌, ◌++◌, length, Some}
use Rattle.std.proofs.Common.{sym, ◌∙◌, ap, subst, inl, inr, arith}
use Rattle.std.specs.Prelude.{drop, is_some, take}
use Rattle.std.proofs.lemmas.Bool.{false≢true}
use Rattle.std.proofs.lemmas.List.{drop-append-le, length-take-le, take-append-drop, take-append-le, take_all}
use Rattle.std.proofs.lemmas.List.Elements.{All-push}
use Rattle.stamp_core.specs.Limits.{Bounds}
use Rattle.stamp_core.specs.declared.reply.Reply.{Reply}
use Rattle.stamp_runs.specs.BothRun.{AreExplained}
use Rattle.stamp_runs.specs.OneWord.{is_small_reply}
use Rattle.stamp_runs.specs.Own.{none_open}
use Rattle.stamp_runs.specs.Run.{IsEndOf}
use Rattle.stamp_runs.specs.declared.event.Event.{Event}
use Rattle.stamp_runs.specs.declared.event.Event.TheVariants.{Returns}
use Rattle.stamp_sets.specs.SmallCall.{reply_of}
use Rattle.stamp_sets.specs.declared.open_call.OpenCall.{OpenCall}
use Rattle.stamp_sets.specs.declared.small_call.SmallReply.{SmallReply}
use Rattle.stamp_sets.specs.declared.watch.Watch.{Watch}
use Rattle.stamp_sets.specs.Watch.{open_of}
use Rattle.stamp_watch.specs.AsObserved.{ending_of}
use Rattle.stamp_watch.specs.Form.{is_busy_after}
use Rattle.stamp_watch.specs.Judging.{IsJudging}
use Rattle.stamp_watch.specs.Verdict.{AreOfLanes, AreTooMany, IsOfLane, IsTooManyAt}
use Rattle.stamp_watch.specs.declared.trial.Trial.{Trial}
use Rattle.stamp_watch.specs.inner.Trial.{IsTrial, MayReturn, with_return}
use Rattle.stamp_watch.proofs.Form.{form_goes_on}
use Rattle.stamp_watch.proofs.Judged.{cut_behind, rest_behind}
use Rattle.stamp_watch.proofs.Judging.{agrees}
use Rattle.stamp_watch.proofs.Numbered.{end_or_not, end_told, ending_spares}
use Rattle.stamp_watch.proofs.Small.{small_reply_is}

-- a return of another lane leaves how a call ends
ending_beside : (u lane n : ℕ) (reply : Reply) (events : List Event) → lane ≢ u →
    ending_of u n (events ++ Returns lane reply ∷ []) ≡ ending_of u n events
ending_beside u lane n reply [] apart = ending_spares u n (Returns lane reply) [] apart
ending_beside u lane n reply (e ∷ events) apart =
    by (end_or_not u e) (ending_beside u lane (n + 1) reply events apart)
  where
    by : IsEndOf u e ⊎ (¬ IsEndOf u e) →
        ending_of u (n + 1) (events ++ Returns lane reply ∷ []) ≡ ending_of u (n + 1) events →
        ending_of u n (e ∷ events ++ Returns lane reply ∷ []) ≡ ending_of u n (e ∷ events)
    by (inl end) _ = end_told u n e (events ++ Returns lane reply ∷ []) events end
    by (inr not) later = ending_spares u n e (events ++ Returns lane reply ∷ []) not ∙ later ∙
        sym (ending_spares u n e events not)

-- a watch judges on with a return of a lane that had no open call
judging_beside : (limits : Bounds) (n lane : ℕ) (reply : Reply) (past future : List Event) (watch : Watch) →
    is_busy_after past lane ≡ false → AreOfLanes (past ++ (future ++ Returns lane reply ∷ [])) →
    IsJudging limits n past future watch → IsJudging limits n past (future ++ Returns lane reply ∷ []) watch
judging_beside limits n lane reply past future watch free whole is = record {
  limits_are = is.limits_are;
  watching = is.watching;
  explained = is.explained;
  followed = record {
    whole = whole;
    told = λ u begun opened. is.followed.told u begun opened ∙
        sym (ending_beside u lane n reply future (apart u begun opened));
    last = is.followed.last;
  };
}
  where
    apart : (u : ℕ) (begun : OpenCall) → open_of watch u ≡ Some begun → lane ≢ u
    apart u begun opened same = false≢true (sym free ∙ ap (is_busy_after past) same ∙
        sym (agrees past watch is.watching u) ∙ ap is_some opened)

-- the call may return with any small reply
may_return_so : (run : List Event) (lane : ℕ) (reply : Reply) → MayReturn run lane → is_small_reply reply ≡ true →
    AreOfLanes (run ++ Returns lane reply ∷ [])
may_return_so run lane reply may small = record {
  form = form_goes_on none_open run (Returns lane reply) may.whole.form may.taken;
  lanes = All-push IsOfLane run (Returns lane reply) may.whole.lanes (may.low, small);
}

module _ (limits : Bounds) (trial : Trial) (is : IsTrial limits trial) (reply : SmallReply) where
  abbrev events : List Event
  events = trial.events.items

  abbrev tried : List Event
  tried = with_return trial reply

  whole : AreOfLanes tried
  whole = may_return_so events trial.lane (reply_of reply) is.may (small_reply_is reply)

  pub rest_is : drop trial.first tried ≡ drop trial.first events ++ Returns trial.lane (reply_of reply) ∷ []
  rest_is = drop-append-le trial.first events (Returns trial.lane (reply_of reply) ∷ []) is.within

  parts : take trial.first events ++ drop trial.first tried ≡ tried
  parts = ap (λ (es : List Event). es ++ drop trial.first tried)
      (sym (take-append-le trial.first events (Returns trial.lane (reply_of reply) ∷ []) is.within)) ∙
      take-append-drop trial.first tried

  pub judging_tried : IsJudging limits trial.first (take trial.first events) (drop trial.first tried) trial.base
  judging_tried = subst (λ (es : List Event). IsJudging limits trial.first (take trial.first events) es trial.base)
      (sym rest_is) (judging_beside limits trial.first trial.lane (reply_of reply) (take trial.first events)
      (drop trial.first events) trial.base is.free
      (subst AreOfLanes (sym parts ∙ ap (λ (es : List Event). take trial.first events ++ es) rest_is) whole)
      is.judging)

  pub explained_tried : AreExplained limits tried →
      AreExplained limits (take trial.first events ++ drop trial.first tried)
  explained_tried explained = subst (AreExplained limits) (sym parts) explained

  pub tried_too_many : (k : ℕ) → AreTooMany limits (trial.first + k)
      (take trial.first events ++ take k (drop trial.first tried)) (drop k (drop trial.first tried)) trial.most →
      IsTooManyAt limits tried trial.most (trial.first + k)
  tried_too_many k many = record {
    known = length tried;
    far = record {
      whole = subst AreOfLanes (sym all) whole;
      far = inr (λ less. absurd (omega (arith, less)));
    };
    too_many = subst (λ (es : List Event). AreTooMany limits (trial.first + k) (take (trial.first + k) tried)
        (drop (trial.first + k) es) trial.most) (sym all)
        (subst (λ (es : List Event). AreTooMany limits (trial.first + k) es (drop (trial.first + k) tried) trial.most)
        (sym front) (subst (λ (es : List Event). AreTooMany limits (trial.first + k)
        (take trial.first events ++ take k (drop trial.first tried)) es trial.most) (sym back) many));
  }
    where
      all : take (length tried) tried ≡ tried
      all = take_all (length tried) tried (omega arith)

      long : trial.first ≡ length (take trial.first events)
      long = sym (length-take-le trial.first events is.within)

      front : take (trial.first + k) tried ≡ take trial.first events ++ take k (drop trial.first tried)
      front = ap (take (trial.first + k)) (sym parts) ∙
          cut_behind trial.first k (take trial.first events) (drop trial.first tried) long

      back : drop (trial.first + k) tried ≡ drop k (drop trial.first tried)
      back = ap (drop (trial.first + k)) (sym parts) ∙
          rest_behind trial.first k (take trial.first events) (drop trial.first tried) long
