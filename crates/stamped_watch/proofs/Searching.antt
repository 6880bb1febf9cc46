-- What a search from one start comes to.
use Rattle.std.proofs.Common.{ℕ, ◌≡◌, List, Some, map, subst, ◌∙◌}
use Rattle.std.specs.Prelude.{Result, Ok, Err, IfOk}
use Rattle.std.specs.declared.alloc.AllocError.{AllocError}
use Rattle.stamp_core.specs.Limits.{Bounds}
use Rattle.stamp_core.specs.declared.reply.Reply.{Reply}
use Rattle.stamp_explain.specs.declared.observed.Observation.{Observation}
use Rattle.stamp_observed.specs.Behind.{IsFoundBehind, IsStuckWith}
use Rattle.stamp_observed.specs.declared.behind.SearchEnd.{SearchEnd}
use Rattle.stamp_observed.specs.declared.behind.SearchEnd.TheVariants.{Small, NotFound}
use Rattle.stamp_observed.specs.declared.opening.State.{State}
use Rattle.stamp_watch.specs.declared.ended_call.EndedCall.{EndedCall}
use Rattle.stamp_watch.specs.declared.online.Judge.{Judge}
use Rattle.stamp_watch.specs.Names.{words_in}
use Rattle.stamped_watch.specs.declared.run_judge.RunJudge.{RunJudge}
use Rattle.stamped_watch.specs.Calls.{observation_by, told_beside, told_end}
use Rattle.stamped_watch.specs.Witness.{IsCallOf, told_before, width_told}
use Rattle.stamped_watch.specs.inner.Witness.{IsSearchedFrom, IsStateAt}

module _ (run : RunJudge) (judge : Judge) (number : ℕ) (x : EndedCall) (most start : ℕ) (state : State)
    (at : IsStateAt run judge start state) (reply : Reply) (reply_is : x.reply ≡ Some reply)
    (limits : Bounds) (width : ℕ) (others : List Observation) (e : Observation)
    (limits_are : limits ≡ judge.course.base.limits) (width_is : width ≡ width_told run.width)
    (others_are : others ≡ map (observation_by (words_in run.names))
    (told_beside x.lane (told_before judge number start)))
    (call : IsCallOf x e) (ended_is : e ≡ told_end x reply (told_before judge number start)) where
  searched : (end : SearchEnd) → IsFoundBehind limits width state others e most end →
      IsSearchedFrom run judge number x most start end
  searched (Small small) is = record {
    call = e;
    call_is = call;
    stuck = subst (λ (w : ℕ). IsStuckWith judge.course.base.limits w e small) width_is
        (subst (λ (l : Bounds). IsStuckWith l width e small) limits_are is);
  }
  searched (NotFound sought) is = record {
    word = at.word;
    of_start = at.of_start;
    reply = reply;
    reply_is = reply_is;
    so = record {
      limits_are = is.limits_are ∙ limits_are;
      width_is = is.width_is ∙ width_is;
      state_is = is.state_is ∙ at.state_is;
      others_are = is.others_are ∙ others_are;
      ended_is = is.ended_is ∙ ended_is;
      most_is = is.most_is;
    };
  }

  pub searched_if : (r : Result SearchEnd AllocError) →
      IfOk r (λ (end : SearchEnd). IsFoundBehind limits width state others e most end) →
      IfOk r (λ (end : SearchEnd). IsSearchedFrom run judge number x most start end)
  searched_if (Ok end) is = searched end is
  searched_if (Err refused) is = tt
