-- How a run of calls comes on.
use Rattle.std.proofs.Common.{◌≡◌, ℕ, ◌+◌, ◌%◌, List, [], ◌++◌, Option, Some, refl, sym, ◌∙◌, ap, subst, add-one}
use Rattle.std.specs.Prelude.{slice_get, suc}
use Rattle.stamp_core.specs.LockEvent.{LockEvent}
use Rattle.stamp_core.specs.Limits.{Bounds}
use Rattle.stamp_core.specs.Word.{LockWord, Represents, IsAdmitted, word_at}
use Rattle.stamp_core.specs.Decision.{Decides}
use Rattle.stamp_core.specs.CountedDecision.{decision}
use Rattle.stamp_core.specs.declared.call.Call.{Call}
use Rattle.stamp_core.specs.declared.decision.Decision.{Decision}
use Rattle.stamp_core.specs.declared.decision.Decision.TheVariants.{Answer, Change, Wait}
use Rattle.timings.specs.declared.decide.run.Run.{Run}
use Rattle.timings.specs.declared.cycle.TheConstants.{CYCLE}
use Rattle.timings.specs.Cycle.{cycle}
use Rattle.timings.specs.DecidedRun.{run_after, run_start, next_run, taken}

-- how far the calls have come
pub record Running (limits : Bounds) (i : ℕ) (run : Run) : Type 0 where
  pub is : run ≡ run_after limits i
  pub admitted : IsAdmitted limits (word_at limits run.number)

run_after-zero : (limits : Bounds) → run_after limits 0 ≡ run_start limits
unfolding run_after
run_after-zero limits = refl

run_after-suc : (limits : Bounds) (i : ℕ) → run_after limits (suc i) ≡
    next_run limits (run_after limits i) (slice_get (cycle (run_after limits i).stamp) (i % CYCLE))
unfolding run_after
run_after-suc limits i = refl

at_number : (limits : Bounds) (word : LockWord) (events : List LockEvent) → Represents limits word events →
    IsAdmitted limits (word_at limits word.bits)
at_number limits word events represented = record {
  events = events;
  represented = record { well_formed = represented.well_formed; layout = refl; spelled = represented.spelled };
}

pub start : (limits : Bounds) (word : LockWord) (number : ℕ) → Represents limits word [] → number ≡ word.bits →
    Running limits 0 (record { number = number; stamp = 0; sum = 0 })
start limits word number represented is = record {
  is = ap (λ (n : ℕ). record { number = n; stamp = 0; sum = 0 }) (is ∙ represented.spelled) ∙
      sym (run_after-zero limits);
  admitted = subst (λ (n : ℕ). IsAdmitted limits (word_at limits n)) (sym is) (at_number limits word [] represented);
}

-- a decision leaves an admitted word
admitted_after : (limits : Bounds) (run : Run) (call : Call) (made : Decision) →
    IsAdmitted limits (word_at limits run.number) → Decides limits (word_at limits run.number) call made →
    IsAdmitted limits (word_at limits (taken run made).number)
admitted_after limits run call (Answer reply) admitted decides = admitted
admitted_after limits run call (Change word reply) admitted decides =
    let moves = decides admitted.events admitted.represented in
    at_number limits word (admitted.events ++ moves.appended) moves.represented
admitted_after limits run call Wait admitted decides = admitted

pub more : (limits : Bounds) (i : ℕ) (run : Run) (word : LockWord) (call : Call) (made : Decision) →
    Running limits i run → slice_get (cycle run.stamp) (i % CYCLE) ≡ Some call → word ≡ word_at limits run.number →
    made ≡ decision limits word.bits call → Decides limits word call made → Running limits (i + 1) (taken run made)
more limits i run word call made so_far turn at by_number decides =
    let next : Run → Run = λ r. next_run limits r (slice_get (cycle r.stamp) (i % CYCLE)) in
    let decided : made ≡ decision limits run.number call = by_number ∙
    ap (λ (w : LockWord). decision limits w.bits call) at in
    let made_next : taken run made ≡ next run = ap (λ (d : Decision). taken run d) decided ∙
    sym (ap (λ (o : Option Call). next_run limits run o) turn) in
    record {
      is = made_next ∙ ap next so_far.is ∙ sym (run_after-suc limits i) ∙
          sym (ap (λ (n : ℕ). run_after limits n) (add-one i));
      admitted = admitted_after limits run call made so_far.admitted
          (subst (λ (w : LockWord). Decides limits w call made) at decides);
    }
