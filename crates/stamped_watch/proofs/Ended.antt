-- The call that is told where a stream is stuck.
use Rattle.std.proofs.Common.{ℕ, ◌≡◌, ◌++◌, List, Option, Some, None, sym, ◌∙◌, ap, subst}
use Rattle.std.specs.Prelude.{IfSome}
use Rattle.std.proofs.lemmas.Option.{same_Some}
use Rattle.stamp_runs.specs.declared.event.Event.{Event}
use Rattle.stamp_watch.specs.declared.ended_call.EndedCall.{EndedCall}
use Rattle.stamp_watch.specs.declared.late.LateJudge.{LateJudge}
use Rattle.stamp_watch.specs.EndedCall.{IsEndedAt}
use Rattle.stamp_watch.specs.declared.late_verdict.LateVerdict.{LateVerdict}
use Rattle.stamp_watch.specs.declared.late_verdict.LateVerdict.TheVariants.{Is}
use Rattle.stamp_watch.specs.declared.verdict.Verdict.TheVariants as verdict
use Rattle.stamp_watch.specs.LateJudge.{EndsInRunLate, KeepsEndLate}
use Rattle.stamped_watch.specs.declared.finding.Finding.{Finding}
use Rattle.stamped_watch.specs.declared.finding.Finding.TheVariants as found
use Rattle.stamped_watch.specs.Finding.{verdict_of}
use Rattle.stamped_watch.specs.declared.header.Header.{Header}
use Rattle.stamped_watch.specs.declared.run_judge.RunJudge.{RunJudge}
use Rattle.stamped_watch.specs.Stream.{IsRunBy}
use Rattle.stamped_watch.specs.StreamJudge.{EndsInStream, KeepsCallOf}
use Rattle.stamped_watch.specs.StreamJudge.{EndsInRunOf}
use Rattle.stamped_watch.proofs.Streaming.{run_longer}

-- the call that ends where a stream is stuck ends there in more bytes
pub more_there : (bytes more : List ℕ) (judge : Option RunJudge) (f : Finding) → EndsInStream bytes judge f →
    EndsInStream (bytes ++ more) judge f
more_there bytes more None f there = tt
more_there bytes more (Some inner) f there = λ k same x is.
    let of = there k same x is in record {
      header = of.header;
      run = of.run;
      rest = of.rest ++ more;
      stream = run_longer inner.names bytes of.header of.run more of.rest of.stream;
      width_is = of.width_is;
      ends = of.ends;
    }

-- and of the stream whose events were judged
pub stream_there : (bytes : List ℕ) (header : Header) (run : List Event) (rest : List ℕ) (inner : RunJudge) →
    IsRunBy inner.names bytes header run rest → inner.width ≡ header.width → (f : Finding) →
    EndsInRunOf run inner.judge f → EndsInStream bytes (Some inner) f
stream_there bytes header run rest inner stream width f there k same x is = record {
  header = header;
  run = run;
  rest = rest;
  stream = stream;
  width_is = width;
  ends = there k same x is;
}

-- a verdict is told as what is found
pub call_there : (f : Finding) (v : LateVerdict) (run : List Event) (inner : LateJudge) → verdict_of f ≡ Some v →
    EndsInRunLate run inner.delay v → EndsInRunOf run inner f
call_there f v run inner is there k same x kept =
    subst (λ (o : Option EndedCall). IfSome o (λ (call : EndedCall). IsEndedAt run k call)) kept
    (subst (EndsInRunLate run inner.delay) (sym stuck) there)
  where
    stuck : Is (verdict.Stuck k) ≡ v
    stuck = same_Some (Is (verdict.Stuck k)) v (ap verdict_of (sym same) ∙ is)

-- where a verdict is told as what is found, the call is kept that ends where the run is stuck
pub call_kept : (f : Finding) (v : LateVerdict) (inner : LateJudge) → verdict_of f ≡ Some v →
    KeepsEndLate inner.delay v → KeepsCallOf inner f
call_kept (found.Explained calls) v inner is keeps = tt
call_kept (found.Stuck k) v inner is keeps =
    subst (KeepsEndLate inner.delay) (sym (same_Some (Is (verdict.Stuck k)) v is)) keeps
call_kept (found.StuckWithin k m) v inner is keeps = tt
call_kept (found.Undecided k why) v inner is keeps = tt
call_kept (found.Late k) v inner is keeps = tt
call_kept (found.Misplaced k why) v inner is keeps = tt
call_kept (found.BadEvent k why) v inner is keeps = tt
call_kept (found.Cut k) v inner is keeps = tt
call_kept (found.BadHeader why) v inner is keeps = tt
call_kept found.NoHeader v inner is keeps = tt
call_kept found.Full v inner is keeps = tt
