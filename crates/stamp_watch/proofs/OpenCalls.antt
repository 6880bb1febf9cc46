-- The calls that are open after events, and their places.
use Rattle.std.proofs.Common.{◌≡◌, ◌≢◌, ◌<◌, ◌+◌, ℕ, suc, List, [], ◌∷◌, ◌++◌, Option, Some, None, length, get_or}
use Rattle.std.proofs.Common.{refl, sym, ◌∙◌, ap, subst, arith, append_assoc}
use Rattle.std.specs.Prelude.{drop}
use Rattle.std.proofs.lemmas.List.{length-append, length_push}
use Rattle.std.proofs.lemmas.List.Elements.{All-nil, All-push}
use Rattle.std.proofs.Math.Seq.{drop-append_seam, get_or-append_seam}
use Rattle.stamp_core.specs.declared.call.Call.{Call}
use Rattle.stamp_runs.specs.Own.{none_open, open_after}
use Rattle.stamp_runs.specs.Run.{lane_of}
use Rattle.stamp_runs.specs.declared.event.Event.{Event}
use Rattle.stamp_runs.specs.declared.event.Event.TheVariants.{Begins}
use Rattle.stamp_sets.specs.SmallCall.{call_of}
use Rattle.stamp_sets.specs.declared.small_call.SmallCall.{SmallCall}
use Rattle.stamp_watch.specs.Ahead.{IsSpared}
use Rattle.stamp_watch.specs.declared.candidates.BegunCall.{BegunCall}
use Rattle.stamp_watch.specs.inner.Candidates.{IsOpen, IsOpenAt, IsOpenIn}
use Rattle.stamp_watch.proofs.Form.{open_after_one, open_other}

-- a call that begins is open, and stays so where events of other lanes come
pub open_next : (past : List Event) (lane : ℕ) (call : Call) → IsOpen (past ++ Begins lane call ∷ []) lane call
open_next past lane call = record {
  before = past;
  behind = [];
  events_are = refl;
  spared = All-nil (λ (e : Event). lane_of e ≢ lane);
}

pub open_on : (past : List Event) (e : Event) (lane : ℕ) (call : Call) → lane_of e ≢ lane → IsOpen past lane call →
    IsOpen (past ++ e ∷ []) lane call
open_on past e lane call apart is = record {
  before = is.before;
  behind = is.behind ++ e ∷ [];
  events_are = ap (λ (xs : List Event). xs ++ e ∷ []) is.events_are ∙
      append_assoc is.before (Begins lane call ∷ is.behind) (e ∷ []);
  spared = All-push (λ (d : Event). lane_of d ≢ lane) is.behind e is.spared apart;
}

pub begun_on : (before : List Event) (e : Event) (lane : ℕ) (last : Option BegunCall) → lane_of e ≢ lane →
    IsOpenIn before lane last → IsOpenIn (before ++ e ∷ []) lane last
unfolding open_on
begun_on before e lane None apart is =
    ap (λ (calls : ℕ → Option Call). calls lane) (open_after_one none_open before e) ∙
    open_other lane (open_after before) e apart ∙ is
begun_on before e lane (Some begun) apart is = record {
  there = open_on before e lane (call_of begun.call) apart is.there;
  place_is = is.place_is;
}

pub begun_here : (before : List Event) (e : Event) (lane place : ℕ) (call : SmallCall) →
    e ≡ Begins lane (call_of call) → place ≡ length before →
    IsOpenAt (before ++ e ∷ []) lane (record { place = place; call = call })
begun_here before e lane place call is place_is = record {
  there = record {
    before = before;
    behind = [];
    events_are = ap (λ (d : Event). before ++ d ∷ []) is;
    spared = All-nil (λ (d : Event). lane_of d ≢ lane);
  };
  place_is = place_is;
}

module _ (events : List Event) (lane : ℕ) (call : Call) (is : IsOpen events lane call) where
  pub open_within : length is.before < length events
  open_within = let long : length (is.before ++ Begins lane call ∷ is.behind) ≡
      length is.before + suc (length is.behind) = length-append is.before (Begins lane call ∷ is.behind) in
      let same : length events ≡ length (is.before ++ Begins lane call ∷ is.behind) = ap length is.events_are in
      omega (arith, long, same)

  -- the event at its place begins it, and those behind it are of other lanes
  pub begins_there : (place : ℕ) (e : Event) → length is.before ≡ place → e ≡ get_or events place e →
      e ≡ Begins lane call
  begins_there place e at read = read ∙ ap (λ (n : ℕ). get_or events n e) (sym at) ∙
      ap (λ (xs : List Event). get_or xs (length is.before) e) is.events_are ∙
      get_or-append_seam is.before (Begins lane call) is.behind e

  behind_is : drop (length is.before + 1) events ≡ is.behind
  behind_is = ap (λ (n : ℕ). drop n events) (sym (length_push is.before (Begins lane call))) ∙
      ap (λ (xs : List Event). drop (length (is.before ++ Begins lane call ∷ [])) xs)
      (is.events_are ∙ sym (append_assoc is.before (Begins lane call ∷ []) is.behind)) ∙
      drop-append_seam (is.before ++ Begins lane call ∷ []) is.behind

  pub spared_there : (place : ℕ) (rest : List Event) → length is.before ≡ place → rest ≡ drop (place + 1) events →
      IsSpared rest lane
  spared_there place rest at same = subst (λ (xs : List Event). IsSpared xs lane)
      (sym (same ∙ ap (λ (n : ℕ). drop (n + 1) events) (sym at) ∙ behind_is)) is.spared
