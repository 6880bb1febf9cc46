-- A candidate whose history is stuck at its last call, where it ends, with the same possible replies, is stuck as the
-- run is.
use Rattle.std.proofs.Common.{◌≡◌, ◌≤◌, ◌+◌, ◌++◌, ◌∷◌, [], ℕ, List, Some, length, length-append, arith, refl, ap, ◌∙◌}
use Rattle.std.proofs.Common.{Option, subst}
use Rattle.std.specs.Prelude.{slice_get, Any}
use Rattle.std.specs.List.{All}
use Rattle.std.proofs.lemmas.Option.{slice_get-get_or, MatchOption-at_some}
use Rattle.std.proofs.Math.Seq.{get_or-append_seam}
use Rattle.stamp_core.specs.Limits.{units}
use Rattle.stamp_explain.specs.declared.observed.Observation.{Observation}
use Rattle.stamp_explain.specs.Cut.{IsStuck}
use Rattle.stamp_explain.specs.Observed.{ObservedHistory, IsObserved}
use Rattle.stamp_observed.specs.declared.fault.Fault.{Fault}
use Rattle.stamp_observed.specs.declared.candidate.Candidate.{Candidate}
use Rattle.stamp_observed.specs.Small.{ArePossibleToo, IsStuckAs, renumbered_possible}
use Rattle.stamp_observed.specs.declared.issued.IssuedStamp.{IssuedStamp}
use Rattle.stamp_observed.specs.Issued.{Issues, IsStillIssued}
use Rattle.stamp_observed.specs.inner.Fault.{IsFaultOf, IsShownBy, IsStampBy, replies_in}
use Rattle.stamp_observed.specs.inner.Candidate.{history_of, return_in, stand_in}
use Rattle.stamp_observed.specs.inner.Over.{IsOverBy}
use Rattle.stamp_observed.proofs.CutAgain.{all_over}

pub last_of : (es : List Observation) (e : Observation) → slice_get (es ++ e ∷ []) (length es) ≡ Some e
last_of es e =
    slice_get-get_or (es ++ e ∷ []) (length es) e (omega (arith, length-append es (e ∷ []))) ∙
    ap Some (get_or-append_seam es e [] e)

-- the stamp is issued by those by whom it has to be
shown_by : (h : ObservedHistory) (fault : Fault) (c : Candidate) (small : ObservedHistory) (stamp : ℕ)
    (by : Option ℕ) → IsStampBy fault.stamp stamp by →
    IsShownBy (units h.limits) c small.entries fault →
    IsStillIssued (units h.limits) c.versions small.entries by c.first stamp
shown_by h fault c small stamp by has shown =
    let still : IsStillIssued (units h.limits) c.versions small.entries has.issued.by c.first has.issued.stamp =
    MatchOption-at_some (Unit {0}) (λ (issued : IssuedStamp). IsStillIssued (units h.limits) c.versions small.entries
    issued.by c.first issued.stamp) has.issued has.is shown.issued in
    let same : IsStillIssued (units h.limits) c.versions small.entries has.issued.by c.first stamp =
    subst (IsStillIssued (units h.limits) c.versions small.entries has.issued.by c.first) has.stamp_is still in
    record { some = same.some; issued = all_by same.issued }
  where
    all_by : {s : ℕ} → Any (Issues has.issued.by c.first s) small.entries → Any (Issues by c.first s) small.entries
    all_by (k, x, lt, at, is) = (k, x, lt, at, (has.whose x is.0, is.1))

pub stuck_as : (h : ObservedHistory) (most : ℕ) (fault : Fault) (c : Candidate) (small : ObservedHistory)
    (place : ℕ) →
    IsFaultOf h most fault → IsObserved small → small ≡ history_of h fault c → place ≡ length c.others.items →
    All (IsOverBy c.last) small.entries → IsStuck small place →
    ArePossibleToo small place (renumbered_possible (units h.limits) c.versions (replies_in fault.possible)) →
    IsShownBy (units h.limits) c small.entries fault → IsStuckAs h most fault.entry small
stuck_as h most fault c small place is observed same here over stuck too shown = record {
  observed = observed;
  limits = ap (λ (g : ObservedHistory). g.limits) same;
  width = ap (λ (g : ObservedHistory). g.width) same;
  at = record { entry = fault.call; return = fault.returned; is_entry = is.is_entry; returned = is.returned };
  place = place;
  there = record {
    entry = stand_in (units h.limits) fault c;
    return = return_in (units h.limits) fault c;
    is_entry = ap (λ (g : ObservedHistory). slice_get g.entries place) same ∙
        ap (λ (n : ℕ). slice_get (history_of h fault c).entries n) here ∙
        last_of c.others.items (stand_in (units h.limits) fault c);
    returned = refl;
  };
  stuck = stuck;
  whole = all_over small c.last (place + 1) over length_is;
  versions = c.versions;
  renumbered = record { thread = refl; call = refl; reply = refl };
  kept = record {
    few = omega (arith, shown.few, is.writes);
    answer = shown.answer;
    issued = λ stamp taken some by is_by before. shown_by h fault c small stamp by
        (is.stamp stamp taken some by is_by before) shown;
  };
  replies = replies_in fault.possible;
  possible = is.possible;
  too = too;
}
  where
    length_is : length small.entries ≤ place + 1
    length_is = omega (
      arith,
      here,
      ap (λ (g : ObservedHistory). length g.entries) same,
      length-append c.others.items (stand_in (units h.limits) fault c ∷ []),
    )
