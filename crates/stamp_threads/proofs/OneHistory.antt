-- Two passes that know parts of one history agree.
use Rattle.std.proofs.Common.{◌≡◌, ◌≢◌, ℕ, Bool, List, [], ◌∷◌, ◌++◌, refl, ap, sym, ◌∙◌}
use Rattle.std.proofs.Common.{⊎_elim, inl, inr}
use mathlib.Core.List.{IsPrefix}
use Rattle.stamp_threads.specs.declared.pass_view.LogEntry.{LogEntry}
use Rattle.stamp_threads.specs.declared.pass_view.PassView.{PassView}
use Rattle.stamp_threads.specs.PassName.{HasGivenAll}
use Rattle.stamp_threads.specs.PassView.{IsPart, made_by, PassesMet}
use Rattle.stamp_threads.specs.OneHistory.{AreOrdered, Agree}
use Rattle.stamp_threads.proofs.MadeBy.{made_by-append}

ordered_by : {A : Type 0} (xs a ys b : List A) → xs ++ a ≡ ys ++ b → AreOrdered xs ys
ordered_by [] a ys b e = inl (ys, refl)
ordered_by (x ∷ xs) a [] b e = inr (x ∷ xs, refl)
ordered_by (x ∷ xs) a (y ∷ ys) b e =
    let same : x ≡ y = cc in
    let rest : xs ++ a ≡ ys ++ b = cc in
    ⊎_elim (λ (p : IsPrefix xs ys). inl (p.0, λ i. same i ∷ p.1 i))
    (λ (p : IsPrefix ys xs). inr (p.0, λ i. sym same i ∷ p.1 i))
    (ordered_by xs a ys b rest)

-- beginnings of one list are ordered
beginnings_ordered : {A : Type 0} (xs ys all : List A) → IsPrefix xs all → IsPrefix ys all →
    AreOrdered xs ys
beginnings_ordered xs ys all a b = ordered_by xs a.0 ys b.0 (a.1 ∙ sym b.1)

-- what a beginning has of a pass are the first that it made
made_first : {E : Type 0} (kind : E → Bool) (name : List ℕ) (xs all : List (LogEntry E)) (own : List E)
    → IsPrefix xs all → made_by kind name all ≡ own → IsPrefix (made_by kind name xs) own
made_first kind name xs all own a is = (
  made_by kind name a.0,
  sym (made_by-append kind name xs a.0) ∙ (ap (made_by kind name) a.1 ∙ is),
)

pub agree : {E P : Type 0} (is_call : E → Bool) (IsLegal : List (LogEntry E) → Type 0)
    (v w : PassView E P) (log : List (LogEntry E)) → IsLegal log → IsPart is_call log v →
    IsPart is_call log w → v.name ≢ w.name → Agree is_call IsLegal v w
agree is_call IsLegal v w log legal first second apart = record {
  log = log;
  legal = legal;
  first = first;
  second = second;
  apart = apart;
  ordered = beginnings_ordered v.known w.known log first.known second.known;
  first_calls = made_first is_call v.name w.known log v.own second.known first.own;
  second_calls = made_first is_call w.name v.known log w.own first.known second.own;
}

-- two passes that met knew parts of the history that both know now
pub met_agree : {E P : Type 0} (is_call : E → Bool) (IsLegal : List (LogEntry E) → Type 0)
    (v w v' w' : PassView E P) → PassesMet v w v' w' → IsLegal v'.known →
    made_by is_call v'.name v'.known ≡ v'.own → HasGivenAll v'.name v'.splits v'.known →
    made_by is_call w'.name w'.known ≡ w'.own → HasGivenAll w'.name w'.splits w'.known →
    Agree is_call IsLegal v w
met_agree is_call IsLegal v w v' w' m legal first_own first_given second_own second_given =
    agree is_call IsLegal v w v'.known legal (record {
      known = m.first_begins;
      own = rw m.no_calls.0.same.name at first_own ∙ m.no_calls.0.own;
      given = rw (m.no_calls.0.same.name, m.no_calls.0.same.splits) at first_given;
    }) (record {
      known = m.second_begins;
      own = rw (m.no_calls.1.same.name, m.alike) at second_own ∙ m.no_calls.1.own;
      given = rw (m.no_calls.1.same.name, m.no_calls.1.same.splits, m.alike) at second_given;
    }) m.apart
