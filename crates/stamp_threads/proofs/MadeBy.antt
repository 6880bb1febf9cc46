-- What a pass made, as a history grows.
use Rattle.std.proofs.Common.{◌≡◌, ◌≢◌, ℕ, Bool, true, false, if◌then◌else◌, nat_eq, List, [], ◌∷◌}
use Rattle.std.proofs.Common.{◌++◌, refl, ap, ◌∙◌, append-nil}
use lib.Pointwise.{pointwise, bytes_decides}
use mathlib.Core.List.{IsPrefix}
use Rattle.stamp_threads.specs.declared.pass_view.LogEntry.{LogEntry}
use Rattle.stamp_threads.specs.declared.pass_view.PassView.{PassView}
use Rattle.stamp_threads.specs.PassName.{HasGiven, HasGivenAll, IsRooted, AreRooted}
use Rattle.stamp_threads.specs.PassView.{entry, made_by}
use lib.ListN.{get_elem?}
use mathlib.Core.Option.{some}
use Rattle.stamp_threads.proofs.Beginnings.{begins_all, begins_more}

abbrev pub added : {E : Type 0} → (E → Bool) → E → List E
added kind e = if kind e then e ∷ [] else []

chosen : (b c : Bool) {E : Type 0} (e : E) (all some_of more : List E) → all ≡ some_of ++ more →
    (if b then (if c then e ∷ all else all) else all) ≡
    (if b then (if c then e ∷ some_of else some_of) else some_of) ++ more
chosen true true e all some_of more p = ap (λ l. e ∷ l) p
chosen true false e all some_of more p = p
chosen false c e all some_of more p = p

pub made_by-append : {E : Type 0} (kind : E → Bool) (name : List ℕ) (xs ys : List (LogEntry E)) →
    made_by kind name (xs ++ ys) ≡ made_by kind name xs ++ made_by kind name ys
made_by-append kind name [] ys = refl
made_by-append kind name (x ∷ xs) ys = chosen (pointwise nat_eq x.name name) (kind x.made) x.made _
    _ _ (made_by-append kind name xs ys)

pub other_name : (b : Bool) (a c : List ℕ) → pointwise nat_eq a c ≡ b → a ≢ c → b ≡ false
other_name true a c e apart = absurd (apart ((bytes_decides a c).0 e))
other_name false a c e apart = refl

pub skips : (b c : Bool) {E : Type 0} (e : E) (ms : List E) → b ≡ false → ms ≡ [] →
    (if b then (if c then e ∷ ms else ms) else ms) ≡ []
skips b c e ms f rest = rw f rest

pub made_by-other : {E : Type 0} (kind : E → Bool) (name other : List ℕ) (log : List (LogEntry E))
    (e : E) → name ≢ other → made_by kind other (log ++ entry name e ∷ []) ≡ made_by kind other log
made_by-other kind name other log e apart =
    made_by-append kind other log (entry name e ∷ []) ∙
    (ap (λ l. made_by kind other log ++ l)
    (skips _ (kind e) e [] (other_name _ name other refl apart) refl) ∙ append-nil _)

pub made_by-same : {E : Type 0} (kind : E → Bool) (name : List ℕ) (log : List (LogEntry E)) (e : E) →
    made_by kind name (log ++ entry name e ∷ []) ≡ made_by kind name log ++ added kind e
made_by-same kind name log e = made_by-append kind name log (entry name e ∷ []) ∙
    ap (λ (b : Bool). made_by kind name log ++ (if b then added kind e else []))
    ((bytes_decides name name).1 refl)

pub given-append : {E : Type 0} (name : List ℕ) (splits : ℕ) (xs ys : List (LogEntry E)) →
    HasGivenAll name splits xs → HasGivenAll name splits ys → HasGivenAll name splits (xs ++ ys)
given-append name splits [] ys a b = b
given-append name splits (x ∷ xs) ys a b = (a.0, given-append name splits xs ys a.1 b)

pub rooted-append : {E : Type 0} (roots : ℕ) (xs ys : List (LogEntry E)) → AreRooted roots xs →
    AreRooted roots ys → AreRooted roots (xs ++ ys)
rooted-append roots [] ys a b = b
rooted-append roots (x ∷ xs) ys a b = (a.0, rooted-append roots xs ys a.1 b)

-- the history goes on, by events of these passes alone
pub record Grows {E P : Type 0} (vs : List (PassView E P)) (log log' : List (LogEntry E)) : Type 0
  where
    pub longer : IsPrefix log log'
    pub others : (kind : E → Bool) (name : List ℕ) →
        ((k : ℕ) (v : PassView E P) → get_elem? vs k ≡ some v → v.name ≢ name) →
        made_by kind name log' ≡ made_by kind name log
    pub given : (name : List ℕ) (splits : ℕ) →
        ((k : ℕ) (v : PassView E P) → get_elem? vs k ≡ some v → HasGiven name splits v.name) →
        HasGivenAll name splits log → HasGivenAll name splits log'
    pub rooted : (roots : ℕ) →
        ((k : ℕ) (v : PassView E P) → get_elem? vs k ≡ some v → IsRooted roots v.name) →
        AreRooted roots log → AreRooted roots log'

pub grows_none : {E P : Type 0} (vs : List (PassView E P)) (log : List (LogEntry E)) → Grows vs log log
grows_none vs log = record {
  longer = begins_all log;
  others = λ _ _ _. refl;
  given = λ _ _ _ h. h;
  rooted = λ _ _ h. h;
}

pub grows_one : {E P : Type 0} (v : PassView E P) (log : List (LogEntry E)) (e : E) →
    Grows (v ∷ []) log (log ++ entry v.name e ∷ [])
grows_one v log e = record {
  longer = begins_more log (entry v.name e ∷ []);
  others = λ kind name apart. made_by-other kind v.name name log e (apart 0 v refl);
  given = λ name splits h all. given-append name splits log (entry v.name e ∷ []) all
      (h 0 v refl, tt);
  rooted = λ roots h all. rooted-append roots log (entry v.name e ∷ []) all (h 0 v refl, tt);
}
