-- How far ahead the end of a call was looked for.
use Rattle.std.proofs.Common.{ℕ, ◌≡◌, ◌+◌, ◌-◌, ◌<◌, ◌≤◌, List, [], ◌∷◌, ◌++◌, length, get_or, refl, sym, ◌∙◌, ap}
use Rattle.std.proofs.Common.{subst}
use Rattle.std.proofs.Common.{arith, add-zero}
use Rattle.std.specs.Prelude.{take, drop}
use Rattle.std.proofs.lemmas.List.Elements.{All-nil}
use Rattle.std.proofs.lemmas.List.{take_all, take-append-drop, take-append-le, drop-drop, length-append, length-drop}
use Rattle.std.proofs.lemmas.List.{drop-append-le, length-take-le}
use Rattle.stamp_runs.specs.declared.event.Event.{Event}
use Rattle.stamp_runs.specs.declared.event.Event.TheVariants.{Begins}
use Rattle.stamp_runs.specs.Run.{IsEndOf, EndsNever}
use Rattle.stamp_sets.specs.declared.ending.Ending.{Ending}
use Rattle.stamp_sets.specs.declared.ending.Ending.TheVariants.{Never}
use Rattle.stamp_watch.specs.AsObserved.{ending_of}
use Rattle.stamp_watch.specs.Foretold.{told_as}
use Rattle.stamp_watch.specs.Course.{LeavesOpen, IsLooked}
use Rattle.stamp_watch.specs.inner.Judging.{IsEndTold}
use Rattle.stamp_watch.specs.inner.Course.{IsUnknown}
use Rattle.stamp_watch.proofs.Judging.{ends_so}
use Rattle.stamp_watch.proofs.Numbered.{ending_spares}
use Rattle.stamp_watch.proofs.Reading.{drop_read}
use Rattle.stamp_watch.proofs.Ways.{never_later, not_end}

-- the end of a call that these events leave open is told by those that come then
ending_past : (lane n : ℕ) (events more : List Event) → EndsNever lane events →
    ending_of lane n (events ++ more) ≡ ending_of lane (n + length events) more
ending_past lane n [] more never = ap (λ (m : ℕ). ending_of lane m more) (sym (add-zero n))
ending_past lane n (event ∷ events) more never =
    let next : n + 1 + length events ≡ n + length (event ∷ events) = omega arith in
    ending_spares lane n event (events ++ more) (not_end lane event events never) ∙
    ending_past lane (n + 1) events more (never_later lane event events never) ∙
    ap (λ (m : ℕ). ending_of lane m more) next

-- so the end of the first event's call is told by the events that were not looked at
told_further : (e : Event) (n looked : ℕ) (ahead : List Event) (ends : Ending) → IsLooked looked (e ∷ ahead) →
    IsEndTold e (n + looked) (drop looked ahead) ends → IsEndTold e n ahead ends
told_further (Begins lane call) n looked ahead ends is told = told ∙ sym through
  where
    through : ending_of lane n ahead ≡ ending_of lane (n + looked) (drop looked ahead)
    through = ap (λ (xs : List Event). ending_of lane n xs) (sym (take-append-drop looked ahead)) ∙
        ending_past lane n (take looked ahead) (drop looked ahead) is.1 ∙
        ap (λ (k : ℕ). ending_of lane (n + k) (drop looked ahead)) (length-take-le looked ahead is.0)
told_further _ n looked ahead ends is told = tt

leaves_none : (e : Event) → LeavesOpen e []
leaves_none (Begins lane call) = All-nil (λ (e : Event). ¬ IsEndOf lane e)
leaves_none _ = tt

leaves_all : (e : Event) (n : ℕ) (ahead : List Event) (ends : Ending) → IsUnknown e ends →
    IsEndTold e n ahead ends → LeavesOpen e ahead
leaves_all (Begins lane call) n ahead ends never told = ends_so lane n ahead Never (sym (ap told_as never) ∙ told)
leaves_all _ n ahead ends never told = tt

-- nothing was looked at
pub looked_none : (events : List Event) → IsLooked 0 events
looked_none [] = refl
looked_none (e ∷ events) = (omega arith, leaves_none e)

-- one event more
looked_longer : (looked : ℕ) (events : List Event) (x : Event) → IsLooked looked events →
    IsLooked looked (events ++ x ∷ [])
looked_longer looked [] x none = subst (λ (k : ℕ). IsLooked k (x ∷ [])) (sym none) (looked_none (x ∷ []))
looked_longer looked (e ∷ events) x is = (
  let long : length (events ++ x ∷ []) ≡ length events + length (x ∷ []) = length-append events (x ∷ []) in
      let low : looked ≤ length events = is.0 in omega (arith, long, low),
  subst (LeavesOpen e) (sym (take-append-le looked events (x ∷ []) is.0)) is.1,
)

pub looked_added : (looked seen : ℕ) (events : List Event) (x : Event) → seen ≤ length events →
    IsLooked looked (drop seen events) → IsLooked looked (drop seen (events ++ x ∷ []))
looked_added looked seen events x within is =
    subst (λ (xs : List Event). IsLooked looked xs) (sym (drop-append-le seen events (x ∷ []) within))
    (looked_longer looked (drop seen events) x is)

-- where an event is at the front
module _ (seen : ℕ) (events : List Event) (e : Event) (less : seen < length events) (read : e ≡ get_or events seen e)
  where
    long_behind : length (drop (seen + 1) events) ≡ length events - (seen + 1)
    long_behind = length-drop (seen + 1) events

    looked_here : (looked : ℕ) → IsLooked looked (drop seen events) → IsLooked looked (e ∷ drop (seen + 1) events)
    looked_here looked is = subst (λ (xs : List Event). IsLooked looked xs) (drop_read events seen e less read) is

    pub looked_within : (looked : ℕ) → IsLooked looked (drop seen events) → seen + 1 + looked ≤ length events
    looked_within looked is =
        let low : looked ≤ length (drop (seen + 1) events) = (looked_here looked is).0 in
        let long : length (drop (seen + 1) events) ≡ length events - (seen + 1) = long_behind in
        omega (arith, low, long, less)

    pub told_at_front : (looked n : ℕ) (ends : Ending) → IsLooked looked (drop seen events) →
        IsEndTold e (n + looked) (drop (seen + 1 + looked) events) ends → IsEndTold e n (drop (seen + 1) events) ends
    told_at_front looked n ends is told = told_further e n looked (drop (seen + 1) events) ends (looked_here looked is)
        (subst (λ (xs : List Event). IsEndTold e (n + looked) xs ends) (sym (drop-drop looked (seen + 1) events)) told)

    -- all events behind it were looked at
    pub looked_all : (n k : ℕ) (ends : Ending) → seen + 1 + k ≡ length events → IsUnknown e ends →
        IsEndTold e n (drop (seen + 1) events) ends → IsLooked k (drop seen events)
    looked_all n k ends all unknown told =
        subst (λ (xs : List Event). IsLooked k xs) (sym (drop_read events seen e less read)) (
          k_within,
          subst (LeavesOpen e) (sym (take_all k (drop (seen + 1) events) k_whole))
              (leaves_all e n (drop (seen + 1) events) ends unknown told),
        )
      where
        k_within : k ≤ length (drop (seen + 1) events)
        k_within = let long : length (drop (seen + 1) events) ≡ length events - (seen + 1) = long_behind in
            omega (arith, long, all)

        k_whole : length (drop (seen + 1) events) ≤ k
        k_whole = let long : length (drop (seen + 1) events) ≡ length events - (seen + 1) = long_behind in
            omega (arith, long, all)
