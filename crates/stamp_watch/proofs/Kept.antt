-- What is kept of a run.
use Rattle.std.proofs.Common.{ℕ, ◌≡◌, ◌+◌, ◌^◌, ◌<◌, ◌≤◌, List, [], ◌∷◌, ◌++◌, length, sym, ◌∙◌, ap, subst}
use Rattle.std.proofs.Common.{append-nil, append_assoc, Result, Ok, Err}
use Rattle.std.specs.Prelude.{take, drop, Vec, IfOk}
use Rattle.std.proofs.lemmas.List.{take-append-drop}
use Rattle.std.specs.declared.alloc.Global.{Global}
use Rattle.stamp_core.specs.Limits.{Bounds}
use Rattle.stamp_runs.specs.declared.event.Event.{Event}
use Rattle.stamp_watch.specs.declared.course.Course.{Course}
use Rattle.stamp_sets.specs.declared.watch.Watch.{Watch}
use Rattle.stamp_watch.specs.Course.{HasRoom, IsCourse, IsStanding}
use Rattle.stamp_watch.specs.Verdict.{AreOfLanes}
use Rattle.stamp_watch.specs.declared.online.Judge.{Judge}
use Rattle.stamp_watch.specs.Possible.{IsKept, KeepsBase}

-- what a course has
pub kept_of : (limits : Bounds) (run : List Event) (course : Course) → IsCourse limits run course →
    HasRoom course → IsKept limits run course
kept_of limits run course is space = record {
  past = is.on.past;
  more = [];
  run_is = is.on.run_is ∙ ap (λ (xs : List Event). is.on.past ++ xs) (sym (append-nil course.events.items));
  place = is.on.place;
  whole = is.on.whole;
  within = is.on.within;
  from_base = is.on.from_base;
  room = space.room;
}

-- the parts for that are the same
pub record IsSameBase (old new : Course) : Type 0 where
  pub base : new.base ≡ old.base
  pub first : new.first ≡ old.first
  pub events : new.events ≡ old.events
  pub seen : new.seen ≡ old.seen

pub kept_same : (limits : Bounds) (run : List Event) (old new : Course) → IsSameBase old new →
    IsKept limits run old → IsKept limits run new
kept_same limits run old new same is = record {
  past = is.past;
  more = is.more;
  run_is = is.run_is ∙ ap (λ (es : Vec Event Global). is.past ++ (es.items ++ is.more)) (sym same.events);
  place = same.first ∙ is.place;
  whole = subst (λ (es : Vec Event Global). AreOfLanes (is.past ++ es.items)) (sym same.events) is.whole;
  within = subst (λ (k : ℕ). k ≤ length new.events.items) (sym same.seen)
      (subst (λ (es : Vec Event Global). old.seen ≤ length es.items) (sym same.events) is.within);
  from_base = subst (λ (w : Watch). IsStanding limits new.first is.past (take new.seen new.events.items) w)
      (sym same.base) (subst (λ (n : ℕ). IsStanding limits n is.past (take new.seen new.events.items) old.base)
      (sym same.first) (subst (λ (k : ℕ). IsStanding limits old.first is.past (take k new.events.items) old.base)
      (sym same.seen) (subst (λ (es : Vec Event Global).
      IsStanding limits old.first is.past (take old.seen es.items) old.base) (sym same.events) is.from_base)));
  room = subst (λ (n : ℕ). n + length new.events.items < 2 ^ 64) (sym same.first)
      (subst (λ (es : Vec Event Global). old.first + length es.items < 2 ^ 64) (sym same.events) is.room);
}

-- one event more that isn't kept
pub kept_beside : (limits : Bounds) (run : List Event) (course : Course) (e : Event) → IsKept limits run course →
    IsKept limits (run ++ e ∷ []) course
kept_beside limits run course e is = record {
  past = is.past;
  more = is.more ++ e ∷ [];
  run_is = ap (λ (xs : List Event). xs ++ e ∷ []) is.run_is ∙
      append_assoc is.past (course.events.items ++ is.more) (e ∷ []) ∙
      ap (λ (xs : List Event). is.past ++ xs) (append_assoc course.events.items is.more (e ∷ []));
  place = is.place;
  whole = is.whole;
  within = is.within;
  from_base = is.from_base;
  room = is.room;
}

-- so it is with several
pub kept_beside_all : (limits : Bounds) (run more : List Event) (course : Course) → IsKept limits run course →
    IsKept limits (run ++ more) course
kept_beside_all limits run [] course is =
    subst (λ (xs : List Event). IsKept limits xs course) (sym (append-nil run)) is
kept_beside_all limits run (e ∷ more) course is = subst (λ (xs : List Event). IsKept limits xs course)
    (append_assoc run (e ∷ []) more)
    (kept_beside_all limits (run ++ e ∷ []) more course (kept_beside limits run course e is))

pub kept_rest : (limits : Bounds) (run events : List Event) (k : ℕ) (judge : Judge) →
    KeepsBase limits (run ++ take k events) judge → KeepsBase limits (run ++ events) judge
kept_rest limits run events k judge is = subst (λ (xs : List Event). KeepsBase limits xs judge)
    (append_assoc run (take k events) (drop k events) ∙
    ap (λ (xs : List Event). run ++ xs) (take-append-drop k events))
    (kept_beside_all limits (run ++ take k events) (drop k events) judge.course is)

-- what follows from two facts of one answer
pub IfOk-both : {X E : Type 0} (r : Result X E) (P Q R : X → Type 0) → ((x : X) → P x → Q x → R x) → IfOk r P →
    IfOk r Q → IfOk r R
IfOk-both (Ok x) P Q R f p q = f x p q
IfOk-both (Err e) P Q R f p q = tt
