-- What a judge keeps of a run in which calls may begin late, and which replies are possible in it.
use Rattle.std.proofs.Common.{ℕ, ◌≡◌, ◌+◌, ◌<◌, ◌≤◌, List, [], ◌∷◌, ◌++◌, length, Option, Some, None, refl, sym, ◌∙◌}
use Rattle.std.proofs.Common.{◌-◌, false, ap, subst, arith, append_assoc, append-nil, get_or}
use Rattle.std.specs.Prelude.{⊤, true, drop, is_some, take, slice_get, MatchOption}
use Rattle.std.proofs.lemmas.Bool.{false≢true}
use Rattle.std.proofs.lemmas.List.{length-append, length-drop, take-append-le, take-take}
use Rattle.std.proofs.lemmas.List.{get_or-take}
use Rattle.std.proofs.lemmas.Option.{get_or_from_slice_get, slice_get_read, slice_get_within}
use Rattle.stamp_core.specs.Limits.{Bounds}
use Rattle.stamp_core.specs.declared.reply.Reply.{Reply}
use Rattle.stamp_runs.specs.declared.event.Event.{Event}
use Rattle.stamp_runs.specs.declared.event.Event.TheVariants.{Returns}
use Rattle.stamp_runs.specs.BothRun.{AreExplained}
use Rattle.stamp_sets.specs.SmallCall.{reply_of}
use Rattle.stamp_sets.specs.declared.small_call.SmallReply.{SmallReply}
use Rattle.stamp_watch.specs.declared.delay.Delay.{Delay}
use Rattle.stamp_watch.specs.declared.late.LateJudge.{LateJudge}
use Rattle.stamp_watch.specs.Delay.{IsDelayed, IsFirstIfAny}
use Rattle.stamp_watch.specs.Possible.{AreTooManyWith, ArePossibleAmong, IsPossibleReply, IsTold, KeepsBase}
use Rattle.stamp_watch.specs.PossibleLate.{AreSameUntil, CanTellLater, IsToldLater, KeepsDelayed, KeepsLater}
use Rattle.stamp_watch.specs.declared.possible.KeptReturn.{KeptReturn}
use Rattle.stamp_watch.specs.inner.Possible.{IsKeptReturn, IsReturnHere}
use Rattle.stamp_watch.specs.Verdict.{IsOpenFor}
use Rattle.stamp_watch.proofs.LongCalls.{open_still}
use Rattle.stamp_watch.proofs.TryingReplies.{run_there}

-- the call that is open begins at one of the events
open_within : (run : List Event) (first window : ℕ) → IsOpenFor run first window → first < length run
open_within run first window is =
    let rest = ap (λ (xs : List Event). length xs) is.there in
    let long : length (drop first run) ≡ length run - first = length-drop first run in
    omega (arith, rest, long)

-- one event more
pub same_beside : (run given : List Event) (first : Option ℕ) (e : Event) → AreSameUntil run given first →
    AreSameUntil (run ++ e ∷ []) given first
same_beside run given None e is = (
  is.0 ++ e ∷ [],
  ap (λ (xs : List Event). xs ++ e ∷ []) is.1 ∙
      append_assoc given is.0 (e ∷ []),
)
same_beside run given (Some first) e is = (
  is.0,
  (let long = length-append run (e ∷ []) in let within : first ≤ length run = is.1 in omega (arith, long, within)),
  is.2 ∙ sym (take-append-le first run (e ∷ []) is.1),
)

open_beside : (run given : List Event) (first : Option ℕ) (window : ℕ) (e : Event) → AreSameUntil run given first →
    MatchOption first ⊤ (λ (n : ℕ). IsOpenFor run n window) →
    MatchOption first ⊤ (λ (n : ℕ). IsOpenFor (run ++ e ∷ []) n window)
open_beside run given None window e same is = is
open_beside run given (Some first) window e same is =
    open_still run (e ∷ []) first window (open_within run first window is) is

pub keeps_beside : (limits : Bounds) (run : List Event) (delay : Delay) (e : Event) → KeepsDelayed limits run delay →
    KeepsDelayed limits (run ++ e ∷ []) delay
keeps_beside limits run delay e is = record {
  given = is.given;
  keeps = is.keeps;
  same = same_beside run is.given delay.first_late e is.same;
  long = open_beside run is.given delay.first_late delay.ahead e is.same is.long;
}

same_of : (ahead : ℕ) (run past given aside waiting : List Event) (first : Option ℕ) → run ≡ past ++ waiting →
    IsFirstIfAny ahead run past given aside first → AreSameUntil run given first
same_of ahead run past given aside waiting None parts is =
    (waiting, parts ∙ ap (λ (xs : List Event). xs ++ waiting) (sym is.1))
same_of ahead run past given aside waiting (Some first) parts is =
    (is.given_more, (let before : first < length run = is.before in omega (arith, before)), is.same)

first_open : (ahead window : ℕ) (run past given aside : List Event) (first : Option ℕ) → window ≡ ahead →
    IsFirstIfAny ahead run past given aside first → MatchOption first ⊤ (λ (n : ℕ). IsOpenFor run n window)
first_open ahead window run past given aside None same is = tt
first_open ahead window run past given aside (Some first) same is =
    subst (λ (n : ℕ). IsOpenFor run first n) (sym same) is.open_for

-- so it is with a delay
pub keeps_of : (limits : Bounds) (most ahead : ℕ) (run : List Event) (delay : Delay) →
    IsDelayed limits most ahead run delay → KeepsDelayed limits run delay
keeps_of limits most ahead run delay is = record {
  given = is.given;
  keeps = is.keeps;
  same = same_of (ahead - 64) run is.handed.past is.given delay.aside.items delay.waiting.events.items delay.first_late
      is.handed.run_is is.handed.first_is;
  long = first_open (ahead - 64) delay.ahead run is.handed.past is.given delay.aside.items delay.first_late is.ahead_is
      is.handed.first_is;
}

same_given_all : (ahead : ℕ) (run past given aside waiting : List Event) (first : Option ℕ) → run ≡ past ++ waiting →
    IsFirstIfAny ahead run past given aside first → AreSameUntil run (given ++ (aside ++ waiting)) first
same_given_all ahead run past given aside waiting None parts is = (
  [],
  parts ∙ ap (λ (xs : List Event). xs ++ waiting) (sym is.1) ∙
      ap (λ (xs : List Event). given ++ (xs ++ waiting)) (sym is.0) ∙ sym (append-nil (given ++ (aside ++ waiting))),
)
same_given_all ahead run past given aside waiting (Some first) parts is = (
  (let long = length-append given (aside ++ waiting) in let within : first ≤ length given = is.given_more in
      omega (arith, long, within)),
  (let before : first < length run = is.before in omega (arith, before)),
  take-append-le first given (aside ++ waiting) is.given_more ∙ is.same,
)

-- and once the judge was given all that was not given to it
pub keeps_all : (limits : Bounds) (most ahead : ℕ) (run : List Event) (old new : Delay)
    (is : IsDelayed limits most ahead run old) → new.first_late ≡ old.first_late → new.ahead ≡ old.ahead →
    KeepsBase limits (is.given ++ (old.aside.items ++ old.waiting.events.items)) new.judge →
    KeepsDelayed limits run new
keeps_all limits most ahead run old new is first window keeps = record {
  given = is.given ++ (old.aside.items ++ old.waiting.events.items);
  keeps = keeps;
  same = subst (AreSameUntil run (is.given ++ (old.aside.items ++ old.waiting.events.items))) (sym first)
      (same_given_all (ahead - 64) run is.handed.past is.given old.aside.items old.waiting.events.items old.first_late
      is.handed.run_is is.handed.first_is);
  long = subst (λ (o : Option ℕ). MatchOption o ⊤ (λ (n : ℕ). IsOpenFor run n new.ahead)) (sym first)
      (first_open (ahead - 64) new.ahead run is.handed.past is.given old.aside.items old.first_late
      (window ∙ is.ahead_is) is.handed.first_is);
}

-- the events up to one that is not late
same_before : (run given : List Event) (first : Option ℕ) (k : ℕ) → AreSameUntil run given first → k < length given →
    MatchOption first ⊤ (λ (n : ℕ). k < n) → (k < length run) × (take (k + 1) given ≡ take (k + 1) run)
same_before run given None k is less before = (
  (let all = ap (λ (xs : List Event). length xs) is.1 in let long = length-append given is.0 in
      omega (arith, all, long, less)),
  sym (ap (take (k + 1)) is.1 ∙ take-append-le (k + 1) given is.0 (omega (arith, less))),
)
same_before run given (Some first) k is less before = (
  (let within : first ≤ length run = is.1 in omega (arith, within, before)),
  sym (take_front given) ∙ ap (take (k + 1)) is.2 ∙ take_front run,
)
  where
    take_front : (xs : List Event) → take (k + 1) (take first xs) ≡ take (k + 1) xs
    take_front xs = take-take (k + 1) first xs (omega (arith, before))

there_in : (xs ys : List Event) (k : ℕ) (e : Event) → k < length ys → take (k + 1) xs ≡ take (k + 1) ys →
    slice_get xs k ≡ Some e → slice_get ys k ≡ Some e
there_in xs ys k e less same there = slice_get_read ys (length ys) k e refl less
    (sym (sym (get_or-take (k + 1) ys k e (omega arith)) ∙ ap (λ (zs : List Event). get_or zs k e) (sym same) ∙
    get_or-take (k + 1) xs k e (omega arith) ∙ get_or_from_slice_get xs k e e there))

before_it : (xs ys : List Event) (k : ℕ) → take (k + 1) xs ≡ take (k + 1) ys → take k xs ≡ take k ys
before_it xs ys k same = sym (take-take k (k + 1) xs (omega arith)) ∙ ap (take k) same ∙
    take-take k (k + 1) ys (omega arith)

-- what is told of the events that the judge was given is so of the run
module _ (limits : Bounds) (run given : List Event) (k : ℕ) (less : k < length given) (less_run : k < length run)
    (same : take (k + 1) given ≡ take (k + 1) run) where
  possible_then : (reply : Reply) → IsPossibleReply limits given k reply → IsPossibleReply limits run k reply
  possible_then reply is = record {
    lane = is.lane;
    own = is.own;
    there = there_in given run k (Returns is.lane is.own) less_run same is.there;
    explained = subst (λ (xs : List Event). AreExplained limits (xs ++ Returns is.lane reply ∷ []))
        (before_it given run k same) is.explained;
  }

  possible_before : (reply : Reply) → IsPossibleReply limits run k reply → IsPossibleReply limits given k reply
  possible_before reply is = record {
    lane = is.lane;
    own = is.own;
    there = there_in run given k (Returns is.lane is.own) less (sym same) is.there;
    explained = subst (λ (xs : List Event). AreExplained limits (xs ++ Returns is.lane reply ∷ []))
        (before_it run given k (sym same)) is.explained;
  }

  among_then : (tried : List SmallReply) (found : List Reply) → ArePossibleAmong limits given k tried found →
      ArePossibleAmong limits run k tried found
  among_then tried found is = record {
    each = λ reply. (
      (λ in_found. let has = (is.each reply).0 in_found in (has.0, possible_then reply has.1)),
      (λ has. (is.each reply).1 (has.0, possible_before reply has.1)),
    );
    once = is.once;
  }

  too_many_then : (most : ℕ) (tried : List SmallReply) → AreTooManyWith limits given k most tried →
      AreTooManyWith limits run k most tried
  too_many_then most tried is = (
    is.0,
    is.1,
    record {
      lane = is.2.lane;
      own = is.2.own;
      there = there_in given run k (Returns is.2.lane is.2.own) less_run same is.2.there;
      place = is.2.place;
      past = is.2.past;
      future = is.2.future;
      parts = is.2.parts ∙ ap (λ (xs : List Event). xs ++ Returns is.2.lane (reply_of is.0) ∷ [])
          (before_it given run k same);
      too_many = is.2.too_many;
    },
  )

module _ (judge : LateJudge) (k at lane : ℕ) (here : IsReturnHere judge.delay.judge k at lane)
    (before : MatchOption judge.delay.first_late ⊤ (λ (n : ℕ). k < n)) (limits : Bounds) (run : List Event)
    (keeps : KeepsLater limits run judge) where
  there_given : slice_get keeps.given k ≡ Some (Returns lane here.own)
  there_given = ap (slice_get keeps.given) here.number_is ∙
      run_there limits keeps.given judge.delay.judge.course keeps.keeps at (Returns lane here.own) here.there

  pub less_given : k < length keeps.given
  less_given = slice_get_within keeps.given k (Returns lane here.own) there_given

  pub same_here : (k < length run) × (take (k + 1) keeps.given ≡ take (k + 1) run)
  same_here = same_before run keeps.given judge.delay.first_late k keeps.same less_given before

-- what is told where the event is kept, and no call before it was put aside
pub told_later : (judge : LateJudge) (k at lane : ℕ) → IsReturnHere judge.delay.judge k at lane →
    MatchOption judge.delay.first_late ⊤ (λ (n : ℕ). k < n) → (plain : Option (List SmallReply))
    (told : Option (List Reply)) →
    MatchOption plain (told ≡ None) (λ (tried : List SmallReply). IsTold judge.delay.judge k tried told) →
    MatchOption plain (told ≡ None) (λ (tried : List SmallReply). IsToldLater judge k tried told)
told_later judge k at lane here before None told is = is
told_later judge k at lane here before (Some tried) (Some found) is = λ limits run keeps.
    let same = same_here judge k at lane here before limits run keeps in
    among_then limits run keeps.given k (less_given judge k at lane here before limits run keeps) same.0 same.1 tried
    found (is limits keeps.given keeps.keeps)
told_later judge k at lane here before (Some tried) None is = λ can limits run keeps.
    let same = same_here judge k at lane here before limits run keeps in
    too_many_then limits run keeps.given k (less_given judge k at lane here before limits run keeps) same.0 same.1
    judge.delay.judge.most tried (is can.can limits keeps.given keeps.keeps)

-- and where it is not
abbrev pub nothing : Option (List Reply)
nothing = None

pub not_told : (judge : LateJudge) (k : ℕ) → ¬ CanTellLater judge k → (plain : Option (List SmallReply)) →
    MatchOption plain (nothing ≡ None) (λ (tried : List SmallReply). IsToldLater judge k tried nothing)
not_told judge k none None = refl
not_told judge k none (Some tried) = λ can. absurd (none can)

-- where no return is kept none can be told
pub none_here : (judge : LateJudge) (k : ℕ) (o : Option KeptReturn) → is_some o ≡ false →
    IsKeptReturn judge.delay.judge k o → ¬ CanTellLater judge k
none_here judge k None none is can = is can.can
none_here judge k (Some kept) none is can = false≢true (sym none)

-- a return that is kept is at a place among the events that are
pub return_here : (judge : LateJudge) (k : ℕ) (o : Option KeptReturn) → is_some o ≡ true →
    IsKeptReturn judge.delay.judge k o → (at : ℕ) × (lane : ℕ) × IsReturnHere judge.delay.judge k at lane
return_here judge k None some is = absurd (false≢true some)
return_here judge k (Some kept) some is = (kept.place, kept.lane, is)
