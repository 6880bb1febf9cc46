-- Calls that begin later are open for long.
use Rattle.std.proofs.Common.{◌≡◌, ◌≢◌, ◌+◌, ◌-◌, ◌<◌, ◌≤◌, ℕ, suc, List, [], ◌∷◌, ◌++◌, length, get_or, refl}
use Rattle.std.proofs.Common.{sym, ◌∙◌, ap, subst, arith, append_assoc}
use Rattle.std.specs.Prelude.{drop, take}
use Rattle.std.specs.List.{All, AllPairs}
use Rattle.std.proofs.lemmas.List.{drop-append-le, length-append, length-drop, take-append-le}
use Rattle.std.proofs.lemmas.List.Elements.{All-head, All-tail}
use Rattle.std.proofs.lemmas.List.Sums.{sum_by-append}
use Rattle.std.proofs.Math.Seq.{take-append_seam}
use Rattle.stamp_explain.proofs.Lists.{pairs_head, pairs_tail}
use Rattle.stamp_runs.specs.Run.{lane_of, EndsNever}
use Rattle.stamp_runs.specs.declared.event.Event.{Event}
use Rattle.stamp_runs.specs.declared.event.Event.TheVariants.{Begins, Returns, Withdraws}
use Rattle.stamp_watch.specs.Ahead.{IsSpared}
use Rattle.stamp_watch.specs.Delay.{AreLong, IsBeginning}
use Rattle.stamp_watch.specs.Late.{BeginsLater, BeginsOneLater, IsLongCall, LongCallsBeginLater}
use Rattle.stamp_watch.specs.Late.BeginsLater.{as_it_is, then_later}
use Rattle.stamp_watch.specs.Late.LongCallsBeginLater.{as_they_are, one_later}
use Rattle.stamp_watch.specs.Verdict.{IsOpenFor}
use Rattle.stamp_watch.specs.Waiting.{count_of}
use Rattle.stamp_watch.proofs.CountingWaiting.{count_behind, count_first, one_elsewhere, one_of, spared_counted}

-- a call stays open for so many events when more come
pub open_still : (run more : List Event) (k ahead : ℕ) → k < length run → IsOpenFor run k ahead →
    IsOpenFor (run ++ more) k ahead
open_still run more k ahead less is = record {
  lane = is.lane;
  call = is.call;
  later = is.later ++ more;
  there = drop-append-le k run more (omega (arith, less)) ∙ ap (λ (xs : List Event). xs ++ more) is.there;
  many = let long : length (is.later ++ more) ≡ length is.later + length more = length-append is.later more in
      let many : ahead ≤ length is.later = is.many in omega (arith, long, many);
  never = subst (EndsNever is.lane) (sym (take-append-le ahead is.later more is.many)) is.never;
}

-- and so does a long one
pub long_still : (run more : List Event) (window lane count : ℕ) → IsLongCall run window lane count →
    IsLongCall (run ++ more) window lane count
long_still run more window lane count is = record {
  late = is.late;
  open_for = record {
    lane = is.open_for.lane;
    call = is.open_for.call;
    later = is.open_for.later ++ more;
    there = drop-append-le is.late run more (omega (arith, less)) ∙
        ap (λ (xs : List Event). xs ++ more) is.open_for.there;
    many = let long : length (is.open_for.later ++ more) ≡ length is.open_for.later + length more =
        length-append is.open_for.later more in
        let many : window ≤ length is.open_for.later = is.open_for.many in omega (arith, long, many);
    never = subst (EndsNever is.open_for.lane)
        (sym (take-append-le window is.open_for.later more is.open_for.many)) is.open_for.never;
  };
  lane_is = is.lane_is;
  count_is = ap (count_of lane) (take-append-le is.late run more (omega (arith, less))) ∙ is.count_is;
}
  where
    less : is.late < length run
    less = let long : length (drop is.late run) ≡ length run - is.late = length-drop is.late run in
        let some : length (drop is.late run) ≡ suc (length is.open_for.later) =
        ap (λ (xs : List Event). length xs) is.open_for.there in omega (arith, long, some)

pub longs_still : (run more : List Event) (window : ℕ) (events handed : List Event) →
    LongCallsBeginLater run window events handed → LongCallsBeginLater (run ++ more) window events handed
longs_still run more window events handed as_they_are = as_they_are
longs_still run more window events handed (one_later {old = old} before one long) =
    one_later (longs_still run more window events old before) one
    (long_still run more window one.lane (count_of one.lane one.past) long)

pub later_of_long : (run : List Event) (window : ℕ) (events handed : List Event) →
    LongCallsBeginLater run window events handed → BeginsLater events handed
later_of_long run window events handed as_they_are = as_it_is
later_of_long run window events handed (one_later {old = old} before one long) =
    then_later (later_of_long run window events old before) one

-- as many events are of each lane
count_both : (lane : ℕ) (xs ys : List Event) → count_of lane (xs ++ ys) ≡ count_of lane xs + count_of lane ys
count_both lane xs ys = sum_by-append (one_of lane) xs ys

counted_one : (lane : ℕ) (old new : List Event) → BeginsOneLater old new → count_of lane new ≡ count_of lane old
counted_one lane old new one = ap (count_of lane) one.new_is ∙ swapped ∙ sym (ap (count_of lane) one.old_is)
  where
    begun : Event
    begun = Begins one.lane one.call

    ahead : (d e : Event) → count_of lane (one.past ++ d ∷ e ∷ one.rest) ≡
        count_of lane one.past + (one_of lane d + (one_of lane e + count_of lane one.rest))
    ahead d e = let all : count_of lane (one.past ++ d ∷ e ∷ one.rest) ≡
        count_of lane one.past + count_of lane (d ∷ e ∷ one.rest) = count_both lane one.past (d ∷ e ∷ one.rest) in
        let first : count_of lane (d ∷ e ∷ one.rest) ≡ one_of lane d + count_of lane (e ∷ one.rest) =
        count_first lane d (e ∷ one.rest) in
        let second : count_of lane (e ∷ one.rest) ≡ one_of lane e + count_of lane one.rest =
        count_first lane e one.rest in omega (arith, all, first, second)

    swapped : count_of lane (one.past ++ one.next ∷ Begins one.lane one.call ∷ one.rest) ≡
        count_of lane (one.past ++ Begins one.lane one.call ∷ one.next ∷ one.rest)
    swapped = let new_is : count_of lane (one.past ++ one.next ∷ Begins one.lane one.call ∷ one.rest) ≡
        count_of lane one.past + (one_of lane one.next + (one_of lane (Begins one.lane one.call) +
        count_of lane one.rest)) = ahead one.next (Begins one.lane one.call) in
        let old_is : count_of lane (one.past ++ Begins one.lane one.call ∷ one.next ∷ one.rest) ≡
        count_of lane one.past + (one_of lane (Begins one.lane one.call) + (one_of lane one.next +
        count_of lane one.rest)) = ahead (Begins one.lane one.call) one.next in omega (arith, new_is, old_is)

pub counted_later : (lane : ℕ) (events handed : List Event) → BeginsLater events handed →
    count_of lane handed ≡ count_of lane events
counted_later lane events handed as_it_is = refl
counted_later lane events handed (then_later {old = old} before one) =
    counted_one lane old handed one ∙ counted_later lane events old before

-- an event of another lane counts for none of these
pub longs_past : (run : List Event) (window : ℕ) (given aside : List Event) (x : Event) → IsSpared aside (lane_of x) →
    AreLong run window given aside → AreLong run window (given ++ x ∷ []) aside
longs_past run window given aside x spared long k d less =
    subst (IsLongCall run window (lane_of (get_or aside k d))) (sym same) (long k d less)
  where
    same : count_of (lane_of (get_or aside k d)) (given ++ x ∷ []) ≡ count_of (lane_of (get_or aside k d)) given
    same = let all : count_of (lane_of (get_or aside k d)) (given ++ x ∷ []) ≡
        count_of (lane_of (get_or aside k d)) given + one_of (lane_of (get_or aside k d)) x =
        count_behind (lane_of (get_or aside k d)) given x in
        let none : one_of (lane_of (get_or aside k d)) x ≡ 0 = one_elsewhere (lane_of (get_or aside k d)) x
        (λ is. spared k d less (sym is)) in omega (arith, all, none)

-- an event moves before long calls that begin in other lanes
pub long_moves_before : (run : List Event) (window : ℕ) (events given aside : List Event) (e : Event)
    (more : List Event) → All IsBeginning aside → IsSpared aside (lane_of e) →
    AllPairs (λ (d x : Event). lane_of d ≢ lane_of x) aside → AreLong run window given aside →
    LongCallsBeginLater run window events (given ++ (aside ++ e ∷ more)) →
    LongCallsBeginLater run window events (given ++ (e ∷ (aside ++ more)))
long_moves_before run window events given [] e more begin spared apart long later = later
long_moves_before run window events given (Begins lane call ∷ aside) e more begin spared apart long later = one_later
    (subst (LongCallsBeginLater run window events)
    (append_assoc given (Begins lane call ∷ []) (e ∷ (aside ++ more)))
    (long_moves_before run window events (given ++ Begins lane call ∷ []) aside e more
    (All-tail IsBeginning (Begins lane call) aside begin)
    (All-tail (λ (x : Event). lane_of x ≢ lane_of e) (Begins lane call) aside spared)
    (pairs_tail (λ (d x : Event). lane_of d ≢ lane_of x) (Begins lane call) aside apart)
    (longs_past run window given aside (Begins lane call)
    (λ k d less is. pairs_head (λ (b x : Event). lane_of b ≢ lane_of x) (Begins lane call) aside apart k d less
    (sym is)) (All-tail (λ (d : Event). IsLongCall run window (lane_of d) (count_of (lane_of d) given))
    (Begins lane call) aside long))
    (subst (LongCallsBeginLater run window events)
    (sym (append_assoc given (Begins lane call ∷ []) (aside ++ e ∷ more))) later)))
    (record {
      past = given;
      lane = lane;
      call = call;
      next = e;
      rest = aside ++ more;
      apart = λ is. All-head (λ (x : Event). lane_of x ≢ lane_of e) (Begins lane call) aside spared (sym is);
      old_is = refl;
      new_is = refl;
    })
    (All-head (λ (d : Event). IsLongCall run window (lane_of d) (count_of (lane_of d) given)) (Begins lane call) aside
    long)
long_moves_before run window events given (which ∷ aside) e more begin spared apart long later = absurd (All-head
    IsBeginning which aside begin)

-- the event that comes next begins a call that is open for so many events
pub long_here : (run past waiting given aside : List Event) (window passed : ℕ) (x : Event) → IsBeginning x →
    EndsNever (lane_of x) (take window waiting) → window ≤ length waiting → run ≡ past ++ x ∷ waiting →
    passed ≡ length past → drop passed run ≡ x ∷ waiting → IsSpared aside (lane_of x) →
    BeginsLater past (given ++ aside) → IsLongCall run window (lane_of x) (count_of (lane_of x) given)
long_here run past waiting given aside window passed (Begins lane call) begins never many run_is at there spared
    later = record {
      late = passed;
      open_for = record {
        lane = lane;
        call = call;
        later = waiting;
        there = there;
        many = many;
        never = never;
      };
      lane_is = refl;
      count_is = let cut : count_of lane (take passed run) ≡ count_of lane past =
          ap (count_of lane) (ap (λ (n : ℕ). take n run) at ∙ ap (take (length past)) run_is ∙
          take-append_seam past (Begins lane call ∷ waiting)) in
          let same : count_of lane (given ++ aside) ≡ count_of lane past =
          counted_later lane past (given ++ aside) later in
          let both : count_of lane (given ++ aside) ≡ count_of lane given + count_of lane aside =
          count_both lane given aside in
          let none : count_of lane aside ≡ 0 = spared_counted lane aside spared in
          omega (arith, cut, same, both, none);
    }
long_here run past waiting given aside window passed (Returns lane reply) begins never many run_is at there spared
    later = absurd begins
long_here run past waiting given aside window passed (Withdraws lane) begins never many run_is at there spared
    later = absurd begins
