-- How the events of a run are handed on to a judge.
use Rattle.std.proofs.Common.{◌≡◌, ◌≢◌, ◌⊎◌, ◌+◌, ◌-◌, ◌<◌, ◌≤◌, ℕ, suc, List, [], ◌∷◌, ◌++◌, length, get_or}
use Rattle.std.proofs.Common.{Option, true, false}
use Rattle.std.proofs.Common.{Some, None, refl, sym, ◌∙◌, ap, subst, inl, inr, arith, append_assoc, append-nil}
use Rattle.std.specs.Prelude.{take, drop}
use Rattle.std.specs.List.{All, AllPairs, remove}
use Rattle.std.specs.Option.{is_some}
use Rattle.std.proofs.lemmas.Bool.{cases_lt, false≢true}
use Rattle.std.proofs.lemmas.List.{length-append, length_push, take-append-le, get_or-take, get_or-drop}
use Rattle.std.proofs.lemmas.List.{length-take-le, length-drop, take-append-drop}
use Rattle.std.proofs.lemmas.List.Elements.{All-head, All-tail, All-push, All-take, All-drop, All-append}
use Rattle.std.proofs.lemmas.List.Quantifiers.{all_pairs_push, all_pairs_remove}
use Rattle.std.proofs.Math.Seq.{drop-append_seam, drop-cons, take-append_seam}
use Rattle.stamp_explain.proofs.Lists.{pairs_left}
use Rattle.stamp_runs.specs.declared.event.Event.{Event}
use Rattle.stamp_runs.specs.declared.event.Event.TheVariants.{Begins, Returns, Withdraws}
use Rattle.stamp_runs.specs.Run.{lane_of}
use Rattle.stamp_watch.specs.Ahead.{IsSpared}
use Rattle.stamp_watch.specs.Delay.{IsBeginning, IsFirstIfAny, IsFirstLate, IsHandedOn}
use Rattle.stamp_watch.specs.Late.{BeginsLater, IsLongCall, LongCallsBeginLater}
use Rattle.stamp_watch.specs.Verdict.{IsOpenFor}
use Rattle.stamp_watch.specs.inner.Delay.{IsOfLaneAt, IsToBeAside}
use Rattle.stamp_watch.specs.Waiting.{count_of}
use Rattle.stamp_watch.proofs.BeginningLater.{later_as_long}
use Rattle.stamp_watch.proofs.LongCalls.{later_of_long, long_here, long_moves_before, long_still, longs_past}
use Rattle.stamp_watch.proofs.LongCalls.{longs_still, open_still}
use Rattle.stamp_watch.proofs.Ways.{never_of_spared}

-- the first late call stays that when the run and what was given go on
first_still : (ahead : ℕ) (run more given then_given : List Event) (first : ℕ) →
    IsFirstLate ahead run given first → IsFirstLate ahead (run ++ more) (given ++ then_given) first
first_still ahead run more given then_given first is = record {
  open_for = open_still run more first ahead is.before is.open_for;
  before = let long : length (run ++ more) ≡ length run + length more = length-append run more in
      let less : first < length run = is.before in omega (arith, long, less);
  given_more = let long : length (given ++ then_given) ≡ length given + length then_given =
      length-append given then_given in
      let less : first ≤ length given = is.given_more in omega (arith, long, less);
  same = take-append-le first given then_given is.given_more ∙ is.same ∙
      sym (take-append-le first run more (let less : first < length run = is.before in omega (arith, less)));
}

first_given : (ahead : ℕ) (run given then_given : List Event) (first : ℕ) →
    IsFirstLate ahead run given first → IsFirstLate ahead run (given ++ then_given) first
first_given ahead run given then_given first is =
    subst (λ (xs : List Event). IsFirstLate ahead xs (given ++ then_given) first) (append-nil run)
    (first_still ahead run [] given then_given first is)

module _ (ahead : ℕ) (run given aside waiting : List Event) (first : Option ℕ) (passed : ℕ)
    (is : IsHandedOn ahead run given aside waiting first passed) where
  pub passed_length : passed + length waiting ≡ length run
  passed_length = ap (λ (n : ℕ). n + length waiting) is.passed_is ∙ sym (length-append is.past waiting) ∙
      ap length (sym is.run_is)

  pub given_length : length given + length aside ≡ passed
  given_length = sym (length-append given aside) ∙ ap (λ (xs : List Event). length (given ++ xs))
      (sym (append-nil aside))
      ∙ later_as_long (is.past ++ []) (given ++ (aside ++ []))
      (later_of_long run ahead (is.past ++ []) (given ++ (aside ++ [])) (is.later [])) ∙
      ap length (append-nil is.past) ∙ sym is.passed_is

  -- one more event waits
  pub handed_waits : (e : Event) → IsSpared aside (lane_of e) →
      IsHandedOn ahead (run ++ e ∷ []) given aside (waiting ++ e ∷ []) first passed
  handed_waits e spared = record {
    past = is.past;
    passed_is = is.passed_is;
    run_is = ap (λ (xs : List Event). xs ++ e ∷ []) is.run_is ∙ append_assoc is.past waiting (e ∷ []);
    asides = record {
      begin = is.asides.begin;
      lanes = is.asides.lanes;
      apart = is.asides.apart;
      spared = λ k d less. All-push (λ (x : Event). lane_of x ≢ lane_of (get_or aside k d)) waiting e
          (is.asides.spared k d less) (λ same. spared k d less (sym same));
    };
    long = λ k d less. long_still run (e ∷ []) ahead (lane_of (get_or aside k d))
        (count_of (lane_of (get_or aside k d)) given) (is.long k d less);
    later = λ more. longs_still run (e ∷ []) ahead (is.past ++ more) (given ++ (aside ++ more)) (is.later more);
    first_is = by first is.first_is;
  }
    where
      by : (n : Option ℕ) → IsFirstIfAny ahead run is.past given aside n →
          IsFirstIfAny ahead (run ++ e ∷ []) is.past given aside n
      by None none = none
      by (Some n) some = subst (λ (xs : List Event). IsFirstLate ahead (run ++ e ∷ []) xs n) (append-nil given)
          (first_still ahead run (e ∷ []) given [] n some)

  -- a call that is aside begins
  module _ (place lane : ℕ) (b : Event) (there : IsOfLaneAt aside lane place) (read : b ≡ get_or aside place b) where
    lane_is : lane_of b ≡ lane
    lane_is = ap lane_of read ∙ there.1 b

    others : (k : ℕ) (d : Event) → k < length aside → k ≢ place → lane_of (get_or aside k d) ≢ lane
    others k d less other same = by (cases_lt k place)
      where
        by : (k < place) ⊎ (place ≤ k) → ⊥
        by (inl before) = is.asides.apart k place d before there.0 (same ∙ sym (there.1 d))
        by (inr behind) = is.asides.apart place k d (omega (arith, behind, other)) less (there.1 d ∙ sym same)

    before_spared : IsSpared (take place aside) lane
    before_spared k d less = subst (λ (x : Event). lane_of x ≢ lane)
        (sym (get_or-take place aside k d below))
        (others k d (let in_all : place < length aside = there.0 in omega (arith, below, in_all))
        (λ same. let below_it : k < place = below in omega (arith, below_it, same)))
      where
        below : k < place
        below = let long : length (take place aside) ≡ place = length-take-le place aside
            (let in_all : place < length aside = there.0 in omega (arith, in_all)) in omega (arith, less, long)

    behind_spared : IsSpared (drop (suc place) aside) lane
    behind_spared k d less = subst (λ (x : Event). lane_of x ≢ lane)
        (sym (get_or-drop (suc place) aside k d))
        (others (suc place + k) d (let long : length (drop (suc place) aside) ≡ length aside - suc place =
        length-drop (suc place) aside in omega (arith, less, long))
        (λ same. let at : suc place + k ≡ place = same in omega (arith, at)))

    pub rest_spared : IsSpared (remove aside place) lane
    rest_spared = All-append (λ (e : Event). lane_of e ≢ lane) (take place aside) (drop (suc place) aside)
        before_spared behind_spared

    parts : aside ≡ take place aside ++ b ∷ drop (suc place) aside
    parts = sym (take-append-drop place aside) ∙ ap (λ (xs : List Event). take place aside ++ xs)
        (drop-cons aside place b there.0 ∙ ap (λ (e : Event). e ∷ drop (suc place) aside) (sym read))

    pub handed_begins : IsHandedOn ahead run (given ++ b ∷ []) (remove aside place) waiting first passed
    handed_begins = record {
      past = is.past;
      passed_is = is.passed_is;
      run_is = is.run_is;
      asides = record {
        begin = kept IsBeginning is.asides.begin;
        lanes = kept (λ (e : Event). lane_of e < 64) is.asides.lanes;
        apart = all_pairs_remove (λ (d e : Event). lane_of d ≢ lane_of e) aside place there.0 is.asides.apart;
        spared = kept (λ (e : Event). IsSpared waiting (lane_of e)) is.asides.spared;
      };
      long = longs_past run ahead given (remove aside place) b
          (subst (IsSpared (remove aside place)) (sym lane_is) rest_spared)
          (kept (λ (e : Event). IsLongCall run ahead (lane_of e) (count_of (lane_of e) given)) is.long);
      later = λ more. subst (LongCallsBeginLater run ahead (is.past ++ more)) (behind more)
          (long_moves_before run ahead (is.past ++ more) given (take place aside) b (drop (suc place) aside ++ more)
          (All-take IsBeginning place aside is.asides.begin)
          (subst (IsSpared (take place aside)) (sym lane_is) before_spared)
          (pairs_left (λ (d e : Event). lane_of d ≢ lane_of e) (take place aside) (b ∷ drop (suc place) aside)
          (subst (AllPairs (λ (d e : Event). lane_of d ≢ lane_of e)) parts is.asides.apart))
          (All-take (λ (e : Event). IsLongCall run ahead (lane_of e) (count_of (lane_of e) given)) place aside is.long)
          (subst (LongCallsBeginLater run ahead (is.past ++ more)) (ahead_of more) (is.later more)));
      first_is = by first is.first_is;
    }
      where
        kept : (P : Event → Type 0) → All P aside → All P (remove aside place)
        kept P all = All-append P (take place aside) (drop (suc place) aside) (All-take P place aside all)
            (All-drop P (suc place) aside all)

        ahead_of : (more : List Event) → given ++ (aside ++ more) ≡
            given ++ (take place aside ++ b ∷ (drop (suc place) aside ++ more))
        ahead_of more = ap (λ (xs : List Event). given ++ (xs ++ more)) parts ∙ ap (λ (xs : List Event). given ++ xs)
            (append_assoc (take place aside) (b ∷ drop (suc place) aside) more)

        behind : (more : List Event) →
            given ++ (b ∷ (take place aside ++ (drop (suc place) aside ++ more))) ≡
            (given ++ b ∷ []) ++ (remove aside place ++ more)
        behind more = ap (λ (xs : List Event). given ++ b ∷ xs)
            (sym (append_assoc (take place aside) (drop (suc place) aside) more)) ∙
            sym (append_assoc given (b ∷ []) (remove aside place ++ more))

        by : (n : Option ℕ) → IsFirstIfAny ahead run is.past given aside n →
            IsFirstIfAny ahead run is.past (given ++ b ∷ []) (remove aside place) n
        by None none = absurd (let long : length aside ≡ 0 = ap length none.0 in
            let in_all : place < length aside = there.0 in omega (arith, long, in_all))
        by (Some n) some = first_given ahead run given (b ∷ []) n some

abbrev pub first_or : ℕ → Option ℕ → Option ℕ
first_or number None = Some number
first_or number (Some first) = Some first

pub first_or_none : (number : ℕ) (first : Option ℕ) → is_some first ≡ false → Some number ≡ first_or number first
first_or_none number None none = refl
first_or_none number (Some first) none = absurd (false≢true (sym none))

pub first_or_some : (number : ℕ) (first : Option ℕ) → is_some first ≡ true → first ≡ first_or number first
first_or_some number None some = absurd (false≢true some)
first_or_some number (Some first) some = refl

pub begins_so : (e : Event) (waiting : List Event) → IsToBeAside e waiting → IsBeginning e
begins_so (Begins lane call) waiting spared = tt
begins_so _ waiting none = none

pub spared_so : (e : Event) (waiting : List Event) → IsToBeAside e waiting → IsSpared waiting (lane_of e)
spared_so (Begins lane call) waiting spared = spared
spared_so _ waiting none = absurd none

-- the first event that waits no longer does
module _ (ahead : ℕ) (run given aside waiting : List Event) (x : Event) (first : Option ℕ) (passed : ℕ)
    (is : IsHandedOn ahead run given aside (x ∷ waiting) first passed) where
  run_then : run ≡ (is.past ++ x ∷ []) ++ waiting
  run_then = is.run_is ∙ sym (append_assoc is.past (x ∷ []) waiting)

  passed_then : passed + 1 ≡ length (is.past ++ x ∷ [])
  passed_then = ap (λ (n : ℕ). n + 1) is.passed_is ∙ sym (length_push is.past x)

  later_then : (more : List Event) →
      LongCallsBeginLater run ahead ((is.past ++ x ∷ []) ++ more) (given ++ (aside ++ x ∷ more))
  later_then more = subst (λ (xs : List Event). LongCallsBeginLater run ahead xs (given ++ (aside ++ x ∷ more)))
      (sym (append_assoc is.past (x ∷ []) more)) (is.later (x ∷ more))

  spared_then : All (λ (e : Event). IsSpared waiting (lane_of e)) aside
  spared_then k d less = All-tail (λ (e : Event). lane_of e ≢ lane_of (get_or aside k d)) x waiting
      (is.asides.spared k d less)

  pub x_spared : IsSpared aside (lane_of x)
  x_spared k d less same = All-head (λ (e : Event). lane_of e ≢ lane_of (get_or aside k d)) x waiting
      (is.asides.spared k d less) (sym same)

  -- the judge is given it
  pub handed_passes : IsHandedOn ahead run (given ++ x ∷ []) aside waiting first (passed + 1)
  handed_passes = record {
    past = is.past ++ x ∷ [];
    passed_is = passed_then;
    run_is = run_then;
    asides = record {
      begin = is.asides.begin;
      lanes = is.asides.lanes;
      apart = is.asides.apart;
      spared = spared_then;
    };
    long = longs_past run ahead given aside x x_spared is.long;
    later = λ more. subst (LongCallsBeginLater run ahead ((is.past ++ x ∷ []) ++ more))
        (sym (append_assoc given (x ∷ []) (aside ++ more)))
        (long_moves_before run ahead ((is.past ++ x ∷ []) ++ more) given aside x more is.asides.begin x_spared
        is.asides.apart is.long (later_then more));
    first_is = by first is.first_is;
  }
    where
      by : (n : Option ℕ) → IsFirstIfAny ahead run is.past given aside n →
          IsFirstIfAny ahead run (is.past ++ x ∷ []) (given ++ x ∷ []) aside n
      by None none = (none.0, ap (λ (xs : List Event). xs ++ x ∷ []) none.1)
      by (Some n) some = first_given ahead run given (x ∷ []) n some

  -- its call is put aside
  pub handed_aside : IsToBeAside x waiting → ahead ≤ length waiting → lane_of x < 64 →
      IsHandedOn ahead run given (aside ++ x ∷ []) waiting (first_or passed first) (passed + 1)
  handed_aside to many low = record {
    past = is.past ++ x ∷ [];
    passed_is = passed_then;
    run_is = run_then;
    asides = record {
      begin = All-push IsBeginning aside x is.asides.begin (begins_so x waiting to);
      lanes = All-push (λ (e : Event). lane_of e < 64) aside x is.asides.lanes low;
      apart = all_pairs_push (λ (d e : Event). lane_of d ≢ lane_of e) aside x is.asides.apart x_spared;
      spared = All-push (λ (e : Event). IsSpared waiting (lane_of e)) aside x spared_then (spared_so x waiting to);
    };
    long = All-push (λ (e : Event). IsLongCall run ahead (lane_of e) (count_of (lane_of e) given)) aside x is.long
        (long_here run is.past waiting given aside ahead passed x (begins_so x waiting to)
        (never_of_spared (lane_of x) ahead waiting (spared_so x waiting to)) many is.run_is is.passed_is there x_spared
        so_far);
    later = λ more. subst (λ (xs : List Event). LongCallsBeginLater run ahead ((is.past ++ x ∷ []) ++ more)
        (given ++ xs))
        (sym (append_assoc aside (x ∷ []) more)) (later_then more);
    first_is = by first is.first_is;
  }
    where
      opened : (e : Event) → IsToBeAside e waiting → drop passed run ≡ e ∷ waiting → IsOpenFor run passed ahead
      opened (Begins lane call) spared there = record {
        lane = lane;
        call = call;
        later = waiting;
        there = there;
        many = many;
        never = never_of_spared lane ahead waiting spared;
      }
      opened (Returns lane reply) none there = absurd none
      opened (Withdraws lane) none there = absurd none

      so_far : BeginsLater is.past (given ++ aside)
      so_far = subst (λ (xs : List Event). BeginsLater xs (given ++ aside)) (append-nil is.past)
          (subst (λ (xs : List Event). BeginsLater (is.past ++ []) (given ++ xs)) (append-nil aside)
          (later_of_long run ahead (is.past ++ []) (given ++ (aside ++ [])) (is.later [])))

      there : drop passed run ≡ x ∷ waiting
      there = ap (λ (n : ℕ). drop n run) is.passed_is ∙ ap (drop (length is.past)) is.run_is ∙
          drop-append_seam is.past (x ∷ waiting)

      by : (n : Option ℕ) → IsFirstIfAny ahead run is.past given aside n →
          IsFirstIfAny ahead run (is.past ++ x ∷ []) given (aside ++ x ∷ []) (first_or passed n)
      by None none = record {
        open_for = opened x to there;
        before = let long : length run ≡ length is.past + length (x ∷ waiting) =
            ap length is.run_is ∙ length-append is.past (x ∷ waiting) in
            let at : passed ≡ length is.past = is.passed_is in omega (arith, long, at);
        given_more = let at : passed ≡ length is.past = is.passed_is in
            let long : length given ≡ length is.past = ap length none.1 in omega (arith, at, long);
        same = ap (λ (n : ℕ). take n given) is.passed_is ∙ ap (take (length is.past))
            (none.1 ∙ sym (append-nil is.past)) ∙
            take-append_seam is.past [] ∙ sym (take-append_seam is.past (x ∷ waiting)) ∙
            ap (take (length is.past)) (sym is.run_is) ∙ ap (λ (n : ℕ). take n run) (sym is.passed_is);
      }
      by (Some n) some = some
