-- Calls that are open for long, of which it is not shown that nothing is lost if they begin late.
use Rattle.std.proofs.Common.{◌≡◌, ◌≢◌, ◌⊎◌, ◌+◌, ◌-◌, ◌<◌, ◌≤◌, ℕ, suc, List, [], ◌∷◌, ◌++◌, length, get_or, Option}
use Rattle.std.proofs.Common.{Some}
use Rattle.std.proofs.Common.{None, refl, sym, ◌∙◌, ap, subst, inl, inr, arith, append_assoc, append-nil}
use Rattle.std.specs.Prelude.{drop, take}
use Rattle.std.specs.List.{remove}
use Rattle.std.proofs.lemmas.Bool.{cases_lt}
use Rattle.std.proofs.lemmas.List.{drop-append-le, drop-drop, take-append-le, get_or_append_left, length-append}
use Rattle.std.proofs.lemmas.List.{length-drop, length_push}
use Rattle.std.proofs.lemmas.List.Elements.{All-append, All-drop, All-head, All-nil, All-push, All-tail, All-take}
use Rattle.std.proofs.Math.Seq.{drop-append_seam, get_or-append_seam}
use Rattle.stamp_core.specs.Limits.{Bounds}
use Rattle.stamp_runs.specs.declared.event.Event.{Event}
use Rattle.stamp_runs.specs.declared.event.Event.TheVariants.{Begins}
use Rattle.stamp_runs.specs.Run.{lane_of, EndsNever}
use Rattle.stamp_watch.specs.Ahead.{IsSpared}
use Rattle.stamp_watch.specs.Delay.{AreLate, HasEndedBy, HasEndedLate, HasEndedSo, HasEndedUnshown, IsBeginning}
use Rattle.stamp_watch.specs.Delay.{IsPending}
use Rattle.stamp_watch.specs.Issued.{LosesNothing}
use Rattle.stamp_watch.specs.Late.{EndsBehind, OneIsUnshown, last_of}
use Rattle.stamp_watch.specs.Verdict.{IsOpenFor}
use Rattle.stamp_watch.specs.inner.Delay.{IsSettled}
use Rattle.stamp_watch.proofs.Ways.{never_of_spared, first_same, rest_same}
use Rattle.stamp_watch.proofs.LongCalls.{open_still}

-- the first event of a lane, and those before it, are the same
same_first : (xs ys : List Event) (x y : Event) (rx ry : List Event) (lane : ℕ) → xs ++ x ∷ rx ≡ ys ++ y ∷ ry →
    IsSpared xs lane → IsSpared ys lane → lane_of x ≡ lane → lane_of y ≡ lane → (xs ≡ ys) × (x ≡ y)
same_first [] [] x y rx ry lane is spared other here there = (refl, first_same is)
same_first [] (e ∷ ys) x y rx ry lane is spared other here there =
    absurd (All-head (λ (d : Event). lane_of d ≢ lane) e ys other (ap lane_of (sym (first_same is)) ∙ here))
same_first (e ∷ xs) [] x y rx ry lane is spared other here there =
    absurd (All-head (λ (d : Event). lane_of d ≢ lane) e xs spared (ap lane_of (first_same is) ∙ there))
same_first (e ∷ xs) (d ∷ ys) x y rx ry lane is spared other here there =
    let both : (xs ≡ ys) × (x ≡ y) = same_first xs ys x y rx ry lane (rest_same is)
    (All-tail (λ (d : Event). lane_of d ≢ lane) e xs spared) (All-tail (λ (d : Event). lane_of d ≢ lane) d ys other)
    here
    there in
    (ap (λ (f : Event). f ∷ xs) (first_same is) ∙ ap (λ (zs : List Event). d ∷ zs) both.0, both.1)

-- a call ends once
record SameEnd (begun b : Event) (between bs : List Event) (end e : Event) : Type 0 where
  begun_is : b ≡ begun
  between_is : bs ≡ between
  end_is : e ≡ end

ends_once : (run : List Event) (late : ℕ) (begun b : Event) (between bs : List Event) (end e : Event) →
    EndsBehind run late begun between end → EndsBehind run late b bs e → SameEnd begun b between bs end e
ends_once run late begun b between bs end e one other = record {
  begun_is = first;
  between_is = both.0;
  end_is = both.1;
}
  where
    all : b ∷ (bs ++ e ∷ other.rest) ≡ begun ∷ (between ++ end ∷ one.rest)
    all = sym other.there ∙ one.there

    first : b ≡ begun
    first = first_same all

    both : (bs ≡ between) × (e ≡ end)
    both = same_first bs between e end other.rest one.rest (lane_of begun) (rest_same all)
        (subst (IsSpared bs) (ap lane_of first) other.spared) one.spared (other.same ∙ ap lane_of first) one.same

-- what is behind an event is within the run
reaches : (run : List Event) (late : ℕ) (x : Event) (later : List Event) → drop late run ≡ x ∷ later →
    late + 1 + length later ≡ length run
reaches run late x later there = by (cases_lt late (length run))
  where
    long : suc (length later) ≡ length run - late
    long = sym (ap (λ (xs : List Event). length xs) there) ∙ length-drop late run

    by : (late < length run) ⊎ (length run ≤ late) → late + 1 + length later ≡ length run
    by (inl less) = omega (arith, long, less)
    by (inr more) = absurd (omega (arith, long, more))

pub goes_further : (run more : List Event) (late : ℕ) (x : Event) (later : List Event) → drop late run ≡ x ∷ later →
    drop late (run ++ more) ≡ x ∷ (later ++ more)
goes_further run more late x later there = drop-append-le late run more
    (let all : late + 1 + length later ≡ length run = reaches run late x later there in omega (arith, all)) ∙
    ap (λ (xs : List Event). xs ++ more) there

ends_still : (run more : List Event) (late : ℕ) (begun : Event) (between : List Event) (end : Event) →
    EndsBehind run late begun between end → EndsBehind (run ++ more) late begun between end
ends_still run more late begun between end is = record {
  rest = is.rest ++ more;
  there = goes_further run more late begun (between ++ end ∷ is.rest) is.there ∙
      ap (λ (xs : List Event). begun ∷ xs) (append_assoc between (end ∷ is.rest) more);
  spared = is.spared;
  same = is.same;
}

-- a call that is spared is open
open_so : (run : List Event) (late window : ℕ) (begun : Event) (later : List Event) → drop late run ≡ begun ∷ later →
    IsBeginning begun → (spared_to : List Event) (rest : List Event) → later ≡ spared_to ++ rest →
    IsSpared spared_to (lane_of begun) → window ≤ length spared_to → IsOpenFor run late window
open_so run late window (Begins lane call) later there begins spared_to rest parts spared long = record {
  lane = lane;
  call = call;
  later = later;
  there = there;
  many = let all : length later ≡ length spared_to + length rest =
      ap (λ (xs : List Event). length xs) parts ∙ length-append spared_to rest in omega (arith, all, long);
  never = subst (λ (xs : List Event). EndsNever lane (take window xs)) (sym parts)
      (subst (EndsNever lane) (sym (take-append-le window spared_to rest long))
      (never_of_spared lane window spared_to spared));
}
open_so run late window _ later there begins spared_to rest parts spared long = absurd begins

ended_open : (run : List Event) (window : ℕ) (is : HasEndedLate run window) → IsOpenFor run is.late window
ended_open run window is = open_so run is.late window is.begun (is.between ++ is.end ∷ is.ends.rest) is.ends.there
    is.begins is.between (is.end ∷ is.ends.rest) refl is.ends.spared is.long

module _ (limits : Bounds) (run more : List Event) (window k : ℕ) where
  -- a call that has not ended is not shown to lose nothing before the run's end
  pub pending_unshown : (begun : Event) → IsPending run window begun → k + 1 ≤ length run →
      OneIsUnshown limits (run ++ more) window (k + 1)
  pending_unshown begun is within = record {
    late = is.late;
    is = record {
      open_for = open_still run more is.late window
          (let all : is.late + 1 + length is.later ≡ length run = reaches run is.late begun is.later is.there in
          omega (arith, all))
          (open_so run is.late window begun is.later is.there is.begins is.later [] (sym (append-nil is.later))
          is.spared
          is.long);
      unshown = λ b between e ends less loses. none b between e ends less;
    };
  }
    where
      none : (b : Event) (between : List Event) (e : Event) → EndsBehind (run ++ more) is.late b between e →
          is.late + 1 + length between < k + 1 → ⊥
      none b between e ends less = is.spared (length between) e short (ap lane_of read ∙ ends.same ∙ ap lane_of first)
        where
          all : b ∷ (between ++ e ∷ ends.rest) ≡ begun ∷ (is.later ++ more)
          all = sym ends.there ∙ goes_further run more is.late begun is.later is.there

          first : b ≡ begun
          first = first_same all

          short : length between < length is.later
          short = let long : is.late + 1 + length is.later ≡ length run = reaches run is.late begun is.later is.there
              in
              omega (arith, long, less, within)

          read : get_or is.later (length between) e ≡ e
          read = sym (get_or_append_left is.later more e (length between) short) ∙
              ap (λ (xs : List Event). get_or xs (length between) e) (sym (rest_same all)) ∙
              get_or-append_seam between e ends.rest e

  -- nor is one that has ended unshown, or later
  pub ended_unshown : HasEndedUnshown limits run window → OneIsUnshown limits (run ++ more) window (k + 1)
  ended_unshown is = record {
    late = is.ended.late;
    is = record {
      open_for = ended_open (run ++ more) window (ended_on is.ended);
      unshown = λ b between e ends less loses. unshown b between e
          (ends_once (run ++ more) is.ended.late is.ended.begun b
          is.ended.between between is.ended.end e (ended_on is.ended).ends ends) loses;
    };
  }
    where
      ended_on : HasEndedLate run window → HasEndedLate (run ++ more) window
      ended_on h = record {
        late = h.late;
        begun = h.begun;
        between = h.between;
        end = h.end;
        begins = h.begins;
        ends = ends_still run more h.late h.begun h.between h.end h.ends;
        long = h.long;
      }

      unshown : (b : Event) (between : List Event) (e : Event) →
          SameEnd is.ended.begun b is.ended.between between is.ended.end e →
          ¬ LosesNothing limits b e (last_of window between)
      unshown b between e same loses = is.unshown
          (subst (λ (x : Event). LosesNothing limits x is.ended.end (last_of window is.ended.between)) same.begun_is
          (subst (λ (x : Event). LosesNothing limits b x (last_of window is.ended.between)) same.end_is
          (subst (λ (xs : List Event). LosesNothing limits b e (last_of window xs)) same.between_is loses)))

  ended_by_unshown : (many : ℕ) → HasEndedBy run window many → k + 1 < many →
      OneIsUnshown limits (run ++ more) window (k + 1)
  ended_by_unshown many is less = record {
    late = is.ended.late;
    is = record {
      open_for = open_still run more is.ended.late window
          (let all : is.ended.late + 1 + length (is.ended.between ++ is.ended.end ∷ is.ended.ends.rest) ≡ length run =
          reaches run is.ended.late is.ended.begun (is.ended.between ++ is.ended.end ∷ is.ended.ends.rest)
          is.ended.ends.there in omega (arith, all)) (ended_open run window is.ended);
      unshown = λ b between e ends before loses. too_late b between e
          (ends_once (run ++ more) is.ended.late is.ended.begun
          b is.ended.between between is.ended.end e
          (ends_still run more is.ended.late is.ended.begun is.ended.between is.ended.end is.ended.ends) ends) before;
    };
  }
    where
      too_late : (b : Event) (between : List Event) (e : Event) →
          SameEnd is.ended.begun b is.ended.between between is.ended.end e →
          is.ended.late + 1 + length between < k + 1 → ⊥
      too_late b between e same before = let long : length between ≡ length is.ended.between =
          ap (λ (xs : List Event). length xs) same.between_is in
          let place : many ≡ is.ended.late + length is.ended.between + 2 = is.place in
          omega (arith, long, place, less, before)

  -- where it is not shown by an event that nothing is lost
  pub one_unshown : (aside waiting : List Event) (shown : Option ℕ) → AreLate limits run aside waiting window shown →
      ¬ IsSettled aside shown k → k + 1 ≤ length run → OneIsUnshown limits (run ++ more) window (k + 1)
  one_unshown (b ∷ aside) waiting shown late not within = pending_unshown b (All-head (IsPending run window) b aside
      late.pending) within
  one_unshown [] waiting None late not within = ended_unshown late.ended
  one_unshown [] waiting (Some many) late not within = by (cases_lt (k + 1) many) late.ended
    where
      by : (k + 1 < many) ⊎ (many ≤ k + 1) → (many ≡ 0) ⊎ HasEndedBy run window many →
          OneIsUnshown limits (run ++ more) window (k + 1)
      by (inl less) (inl none) = absurd (omega (arith, less, none))
      by (inl less) (inr ended) = ended_by_unshown many ended less
      by (inr more) ended = absurd (not (refl, more))

abbrev ended_further : (run : List Event) (e : Event) (window : ℕ) → HasEndedLate run window → HasEndedLate
    (run ++ e ∷ []) window
ended_further run e window h = record {
  late = h.late;
  begun = h.begun;
  between = h.between;
  end = h.end;
  begins = h.begins;
  ends = ends_still run (e ∷ []) h.late h.begun h.between h.end h.ends;
  long = h.long;
}

pending_further : (run : List Event) (e : Event) (window : ℕ) (b : Event) → lane_of b ≢ lane_of e →
    IsPending run window b → IsPending (run ++ e ∷ []) window b
pending_further run e window b apart is = record {
  late = is.late;
  later = is.later ++ e ∷ [];
  there = goes_further run (e ∷ []) is.late b is.later is.there;
  begins = is.begins;
  spared = All-push (λ (d : Event). lane_of d ≢ lane_of b) is.later e is.spared (λ same. apart (sym same));
  long = let long : length (is.later ++ e ∷ []) ≡ length is.later + 1 = length_push is.later e in
      let many : window ≤ length is.later = is.long in omega (arith, long, many);
}

pub late_first_of : (limits : Bounds) (window : ℕ) → AreLate limits [] [] [] window (Some 0)
late_first_of limits window = record {
  pending = All-nil (IsPending [] window);
  full = λ some. absurd (some refl);
  ended = inl refl;
}

module _ (limits : Bounds) (run aside waiting : List Event) (window : ℕ) (shown : Option ℕ)
    (is : AreLate limits run aside waiting window shown) where
  pub ended_then : (e : Event) (o : Option ℕ) → HasEndedSo limits run window o → HasEndedSo limits (run ++ e ∷ [])
      window o
  ended_then e None h = record { ended = ended_further run e window h.ended; unshown = h.unshown }
  ended_then e (Some many) (inl none) = inl none
  ended_then e (Some many) (inr h) = inr (record { ended = ended_further run e window h.ended; place = h.place })

  -- one more event waits, of whose lane no call is aside
  pub late_waits : (e : Event) → IsSpared aside (lane_of e) →
      AreLate limits (run ++ e ∷ []) aside (waiting ++ e ∷ []) window shown
  late_waits e spared = record {
    pending = λ k d less. pending_further run e window (get_or aside k d) (spared k d less) (is.pending k d less);
    full = λ some. let many : window ≤ length waiting = is.full some in
        let long : length (waiting ++ e ∷ []) ≡ length waiting + 1 = length_push waiting e in omega
        (arith, many, long);
    ended = ended_then e shown is.ended;
  }

  -- the first that waits is passed on
  pub late_passes : (rest : List Event) → (aside ≢ [] → window ≤ length rest) → AreLate limits run aside rest window
      shown
  late_passes rest full = record { pending = is.pending; full = full; ended = is.ended }

  -- or its call is put aside
  pub late_aside : (x : Event) (rest : List Event) (passed : ℕ) → drop passed run ≡ x ∷ rest → IsBeginning x →
      IsSpared rest (lane_of x) → window ≤ length rest → AreLate limits run (aside ++ x ∷ []) rest window shown
  late_aside x rest passed there begins spared long = record {
    pending = All-push (IsPending run window) aside x is.pending (record {
      late = passed;
      later = rest;
      there = there;
      begins = begins;
      spared = spared;
      long = long;
    });
    full = λ some. long;
    ended = is.ended;
  }

  -- a call that is aside begins late, whose end comes in
  module _ (place : ℕ) (b e : Event) (less : place < length aside) (read : b ≡ get_or aside place b)
      (same : lane_of e ≡ lane_of b) (others : IsSpared (remove aside place) (lane_of e)) where
    pub pending_here : IsPending run window b
    pending_here = subst (IsPending run window) (sym read) (is.pending place b less)

    abbrev pub ended_here : HasEndedLate (run ++ e ∷ []) window
    ended_here = record {
      late = pending_here.late;
      begun = b;
      between = pending_here.later;
      end = e;
      begins = pending_here.begins;
      ends = record {
        rest = [];
        there = goes_further run (e ∷ []) pending_here.late b pending_here.later pending_here.there;
        spared = pending_here.spared;
        same = same;
      };
      long = pending_here.long;
    }

    pub ended_long : ended_here.late + length ended_here.between + 1 ≡ length run
    ended_long = let all : pending_here.late + 1 + length pending_here.later ≡ length run =
        reaches run pending_here.late b pending_here.later pending_here.there in omega (arith, all)

    -- the last that came before its end are those that wait
    pub last_wait : (past : List Event) → run ≡ past ++ waiting → length waiting ≡ window →
        last_of window pending_here.later ≡ waiting
    last_wait past parts many = ap (drop (length pending_here.later - window)) (sym later_is) ∙
        drop-drop (length pending_here.later - window) (pending_here.late + 1) run ∙
        ap (λ (n : ℕ). drop n run) at ∙ ap (drop (length past)) parts ∙ drop-append_seam past waiting
      where
        later_is : drop (pending_here.late + 1) run ≡ pending_here.later
        later_is = sym (drop-drop 1 pending_here.late run) ∙ ap (drop 1) pending_here.there

        at : pending_here.late + 1 + (length pending_here.later - window) ≡ length past
        at = let all : pending_here.late + 1 + length pending_here.later ≡ length run =
            reaches run pending_here.late b pending_here.later pending_here.there in
            let sum : length run ≡ length past + length waiting = ap (λ (xs : List Event). length xs) parts ∙
            length-append past waiting in
            let long : window ≤ length pending_here.later = pending_here.long in omega (arith, all, sum, long, many)

    pub late_begins : (then_shown : Option ℕ) → HasEndedSo limits (run ++ e ∷ []) window then_shown →
        AreLate limits (run ++ e ∷ []) (remove aside place) (waiting ++ e ∷ []) window then_shown
    late_begins then_shown ended = record {
      pending = λ k d within. pending_further run e window (get_or (remove aside place) k d) (others k d within)
          (All-append (IsPending run window) (take place aside) (drop (suc place) aside)
          (All-take (IsPending run window) place aside is.pending)
          (All-drop (IsPending run window) (suc place) aside is.pending) k d within);
      full = λ some. let many : window ≤ length waiting = is.full (λ none. no_place none) in
          let long : length (waiting ++ e ∷ []) ≡ length waiting + 1 = length_push waiting e in
          omega (arith, many, long);
      ended = ended;
    }
      where
        no_place : aside ≡ [] → ⊥
        no_place none = let long : length aside ≡ 0 = ap (λ (xs : List Event). length xs) none in
            omega (arith, long, less)
