-- Where calls begin later, an event behind all that moves ends the same call.
use Rattle.std.proofs.Common.{◌≡◌, ◌≢◌, ◌⊎◌, ◌+◌, ◌-◌, ◌≤◌, ℕ, suc, Bool, true, false, List, [], ◌∷◌, ◌++◌}
use Rattle.std.proofs.Common.{length, refl, sym, ◌∙◌, ap, inl, inr, arith, append_assoc, eq-eqb, ne_eqb}
use Rattle.std.specs.Prelude.{◌==◌, cond, drop, filter, take}
use Rattle.std.proofs.lemmas.Bool.{cases_eq, false≢true}
use Rattle.std.proofs.lemmas.List.{append_cancel_right, length-append, length-drop}
use Rattle.std.proofs.lemmas.List.{length-take-le, take-append-drop}
use Rattle.std.proofs.lemmas.List.Elements.{All-cons, All-head, All-nil, All-tail}
use Rattle.std.proofs.Math.Seq.{drop-append_seam, take-append_seam}
use Rattle.stamp_runs.specs.Run.{lane_of}
use Rattle.stamp_runs.specs.declared.event.Event.{Event}
use Rattle.stamp_runs.specs.declared.event.Event.TheVariants.{Begins}
use Rattle.stamp_watch.specs.Ahead.{IsSpared}
use Rattle.stamp_watch.specs.declared.ended_call.EndedCall.{EndedCall}
use Rattle.stamp_watch.specs.EndedCall.{IsEndedAt, end_in}
use Rattle.stamp_watch.specs.Late.{BeginsLater, BeginsOneLater}
use Rattle.stamp_watch.specs.Late.BeginsLater.{as_it_is, then_later}
use Rattle.stamp_watch.proofs.Ways.{first_same, rest_same}

one_left : (e : Event) (events : List Event) → e ∷ events ≢ []
one_left e events none = let long : suc (length events) ≡ 0 = ap (λ (xs : List Event). length xs) none in
    omega (arith, long)

-- those events that are of a lane
of_lane : ℕ → List Event → List Event
of_lane lane events = filter (λ (e : Event). lane_of e == lane) events

module _ (lane : ℕ) where
  of_both : (xs ys : List Event) → of_lane lane (xs ++ ys) ≡ of_lane lane xs ++ of_lane lane ys
  unfolding of_lane
  of_both [] ys = refl
  of_both (x ∷ xs) ys = by (lane_of x == lane) (of_both xs ys)
    where
      by : (b : Bool) → of_lane lane (xs ++ ys) ≡ of_lane lane xs ++ of_lane lane ys →
          cond b (x ∷ of_lane lane (xs ++ ys)) (of_lane lane (xs ++ ys)) ≡
          cond b (x ∷ of_lane lane xs) (of_lane lane xs) ++ of_lane lane ys
      by true rest = ap (λ (zs : List Event). x ∷ zs) rest
      by false rest = rest

  -- two events of which one is of another lane
  swapped : (d e : Event) (rest : List Event) (here there : Bool) → (here ≡ false) ⊎ (there ≡ false) →
      cond here (d ∷ cond there (e ∷ rest) rest) (cond there (e ∷ rest) rest) ≡
      cond there (e ∷ cond here (d ∷ rest) rest) (cond here (d ∷ rest) rest)
  swapped d e rest true true (inl none) = absurd (false≢true (sym none))
  swapped d e rest true true (inr none) = absurd (false≢true (sym none))
  swapped d e rest true false apart = refl
  swapped d e rest false true apart = refl
  swapped d e rest false false apart = refl

  one_same : (old new : List Event) → BeginsOneLater old new → of_lane lane old ≡ of_lane lane new
  unfolding of_lane
  one_same old new one = ap (of_lane lane) one.old_is ∙
      of_both one.past (Begins one.lane one.call ∷ one.next ∷ one.rest) ∙
      ap (λ (xs : List Event). of_lane lane one.past ++ xs)
      (swapped (Begins one.lane one.call) one.next (of_lane lane one.rest) (one.lane == lane)
      (lane_of one.next == lane) (by (cases_eq one.lane lane))) ∙
      sym (of_both one.past (one.next ∷ Begins one.lane one.call ∷ one.rest)) ∙ sym (ap (of_lane lane) one.new_is)
    where
      by : (one.lane ≡ lane) ⊎ (one.lane ≢ lane) → ((one.lane == lane) ≡ false) ⊎ ((lane_of one.next == lane) ≡ false)
      by (inl same) = inr (ne_eqb (lane_of one.next) lane (λ next. one.apart (next ∙ sym same)))
      by (inr apart) = inl (ne_eqb one.lane lane apart)

  -- a call begins later behind events of other lanes alone
  later_same : (run : List Event) (new : List Event) → BeginsLater run new → of_lane lane run ≡ of_lane lane new
  later_same run new as_it_is = refl
  later_same run new (then_later {old = old} before one) = later_same run old before ∙ one_same old new one

  spared_none : (events : List Event) → IsSpared events lane → of_lane lane events ≡ []
  unfolding of_lane
  spared_none [] spared = refl
  spared_none (e ∷ events) spared =
      ap (λ (b : Bool). cond b (e ∷ of_lane lane events) (of_lane lane events))
      (ne_eqb (lane_of e) lane (All-head (λ (d : Event). lane_of d ≢ lane) e events spared)) ∙
      spared_none events (All-tail (λ (d : Event). lane_of d ≢ lane) e events spared)

  -- an event of the lane, and none of it behind
  record IsLastOf (x : Event) (events : List Event) : Type 0 where
    before : List Event
    between : List Event
    events_are : events ≡ before ++ x ∷ between
    spared : IsSpared between lane

  none_spared : (events : List Event) → of_lane lane events ≡ [] → IsSpared events lane
  unfolding of_lane
  none_spared [] none = All-nil (λ (d : Event). lane_of d ≢ lane)
  none_spared (e ∷ events) none = by (cases_eq (lane_of e) lane) (none_spared events)
    where
      by : (lane_of e ≡ lane) ⊎ (lane_of e ≢ lane) → (of_lane lane events ≡ [] → IsSpared events lane) →
          IsSpared (e ∷ events) lane
      by (inl same) again = absurd (one_left e (of_lane lane events)
          (sym (ap (λ (b : Bool). cond b (e ∷ of_lane lane events) (of_lane lane events))
          (eq-eqb (lane_of e) lane same)) ∙ none))
      by (inr apart) again = All-cons (λ (d : Event). lane_of d ≢ lane) e events apart
          (again (sym (ap (λ (b : Bool). cond b (e ∷ of_lane lane events) (of_lane lane events))
          (ne_eqb (lane_of e) lane apart)) ∙ none))

  last_of_lane : (events earlier : List Event) (x : Event) → of_lane lane events ≡ earlier ++ x ∷ [] →
      IsLastOf x events
  unfolding of_lane
  last_of_lane [] [] x is = absurd (one_left x [] (sym is))
  last_of_lane [] (e ∷ earlier) x is = absurd (one_left e (earlier ++ x ∷ []) (sym is))
  last_of_lane (e ∷ events) earlier x is = by (cases_eq (lane_of e) lane) (λ front. last_of_lane events front x)
    where
      behind : IsLastOf x events → IsLastOf x (e ∷ events)
      behind last = record {
        before = e ∷ last.before;
        between = last.between;
        events_are = ap (λ (xs : List Event). e ∷ xs) last.events_are;
        spared = last.spared;
      }

      here : (front : List Event) → e ∷ of_lane lane events ≡ front ++ x ∷ [] →
          ((front : List Event) → of_lane lane events ≡ front ++ x ∷ [] → IsLastOf x events) →
          IsLastOf x (e ∷ events)
      here [] all again = record {
        before = [];
        between = events;
        events_are = ap (λ (d : Event). d ∷ events) (first_same all);
        spared = none_spared events (rest_same all);
      }
      here (d ∷ front) all again = behind (again front (rest_same all))

      by : (lane_of e ≡ lane) ⊎ (lane_of e ≢ lane) →
          ((front : List Event) → of_lane lane events ≡ front ++ x ∷ [] → IsLastOf x events) →
          IsLastOf x (e ∷ events)
      by (inl same) again = here earlier
          (sym (ap (λ (b : Bool). cond b (e ∷ of_lane lane events) (of_lane lane events))
          (eq-eqb (lane_of e) lane same)) ∙ is) again
      by (inr apart) again = behind (again earlier
          (sym (ap (λ (b : Bool). cond b (e ∷ of_lane lane events) (of_lane lane events))
          (ne_eqb (lane_of e) lane apart)) ∙ is))

-- the call that an event ends behind all that moves ends there in the run as it stands
module _ (run new : List Event) (k : ℕ) (later : BeginsLater run new) (same : drop k run ≡ drop k new)
    (call : EndedCall) (is : IsEndedAt new k call) where
  begun : Event
  begun = Begins call.lane call.call

  end : Event
  end = end_in call.lane call.reply

  front : List Event
  front = take is.began new ++ begun ∷ is.between

  new_is : new ≡ front ++ end ∷ is.ends.rest
  unfolding front begun end
  new_is = sym (take-append-drop is.began new) ∙ ap (λ (xs : List Event). take is.began new ++ xs) is.ends.there ∙
      sym (append_assoc (take is.began new) (begun ∷ is.between) (end ∷ is.ends.rest))

  long : length front ≡ k
  unfolding front begun end
  long = let sum : length (take is.began new ++ begun ∷ is.between) ≡ length (take is.began new) +
      suc (length is.between) = length-append (take is.began new) (begun ∷ is.between) in
      let cut : length (take is.began new) ≡ is.began = length-take-le is.began new within in
      let number : k ≡ is.began + 1 + length is.between = is.number in omega (arith, sum, cut, number)
    where
      within : is.began ≤ length new
      within = let rest : length (drop is.began new) ≡ length new - is.began = length-drop is.began new in
          let some : length (drop is.began new) ≡ suc (length (is.between ++ end ∷ is.ends.rest)) =
          ap (λ (xs : List Event). length xs) is.ends.there in omega (arith, rest, some)

  taken : take k new ≡ front
  taken = ap (λ (n : ℕ). take n new) (sym long) ∙ ap (take (length front)) new_is ∙
      take-append_seam front (end ∷ is.ends.rest)

  dropped : drop k new ≡ end ∷ is.ends.rest
  dropped = ap (λ (n : ℕ). drop n new) (sym long) ∙ ap (drop (length front)) new_is ∙
      drop-append_seam front (end ∷ is.ends.rest)

  lanes : of_lane call.lane (take k run) ≡ of_lane call.lane (take k new)
  lanes = append_cancel_right (of_lane call.lane (take k run)) (of_lane call.lane (take k new))
      (of_lane call.lane (drop k new))
      (ap (λ (xs : List Event). of_lane call.lane (take k run) ++ of_lane call.lane xs) (sym same) ∙
      sym (of_both call.lane (take k run) (drop k run)) ∙ ap (of_lane call.lane) (take-append-drop k run) ∙
      later_same call.lane run new later ∙ sym (ap (of_lane call.lane) (take-append-drop k new)) ∙
      of_both call.lane (take k new) (drop k new))

  of_begun : of_lane call.lane (begun ∷ is.between) ≡ begun ∷ []
  unfolding of_lane begun
  of_begun = ap (λ (b : Bool). cond b (begun ∷ of_lane call.lane is.between) (of_lane call.lane is.between))
      (eq-eqb call.lane call.lane refl) ∙
      ap (λ (xs : List Event). begun ∷ xs) (spared_none call.lane is.between is.ends.spared)

  last : IsLastOf call.lane begun (take k run)
  unfolding front
  last = last_of_lane call.lane (take k run) (of_lane call.lane (take is.began new)) begun (lanes ∙
      ap (of_lane call.lane) taken ∙ split ∙
      ap (λ (xs : List Event). of_lane call.lane (take is.began new) ++ xs) of_begun)
    where
      split : of_lane call.lane front ≡
          of_lane call.lane (take is.began new) ++ of_lane call.lane (begun ∷ is.between)
      split = of_both call.lane (take is.began new) (begun ∷ is.between)

  run_is : run ≡ last.before ++ begun ∷ (last.between ++ end ∷ is.ends.rest)
  run_is = sym (take-append-drop k run) ∙ ap (λ (xs : List Event). xs ++ drop k run) last.events_are ∙
      ap (λ (xs : List Event). (last.before ++ begun ∷ last.between) ++ xs) (same ∙ dropped) ∙
      append_assoc last.before (begun ∷ last.between) (end ∷ is.ends.rest)

  pub ends_there : IsEndedAt run k call
  unfolding begun end
  ends_there = record {
    began = length last.before;
    between = last.between;
    number = let cut : length (take k run) ≡ k = length-take-le k run within in
        let sum : length (last.before ++ begun ∷ last.between) ≡ length last.before + suc (length last.between) =
        length-append last.before (begun ∷ last.between) in
        let parts : length (take k run) ≡ length (last.before ++ begun ∷ last.between) =
        ap (λ (xs : List Event). length xs) last.events_are in omega (arith, cut, sum, parts);
    ends = record {
      rest = is.ends.rest;
      there = ap (drop (length last.before)) run_is ∙
          drop-append_seam last.before (begun ∷ (last.between ++ end ∷ is.ends.rest));
      spared = last.spared;
      same = is.ends.same;
    };
  }
    where
      within : k ≤ length run
      within = let rest : length (drop k run) ≡ length run - k = length-drop k run in
          let some : length (drop k run) ≡ suc (length is.ends.rest) =
          ap (λ (xs : List Event). length xs) (same ∙ dropped) in omega (arith, rest, some)
