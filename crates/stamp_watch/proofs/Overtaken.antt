-- How far the events since a mark have overtaken the past, one event on.
use Rattle.std.proofs.Common.{ℕ, ◌≡◌, ◌≢◌, ◌⊎◌, ◌==◌, Bool, true, false, List, [], ◌∷◌, ◌++◌, Option, Some, None}
use Rattle.std.proofs.Common.{refl, sym, ◌∙◌, ap, subst, inl, inr, arith, append_assoc, append-nil}
use Rattle.std.specs.Prelude.{◌↔◌, ◌&&◌, ◌<◌, ◌≤◌, IsSome, if◌then◌else◌, not}
use Rattle.std.specs.Int.{bit_at}
use Rattle.std.proofs.Math.Logic.{⊎_elim}
use Rattle.std.proofs.lemmas.Bool.{and_parts, cases_eq, cases_lt, false≢true}
use Rattle.std.proofs.lemmas.List.Elements.{All-cons, All-head, All-nil, All-pop, All-push, All-tail}
use Rattle.std.proofs.lemmas.Nat.Bits.{bit_at-lt, bit_at-zero, same_from_bits}
use Rattle.stamp_core.specs.Call.{is_lock_call}
use Rattle.stamp_core.specs.declared.call.Call.{Call}
use Rattle.stamp_core.specs.declared.reply.Reply.{Reply}
use Rattle.stamp_runs.specs.declared.event.Event.{Event}
use Rattle.stamp_runs.specs.declared.event.Event.TheVariants.{Begins, Returns, Withdraws}
use Rattle.stamp_runs.specs.Own.{none_open, open_after, open_then}
use Rattle.stamp_runs.specs.Renaming.{HasEnded, IsOvertaken, IsTold, OpenHaveEnded, is_not_no, tells_content}
use Rattle.stamp_runs.specs.Run.{EndsBy, EndsNever, IsEndOf}
use Rattle.stamp_runs.specs.Run.EndsBy.{ends_later, ends_next}
use Rattle.stamp_runs.proofs.Forgetting.{ended_more, ends_more, ends_not, not_of_lock, overtaken_stays}
use Rattle.stamp_runs.proofs.Naming.{first_same, rest_same}
use Rattle.stamp_runs.proofs.Owning.{Calls, in_lane, in_other}
use Rattle.stamp_sets.specs.Lanes.{SetsBit}
use Rattle.stamp_watch.specs.EndedCall.{end_in}
use Rattle.stamp_watch.specs.Overtaking.{AreAwaited, AreOpen, HasBegun, HaveBegun, IsSoFar, IsToldSince, IsUntold}
use Rattle.stamp_watch.specs.Overtaking.{Follows, IsOpenStill, IsSettled, NoSooner, Tracks}
use Rattle.stamp_watch.specs.declared.overtaking.Overtaking.{Overtaking}
use Rattle.stamp_watch.specs.declared.overtaking.Stage.{Stage}
use Rattle.stamp_watch.specs.declared.overtaking.Stage.TheVariants as stage
use Rattle.stamp_watch.specs.inner.Overtaking.{IsToldBy, may_tell_by}
use Rattle.stamp_watch.proofs.Forming.{bit_of, some_bit}
use Rattle.stamp_watch.proofs.Numbered.{end_or_not}
use Rattle.stamp_watch.proofs.Form.{open_after_one}

-- some events and one more, parted at an event
nil_not : (front : List Event) (x : Event) (later : List Event) → [] ≡ front ++ x ∷ later → ⊥
nil_not [] x later same = cc
nil_not (f ∷ front) x later same = cc

data IsBack (e x : Event) (events front later : List Event) : Type 0 where
  at_last : later ≡ [] → events ≡ front → e ≡ x → IsBack e x events front later
  sooner : (init : List Event) → later ≡ init ++ e ∷ [] → events ≡ front ++ x ∷ init → IsBack e x events front later

back_more : (e x y f : Event) (ys front later : List Event) → y ≡ f → IsBack e x ys front later →
    IsBack e x (y ∷ ys) (f ∷ front) later
back_more e x y f ys front later one (at_last none same is) =
    at_last none (ap (λ (z : Event). z ∷ ys) one ∙ ap (λ (zs : List Event). f ∷ zs) same) is
back_more e x y f ys front later one (sooner init last same) =
    sooner init last (ap (λ (z : Event). z ∷ ys) one ∙ ap (λ (zs : List Event). f ∷ zs) same)

back_of : (e x : Event) (events front later : List Event) → events ++ e ∷ [] ≡ front ++ x ∷ later →
    IsBack e x events front later
back_of e x [] [] later same = at_last (sym (rest_same same)) refl (first_same same)
back_of e x (y ∷ ys) [] later same =
    sooner ys (sym (rest_same same)) (ap (λ (z : Event). z ∷ ys) (first_same same))
back_of e x [] (f ∷ front) later same = absurd (nil_not front _ _ (rest_same same))
back_of e x (y ∷ ys) (f ∷ front) later same =
    back_more e x y f ys front later (first_same same) (back_of e x ys front later (rest_same same))

-- what goes on with more events is not so of fewer, if it is not so of all but the last
no_sooner_on : (P : List Event → Type 0) → ((front more : List Event) → P front → P (front ++ more)) →
    (events : List Event) (e : Event) → ¬ P events → NoSooner P (events ++ e ∷ [])
no_sooner_on P goes_on events e none front next rest same is = by (back_of e next events front rest same)
  where
    by : IsBack e next events front rest → ⊥
    by (at_last no_more whole last) = none (subst P (sym whole) is)
    by (sooner init last whole) = none (subst P (sym whole) (goes_on front (next ∷ init) is))

all_ended_more : (past front more : List Event) → OpenHaveEnded past front → OpenHaveEnded past (front ++ more)
all_ended_more past front more ended lane some = ended_more lane front more (ended lane some)

told_more : (front more : List Event) → IsTold front → IsTold (front ++ more)
told_more front more is = record {
  before = is.before;
  lane = is.lane;
  call = is.call;
  reply = is.reply;
  later = is.later ++ more;
  there = ap (λ (xs : List Event). xs ++ more) is.there ∙
      append_assoc is.before (Begins is.lane is.call ∷ is.later) more;
  returns = ends_more more is.returns;
  tells = is.tells;
}

told_behind : (front events : List Event) → IsTold events → IsTold (front ++ events)
told_behind front events is = record {
  before = front ++ is.before;
  lane = is.lane;
  call = is.call;
  reply = is.reply;
  later = is.later;
  there = ap (λ (xs : List Event). front ++ xs) is.there ∙
      sym (append_assoc front is.before (Begins is.lane is.call ∷ is.later));
  returns = is.returns;
  tells = is.tells;
}

-- a call that ends ends never no more
never_ends : {lane : ℕ} {end : Event} {events : List Event} → EndsBy lane end events → IsEndOf lane end →
    EndsNever lane events → ⊥
never_ends {lane} {end} (ends_next {events = events}) is never =
    All-head (λ (y : Event). ¬ IsEndOf lane y) end events never is
never_ends {lane} (ends_later {events = events} event other later) is never =
    never_ends later is (All-tail (λ (y : Event). ¬ IsEndOf lane y) event events never)

-- it ends by the last event, or sooner
ends_split : {lane : ℕ} {end : Event} {es : List Event} → EndsBy lane end es → (init : List Event) (e : Event) →
    es ≡ init ++ e ∷ [] → EndsBy lane end init ⊎ ((e ≡ end) × EndsNever lane init)
ends_split {lane} ends_next [] e same =
    inr (sym (first_same same), All-nil (λ (y : Event). ¬ IsEndOf lane y))
ends_split {lane} {end} ends_next (y ∷ init) e same =
    inl (subst (λ (x : Event). EndsBy lane end (x ∷ init)) (first_same same) ends_next)
ends_split {lane} {end} (ends_later event other later) [] e same =
    absurd (ends_not (subst (EndsBy lane end) (rest_same same) later))
ends_split {lane} {end} (ends_later event other later) (y ∷ init) e same = ⊎_elim
    (λ sooner. inl (subst (λ (x : Event). EndsBy lane end (x ∷ init)) (first_same same)
    (ends_later event other sooner)))
    (λ last. inr (
      last.0,
      All-cons (λ (x : Event). ¬ IsEndOf lane x) y init
          (subst (λ (x : Event). ¬ IsEndOf lane x) (first_same same) other) last.1,
    ))
    (ends_split later init e (rest_same same))

-- the end of a call by the last event
ends_last : (lane : ℕ) (events : List Event) (e : Event) → EndsNever lane events → EndsBy lane e (events ++ e ∷ [])
ends_last lane [] e never = ends_next
ends_last lane (x ∷ events) e never =
    ends_later x (All-head (λ (y : Event). ¬ IsEndOf lane y) x events never)
    (ends_last lane events e (All-tail (λ (y : Event). ¬ IsEndOf lane y) x events never))

never_on : (lane : ℕ) (events : List Event) (e : Event) → EndsNever lane events → ¬ IsEndOf lane e →
    EndsNever lane (events ++ e ∷ [])
never_on lane events e never other = All-push (λ (y : Event). ¬ IsEndOf lane y) events e never other

-- the lane of an end
is_end : (u : ℕ) (r : Option Reply) → IsEndOf u (end_in u r)
is_end u None = refl
is_end u (Some r) = refl

end_of : (u lane : ℕ) (r : Option Reply) → IsEndOf lane (end_in u r) → u ≡ lane
end_of u lane None is = is
end_of u lane (Some r) is = is

-- the lanes with an open call
open_one : (past : List Event) (e : Event) (lane : ℕ) →
    open_after (past ++ e ∷ []) lane ≡ open_then (open_after past) e lane
open_one past e lane = ap (λ (calls : Calls). calls lane) (open_after_one none_open past e)

open_set : (past : List Event) (e : Event) (lanes after u : ℕ) (slot : Option Call) → AreOpen past lanes →
    SetsBit lanes after u (bit_of slot) →
    ((lane : ℕ) → open_then (open_after past) e lane ≡ (if u == lane then slot else open_after past lane)) →
    AreOpen (past ++ e ∷ []) after
open_set past e lanes after u slot are sets then_open lane = by (cases_eq u lane)
  where
    by : (u ≡ lane) ⊎ (u ≢ lane) → IsSome (open_after (past ++ e ∷ []) lane) ↔ (bit_at after lane ≡ 1)
    by (inl same) = rw (
      open_one past e lane,
      then_open lane,
      in_lane slot (open_after past lane) same,
      subst (λ (v : ℕ). bit_at after v ≡ bit_of slot) same sets.here,
    ) (some_bit slot)
    by (inr apart) = rw (
      open_one past e lane,
      then_open lane,
      in_other slot (open_after past lane) apart,
      sets.others lane (λ same. apart (sym same)),
    ) (are lane)

pub open_begun : (past : List Event) (lanes after u : ℕ) (c : Call) → AreOpen past lanes → SetsBit lanes after u 1 →
    AreOpen (past ++ Begins u c ∷ []) after
open_begun past lanes after u c are sets =
    open_set past (Begins u c) lanes after u (Some c) are sets (λ lane. refl)

pub open_ended : (past : List Event) (lanes after u : ℕ) (r : Option Reply) → AreOpen past lanes →
    SetsBit lanes after u 0 → AreOpen (past ++ end_in u r ∷ []) after
open_ended past lanes after u None are sets =
    open_set past (Withdraws u) lanes after u None are sets (λ lane. refl)
open_ended past lanes after u (Some r) are sets =
    open_set past (Returns u r) lanes after u None are sets (λ lane. refl)

-- the calls that are waited for
pub awaited_first : (past : List Event) (lanes : ℕ) → AreOpen past lanes → AreAwaited past [] lanes
awaited_first past lanes are = record {
  ended = λ lane some. inl ((are lane).0 some);
  awaited = λ lane one. ((are lane).1 one, All-nil (λ (y : Event). ¬ IsEndOf lane y));
}

pub awaited_none : (past events : List Event) (lanes : ℕ) → AreAwaited past events lanes → lanes ≡ 0 →
    OpenHaveEnded past events
awaited_none past events lanes are none lane some = ⊎_elim
    (λ one. let zero = bit_at-zero lane in let same = ap (λ (n : ℕ). bit_at n lane) none in
    absurd (omega (arith, zero, same, one)))
    (λ ended. ended) (are.ended lane some)

awaited_begun : (past events : List Event) (lanes u : ℕ) (c : Call) → AreAwaited past events lanes →
    AreAwaited past (events ++ Begins u c ∷ []) lanes
awaited_begun past events lanes u c are = record {
  ended = λ lane some. ⊎_elim (λ one. inl one) (λ ended. inr (ended_more lane events (Begins u c ∷ []) ended))
      (are.ended lane some);
  awaited = λ lane one. (
    (are.awaited lane one).0,
    never_on lane events (Begins u c) (are.awaited lane one).1 (λ is. is),
  );
}

awaited_ended : (past events : List Event) (lanes after u : ℕ) (r : Option Reply) → AreAwaited past events lanes →
    SetsBit lanes after u 0 → AreAwaited past (events ++ end_in u r ∷ []) after
awaited_ended past events lanes after u r are sets = record {
  ended = λ lane some. ⊎_elim (λ one. still lane one (cases_eq lane u))
      (λ ended. inr (ended_more lane events (end_in u r ∷ []) ended)) (are.ended lane some);
  awaited = λ lane one. waits lane one (cases_eq lane u);
}
  where
    still : (lane : ℕ) → bit_at lanes lane ≡ 1 → (lane ≡ u) ⊎ (lane ≢ u) →
        (bit_at after lane ≡ 1) ⊎ HasEnded lane (events ++ end_in u r ∷ [])
    still lane one (inl same) = inr (
      end_in u r,
      subst (λ (v : ℕ). IsEndOf v (end_in u r)) (sym same) (is_end u r),
      ends_last lane events (end_in u r) (are.awaited lane one).1,
    )
    still lane one (inr apart) = inl (sets.others lane apart ∙ one)

    waits : (lane : ℕ) → bit_at after lane ≡ 1 → (lane ≡ u) ⊎ (lane ≢ u) →
        IsSome (open_after past lane) × EndsNever lane (events ++ end_in u r ∷ [])
    waits lane one (inl same) = let zero = sets.here in
        let there = subst (λ (v : ℕ). bit_at after v ≡ 1) same one in absurd (omega (arith, zero, there))
    waits lane one (inr apart) = let was = are.awaited lane (sym (sets.others lane apart) ∙ one) in
        (was.0, never_on lane events (end_in u r) was.1 (λ is. apart (sym (end_of u lane r is))))

-- none is waited for where all have ended
none_awaited : (past events : List Event) (lanes : ℕ) → AreAwaited past events lanes → OpenHaveEnded past events →
    lanes ≡ 0
none_awaited past events lanes are ended = same_from_bits lanes 0 (λ lane. by lane (cases_lt (bit_at lanes lane) 1))
  where
    by : (lane : ℕ) → (bit_at lanes lane < 1) ⊎ (1 ≤ bit_at lanes lane) → bit_at lanes lane ≡ bit_at 0 lane
    by lane (inl lt) = let zero = bit_at-zero lane in omega (arith, lt, zero)
    by lane (inr ge) =
        let below = bit_at-lt lanes lane in
        let one : bit_at lanes lane ≡ 1 = omega (arith, below, ge) in
        let was = are.awaited lane one in
        let end = ended lane was.0 in absurd (never_ends end.2 end.1 was.1)

not_all_ended : (past events : List Event) (lanes : ℕ) → AreAwaited past events lanes → lanes ≢ 0 →
    ¬ OpenHaveEnded past events
not_all_ended past events lanes are some ended = some (none_awaited past events lanes are ended)

-- the calls of the record that have begun
begun_none : (lanes : ℕ) → lanes ≡ 0 → HaveBegun [] lanes
begun_none lanes none lane = (
  (λ one. let zero = bit_at-zero lane in let same = ap (λ (n : ℕ). bit_at n lane) none in
      absurd (omega (arith, zero, same, one))),
  λ is. absurd (nil_not is.before _ _ is.there),
)

has_begun_on : (events : List Event) (lane : ℕ) (e : Event) → HasBegun events lane → ¬ IsEndOf lane e →
    HasBegun (events ++ e ∷ []) lane
has_begun_on events lane e is other = record {
  before = is.before;
  call = is.call;
  later = is.later ++ e ∷ [];
  there = ap (λ (xs : List Event). xs ++ e ∷ []) is.there ∙
      append_assoc is.before (Begins lane is.call ∷ is.later) (e ∷ []);
  of_record = is.of_record;
  unended = never_on lane is.later e is.unended other;
}

data WasBegun (events : List Event) (lane : ℕ) (e : Event) : Type 0 where
  was_begun : HasBegun events lane → ¬ IsEndOf lane e → WasBegun events lane e
  begins_now : (c : Call) → e ≡ Begins lane c → is_lock_call c ≡ false → WasBegun events lane e

has_begun_back : (events : List Event) (lane : ℕ) (e : Event) → HasBegun (events ++ e ∷ []) lane →
    WasBegun events lane e
has_begun_back events lane e is = by (back_of e (Begins lane is.call) events is.before is.later is.there)
  where
    by : IsBack e (Begins lane is.call) events is.before is.later → WasBegun events lane e
    by (at_last no_more whole same) = begins_now is.call same is.of_record
    by (sooner init last whole) =
        let each = All-pop (λ (y : Event). ¬ IsEndOf lane y) is.later init (Some e) last is.unended in
        was_begun (record {
          before = is.before;
          call = is.call;
          later = init;
          there = whole;
          of_record = is.of_record;
          unended = each.0;
        }) each.1

begins_same : {u v : ℕ} {c d : Call} → Begins u c ≡ Begins v d → (u ≡ v) × (c ≡ d)
begins_same same = (cc, cc)

end_or_begins : (u v : ℕ) (r : Option Reply) (c : Call) → end_in u r ≡ Begins v c → ⊥
end_or_begins u v None c same = cc
end_or_begins u v (Some r) c same = cc

begun_begun : (events : List Event) (lanes u : ℕ) (c : Call) → HaveBegun events lanes → is_lock_call c ≡ true →
    HaveBegun (events ++ Begins u c ∷ []) lanes
begun_begun events lanes u c are of_lock lane = (
  (λ one. has_begun_on events lane (Begins u c) ((are lane).0 one) (λ is. is)),
  λ is. by (has_begun_back events lane (Begins u c) is),
)
  where
    by : WasBegun events lane (Begins u c) → bit_at lanes lane ≡ 1
    by (was_begun was other) = (are lane).1 was
    by (begins_now d same own) =
        absurd (false≢true (sym own ∙ ap is_lock_call (sym (begins_same same).1) ∙ of_lock))

begun_now : (events : List Event) (lanes after u : ℕ) (c : Call) → HaveBegun events lanes → SetsBit lanes after u 1 →
    is_lock_call c ≡ false → HaveBegun (events ++ Begins u c ∷ []) after
begun_now events lanes after u c are sets of_record lane =
    ((λ one. forth one (cases_eq lane u)), λ is. back is (cases_eq lane u))
  where
    forth : bit_at after lane ≡ 1 → (lane ≡ u) ⊎ (lane ≢ u) → HasBegun (events ++ Begins u c ∷ []) lane
    forth one (inl same) = subst (HasBegun (events ++ Begins u c ∷ [])) (sym same) (record {
      before = events;
      call = c;
      later = [];
      there = refl;
      of_record = of_record;
      unended = All-nil (λ (y : Event). ¬ IsEndOf u y);
    })
    forth one (inr apart) = has_begun_on events lane (Begins u c)
        ((are lane).0 (sym (sets.others lane apart) ∙ one)) (λ is. is)

    by : lane ≢ u → WasBegun events lane (Begins u c) → bit_at after lane ≡ 1
    by apart (was_begun was other) = sets.others lane apart ∙ (are lane).1 was
    by apart (begins_now d same own) = absurd (apart (sym (begins_same same).0))

    back : HasBegun (events ++ Begins u c ∷ []) lane → (lane ≡ u) ⊎ (lane ≢ u) → bit_at after lane ≡ 1
    back is (inl same) = subst (λ (v : ℕ). bit_at after v ≡ 1) (sym same) sets.here
    back is (inr apart) = by apart (has_begun_back events lane (Begins u c) is)

begun_ended : (events : List Event) (lanes after u : ℕ) (r : Option Reply) → HaveBegun events lanes →
    SetsBit lanes after u 0 → HaveBegun (events ++ end_in u r ∷ []) after
begun_ended events lanes after u r are sets lane =
    ((λ one. forth one (cases_eq lane u)), λ is. by (has_begun_back events lane (end_in u r) is) (cases_eq lane u))
  where
    forth : bit_at after lane ≡ 1 → (lane ≡ u) ⊎ (lane ≢ u) → HasBegun (events ++ end_in u r ∷ []) lane
    forth one (inl same) = let zero = sets.here in
        let there = subst (λ (v : ℕ). bit_at after v ≡ 1) same one in absurd (omega (arith, zero, there))
    forth one (inr apart) = has_begun_on events lane (end_in u r)
        ((are lane).0 (sym (sets.others lane apart) ∙ one)) (λ is. apart (sym (end_of u lane r is)))

    by : WasBegun events lane (end_in u r) → (lane ≡ u) ⊎ (lane ≢ u) → bit_at after lane ≡ 1
    by (was_begun was other) (inl same) =
        absurd (other (subst (λ (v : ℕ). IsEndOf v (end_in u r)) (sym same) (is_end u r)))
    by (was_begun was other) (inr apart) = sets.others lane apart ∙ (are lane).1 was
    by (begins_now d same own) which = absurd (end_or_begins u lane r d same)

-- one of them tells the content
answer_tells : (r : Reply) → is_not_no r ≡ true → (c : Call) → is_lock_call c ≡ false → tells_content c r ≡ true
answer_tells r may c own = subst (λ (b : Bool). (not b && is_not_no r) ≡ true) (sym own) may

told_now : (events : List Event) (lanes u : ℕ) (r : Option Reply) → HaveBegun events lanes → bit_at lanes u ≡ 1 →
    may_tell_by r ≡ true → IsTold (events ++ end_in u r ∷ [])
told_now events lanes u None are one may = absurd (false≢true may)
told_now events lanes u (Some r) are one may = let is = (are u).0 one in record {
  before = is.before;
  lane = u;
  call = is.call;
  reply = r;
  later = is.later ++ Returns u r ∷ [];
  there = ap (λ (xs : List Event). xs ++ Returns u r ∷ []) is.there ∙
      append_assoc is.before (Begins u is.call ∷ is.later) (Returns u r ∷ []);
  returns = ends_last u is.later (Returns u r) is.unended;
  tells = answer_tells r may is.call is.of_record;
}

-- where the content is told it was told before the last event, or is told by it
record IsNow (events : List Event) (e : Event) : Type 0 where
  pub lane : ℕ
  pub reply : Reply
  pub e_is : e ≡ Returns lane reply
  pub begun : HasBegun events lane
  pub may : is_not_no reply ≡ true

told_back : (events : List Event) (e : Event) → IsTold (events ++ e ∷ []) → IsTold events ⊎ IsNow events e
told_back events e is = by (back_of e (Begins is.lane is.call) events is.before is.later is.there)
  where
    by : IsBack e (Begins is.lane is.call) events is.before is.later → IsTold events ⊎ IsNow events e
    by (at_last no_more whole same) =
        absurd (ends_not (subst (EndsBy is.lane (Returns is.lane is.reply)) no_more is.returns))
    by (sooner init last whole) = ⊎_elim
        (λ ends. inl (record {
          before = is.before;
          lane = is.lane;
          call = is.call;
          reply = is.reply;
          later = init;
          there = whole;
          returns = ends;
          tells = is.tells;
        }))
        (λ now. inr (record {
          lane = is.lane;
          reply = is.reply;
          e_is = now.0;
          begun = record {
            before = is.before;
            call = is.call;
            later = init;
            there = whole;
            of_record = not_of_lock is.call is.reply is.tells;
            unended = now.1;
          };
          may = (and_parts (not (is_lock_call is.call)) (is_not_no is.reply) is.tells).1;
        }))
        (ends_split is.returns init e last)

begins_or_returns : {u v : ℕ} {c : Call} {r : Reply} → Begins u c ≡ Returns v r → ⊥
begins_or_returns same = cc

returned : (u v : ℕ) (r : Option Reply) (given : Reply) → end_in u r ≡ Returns v given → (u ≡ v) × (r ≡ Some given)
returned u v None given same = cc
returned u v (Some r) given same = let lanes : u ≡ v = cc in let replies : r ≡ given = cc in (lanes, ap Some replies)

-- a call begins
pub so_far_begun : (past since : List Event) (older lanes after u : ℕ) (c : Call) (s : Stage) →
    ((after ≡ lanes) × (is_lock_call c ≡ true)) ⊎ (SetsBit lanes after u 1 × (is_lock_call c ≡ false)) →
    IsSettled older s → IsSoFar past since older lanes s → IsSoFar past (since ++ Begins u c ∷ []) older after s
so_far_begun past since older lanes after u c stage.Open how settled is = record {
  awaited = awaited_begun past since older u c is.awaited;
  sooner = no_sooner_on (OpenHaveEnded past) (all_ended_more past) since (Begins u c)
      (not_all_ended past since older is.awaited settled);
}
so_far_begun past since older lanes after u c stage.Untold how settled is = record {
  first = is.first;
  second = is.second ++ Begins u c ∷ [];
  parts = ap (λ (xs : List Event). xs ++ Begins u c ∷ []) is.parts ∙
      append_assoc is.first is.second (Begins u c ∷ []);
  first_ended = is.first_ended;
  sooner = is.sooner;
  untold = λ told. ⊎_elim is.untold (λ now. begins_or_returns now.e_is) (told_back is.second (Begins u c) told);
  begun = ⊎_elim (λ same. subst (HaveBegun (is.second ++ Begins u c ∷ [])) (sym same.0)
      (begun_begun is.second lanes u c is.begun same.1))
      (λ sets. begun_now is.second lanes after u c is.begun sets.0 sets.1) how;
}
so_far_begun past since older lanes after u c stage.Told how settled is = record {
  first = is.first;
  second = is.second;
  third = is.third ++ Begins u c ∷ [];
  parts = ap (λ (xs : List Event). xs ++ Begins u c ∷ []) is.parts ∙
      append_assoc (is.first ++ is.second) is.third (Begins u c ∷ []);
  first_ended = is.first_ended;
  sooner = is.sooner;
  told = is.told;
  told_sooner = is.told_sooner;
  awaited = awaited_begun ((past ++ is.first) ++ is.second) is.third older u c is.awaited;
}
so_far_begun past since older lanes after u c stage.Over how settled is =
    overtaken_stays past since (Begins u c ∷ []) is

-- a call ends
pub so_far_ended : (past since : List Event) (older older_then newer newer_then u : ℕ) (r : Option Reply) (s : Stage) →
    SetsBit older older_then u 0 → SetsBit newer newer_then u 0 → IsSettled older s →
    ((may_tell_by r ≡ true) → (bit_at newer u ≡ 1) → s ≢ stage.Untold) → IsSoFar past since older newer s →
    IsSoFar past (since ++ end_in u r ∷ []) older_then newer_then s
so_far_ended past since older older_then newer newer_then u r stage.Open sets clears settled not_told is = record {
  awaited = awaited_ended past since older older_then u r is.awaited sets;
  sooner = no_sooner_on (OpenHaveEnded past) (all_ended_more past) since (end_in u r)
      (not_all_ended past since older is.awaited settled);
}
so_far_ended past since older older_then newer newer_then u r stage.Untold sets clears settled not_told is = record {
  first = is.first;
  second = is.second ++ end_in u r ∷ [];
  parts = ap (λ (xs : List Event). xs ++ end_in u r ∷ []) is.parts ∙
      append_assoc is.first is.second (end_in u r ∷ []);
  first_ended = is.first_ended;
  sooner = is.sooner;
  begun = begun_ended is.second newer newer_then u r is.begun clears;
  untold = λ told. ⊎_elim is.untold (λ now. let same = returned u now.lane r now.reply now.e_is in
      not_told (ap may_tell_by same.1 ∙ now.may)
      ((is.begun u).1 (subst (HasBegun is.second) (sym same.0) now.begun)) refl)
      (told_back is.second (end_in u r) told);
}
so_far_ended past since older older_then newer newer_then u r stage.Told sets clears settled not_told is = record {
  first = is.first;
  second = is.second;
  third = is.third ++ end_in u r ∷ [];
  parts = ap (λ (xs : List Event). xs ++ end_in u r ∷ []) is.parts ∙
      append_assoc (is.first ++ is.second) is.third (end_in u r ∷ []);
  first_ended = is.first_ended;
  sooner = is.sooner;
  told = is.told;
  told_sooner = is.told_sooner;
  awaited = awaited_ended ((past ++ is.first) ++ is.second) is.third older older_then u r is.awaited sets;
}
so_far_ended past since older older_then newer newer_then u r stage.Over sets clears settled not_told is =
    overtaken_stays past since (end_in u r ∷ []) is

-- and tells the content
pub so_far_told : (past since : List Event) (opened newer u : ℕ) (r : Option Reply) → IsUntold past since newer →
    AreOpen ((past ++ since) ++ end_in u r ∷ []) opened → bit_at newer u ≡ 1 → may_tell_by r ≡ true →
    IsToldSince past (since ++ end_in u r ∷ []) opened
so_far_told past since opened newer u r is are one may = record {
  first = is.first;
  second = is.second ++ end_in u r ∷ [];
  third = [];
  parts = now ∙ sym (append-nil (is.first ++ (is.second ++ end_in u r ∷ [])));
  first_ended = is.first_ended;
  sooner = is.sooner;
  told = told_now is.second newer u r is.begun one may;
  told_sooner = no_sooner_on IsTold told_more is.second (end_in u r) is.untold;
  awaited = awaited_first ((past ++ is.first) ++ (is.second ++ end_in u r ∷ [])) opened
      (subst (λ (xs : List Event). AreOpen xs opened) (append_assoc past since (end_in u r ∷ []) ∙
      ap (λ (xs : List Event). past ++ xs) now ∙
      sym (append_assoc past is.first (is.second ++ end_in u r ∷ []))) are);
}
  where
    now : since ++ end_in u r ∷ [] ≡ is.first ++ (is.second ++ end_in u r ∷ [])
    now = ap (λ (xs : List Event). xs ++ end_in u r ∷ []) is.parts ∙
        append_assoc is.first is.second (end_in u r ∷ [])

-- no more calls are waited for
pub untold_then : (past since : List Event) (older newer : ℕ) → older ≡ 0 → newer ≡ 0 → IsOpenStill past since older →
    IsUntold past since newer
untold_then past since older newer none no_newer is = record {
  first = since;
  second = [];
  parts = sym (append-nil since);
  first_ended = awaited_none past since older is.awaited none;
  sooner = is.sooner;
  begun = begun_none newer no_newer;
  untold = λ told. nil_not told.before _ _ told.there;
}

-- the same of all that is kept
pub open_none : AreOpen [] 0
open_none lane = (
  (λ is. absurd (false≢true is)),
  λ one. let zero = bit_at-zero lane in absurd (omega (arith, zero, one)),
)

pub follows_none : Follows [] [] (record { stage = stage.Open; «open» = 0; older = 0; newer = 0 })
follows_none = record {
  open_are = open_none;
  so_far = record {
    awaited = awaited_first [] 0 open_none;
    sooner = λ front next rest same is. nil_not front _ _ same;
  };
}

pub tracks_from : (past since : List Event) (o : Overtaking) → Tracks past since o →
    Follows (past ++ since) [] (record o { stage = stage.Open; older = o.«open» })
tracks_from past since o tracks = record {
  open_are = subst (λ (xs : List Event). AreOpen xs o.«open») (sym (append-nil (past ++ since)))
      tracks.follows.open_are;
  so_far = record {
    awaited = awaited_first (past ++ since) o.«open» tracks.follows.open_are;
    sooner = λ front next rest same is. nil_not front _ _ same;
  };
}

-- a call begins, which is of the record or not
pub tracks_begun : (past since : List Event) (o : Overtaking) (opened newer u : ℕ) (c : Call) →
    SetsBit o.«open» opened u 1 →
    ((newer ≡ o.newer) × (is_lock_call c ≡ true)) ⊎ (SetsBit o.newer newer u 1 × (is_lock_call c ≡ false)) →
    Tracks past since o → Tracks past (since ++ Begins u c ∷ []) (record o { «open» = opened; newer = newer })
tracks_begun past since o opened newer u c opens how tracks = record {
  follows = record {
    open_are = subst (λ (xs : List Event). AreOpen xs opened) (append_assoc past since (Begins u c ∷ []))
        (open_begun (past ++ since) o.«open» opened u c tracks.follows.open_are opens);
    so_far = so_far_begun past since o.older o.newer newer u c o.stage how tracks.settled tracks.follows.so_far;
  };
  settled = tracks.settled;
}

-- a call ends, and tells the content or not
module _ (past since : List Event) (o : Overtaking) (opened older newer u : ℕ) (r : Option Reply)
    (opens : SetsBit o.«open» opened u 0) (tracks : Tracks past since o) where
  open_now : AreOpen ((past ++ since) ++ end_in u r ∷ []) opened
  open_now = open_ended (past ++ since) o.«open» opened u r tracks.follows.open_are opens

  pub tracks_ended : SetsBit o.older older u 0 → SetsBit o.newer newer u 0 → ¬ IsToldBy o u (may_tell_by r) →
      Follows past (since ++ end_in u r ∷ []) (record o { «open» = opened; older = older; newer = newer })
  tracks_ended sets clears other = record {
    open_are = subst (λ (xs : List Event). AreOpen xs opened) (append_assoc past since (end_in u r ∷ [])) open_now;
    so_far = so_far_ended past since o.older older o.newer newer u r o.stage sets clears tracks.settled
        (λ may one untold. other (may, one, untold)) tracks.follows.so_far;
  }

  pub tracks_told : IsToldBy o u (may_tell_by r) → Follows past (since ++ end_in u r ∷ [])
      (record o { stage = stage.Told; «open» = opened; older = opened; newer = newer })
  tracks_told told = record {
    open_are = subst (λ (xs : List Event). AreOpen xs opened) (append_assoc past since (end_in u r ∷ [])) open_now;
    so_far = so_far_told past since opened o.newer u r
        (subst (IsSoFar past since o.older o.newer) told.2 tracks.follows.so_far) open_now told.1 told.0;
  }

-- of two partings of the same events one goes on where the other ends
data Fork (a b c d : List Event) : Type 0 where
  goes_on : (x : List Event) → c ≡ a ++ x → b ≡ x ++ d → Fork a b c d
  is_short : (next : Event) (rest : List Event) → a ≡ c ++ next ∷ rest → Fork a b c d

fork_more : (y z : Event) (a b c d : List Event) → y ≡ z → Fork a b c d → Fork (y ∷ a) b (z ∷ c) d
fork_more y z a b c d one (goes_on x same rest) =
    goes_on x (ap (λ (v : Event). v ∷ c) (sym one) ∙ ap (λ (vs : List Event). y ∷ vs) same) rest
fork_more y z a b c d one (is_short next rest same) =
    is_short next rest (ap (λ (v : Event). v ∷ a) one ∙ ap (λ (vs : List Event). z ∷ vs) same)

fork : (a b c d : List Event) → a ++ b ≡ c ++ d → Fork a b c d
fork [] b c d same = goes_on c refl same
fork (y ∷ a) b [] d same = is_short y a refl
fork (y ∷ a) b (z ∷ c) d same = fork_more y z a b c d (first_same same) (fork a b c d (rest_same same))

-- a call that is open ends among more events, or is open behind them
open_stays : (past : List Event) (lane : ℕ) (e : Event) → ¬ IsEndOf lane e → IsSome (open_after past lane) →
    IsSome (open_after (past ++ e ∷ []) lane)
open_stays past lane e other some = subst IsSome (sym (open_one past e lane)) (by e other)
  where
    by : (e : Event) → ¬ IsEndOf lane e → IsSome (open_then (open_after past) e lane)
    by (Begins u c) other = ⊎_elim
        (λ same. subst IsSome (sym (in_lane (Some c) (open_after past lane) same)) refl)
        (λ apart. subst IsSome (sym (in_other (Some c) (open_after past lane) apart)) some) (cases_eq u lane)
    by (Returns u r) other = subst IsSome (sym (in_other None (open_after past lane) other)) some
    by (Withdraws u) other = subst IsSome (sym (in_other None (open_after past lane) other)) some

ended_across : (past more later : List Event) (lane : ℕ) → IsSome (open_after past lane) →
    OpenHaveEnded (past ++ more) later → HasEnded lane (more ++ later)
ended_across past [] later lane some ended =
    subst (λ (xs : List Event). OpenHaveEnded xs later) (append-nil past) ended lane some
ended_across past (e ∷ more) later lane some ended = ⊎_elim (λ is. (e, is, ends_next))
    (λ other. let on = ended_across (past ++ e ∷ []) more later lane (open_stays past lane e other some)
    (subst (λ (xs : List Event). OpenHaveEnded xs later) (sym (append_assoc past (e ∷ []) more)) ended) in
    (on.0, on.1, ends_later e other on.2))
    (end_or_not lane e)

-- so the past is overtaken in the last stage alone
module _ (past since : List Event) (over : IsOvertaken past since) where
  parts : since ≡ over.first ++ (over.second ++ over.third)
  parts = over.parts ∙ append_assoc over.first over.second over.third

  open_not : (older : ℕ) → AreAwaited past since older → older ≢ 0 → ⊥
  open_not older are some = not_all_ended past since older are some (subst (OpenHaveEnded past) (sym parts)
      (all_ended_more past over.first (over.second ++ over.third) over.first_ended))

  untold_not : (newer : ℕ) → IsUntold past since newer → ⊥
  untold_not newer is = by (fork is.first is.second over.first (over.second ++ over.third) (sym is.parts ∙ parts))
    where
      by : Fork is.first is.second over.first (over.second ++ over.third) → ⊥
      by (is_short next rest same) = is.sooner over.first next rest same over.first_ended
      by (goes_on x same rest) = is.untold (subst IsTold (sym rest)
          (told_behind x (over.second ++ over.third) (told_more over.second over.third over.told)))

  told_not : (older : ℕ) → IsToldSince past since older → older ≢ 0 → ⊥
  told_not older is some = by (fork is.first (is.second ++ is.third) over.first (over.second ++ over.third)
      (sym (append_assoc is.first is.second is.third) ∙ sym is.parts ∙ parts))
    where
      behind : List Event
      behind = (past ++ is.first) ++ is.second

      behind_both : (x y : List Event) → over.first ≡ is.first ++ x → x ++ over.second ≡ is.second ++ y →
          (past ++ over.first) ++ over.second ≡ behind ++ y
      behind_both x y first second =
          ap (λ (f : List Event). (past ++ f) ++ over.second) first ∙
          append_assoc past (is.first ++ x) over.second ∙
          ap (λ (xs : List Event). past ++ xs) (append_assoc is.first x over.second) ∙
          ap (λ (xs : List Event). past ++ (is.first ++ xs)) second ∙
          sym (append_assoc past is.first (is.second ++ y)) ∙
          sym (append_assoc (past ++ is.first) is.second y)

      by_second : (x : List Event) → over.first ≡ is.first ++ x →
          Fork is.second is.third (x ++ over.second) over.third → ⊥
      by_second x first (is_short next rest same) =
          is.told_sooner (x ++ over.second) next rest same (told_behind x over.second over.told)
      by_second x first (goes_on y second third) = not_all_ended behind is.third older is.awaited some
          (λ lane open_there. subst (HasEnded lane) (sym third) (ended_across behind y over.third lane open_there
          (subst (λ (xs : List Event). OpenHaveEnded xs over.third) (behind_both x y first second) over.then_ended)))

      by : Fork is.first (is.second ++ is.third) over.first (over.second ++ over.third) → ⊥
      by (is_short next rest same) = is.sooner over.first next rest same over.first_ended
      by (goes_on x first rest) = by_second x first (fork is.second is.third (x ++ over.second) over.third
          (rest ∙ sym (append_assoc x over.second over.third)))

  over_at : (older newer : ℕ) (s : Stage) → IsSettled older s → IsSoFar past since older newer s → s ≡ stage.Over
  over_at older newer stage.Over settled is = refl
  over_at older newer stage.Open settled is = absurd (open_not older is.awaited settled)
  over_at older newer stage.Untold settled is = absurd (untold_not newer is)
  over_at older newer stage.Told settled is = absurd (told_not older is settled)

pub over_exactly : (past since : List Event) (o : Overtaking) → Tracks past since o →
    (o.stage ≡ stage.Over) ↔ IsOvertaken past since
over_exactly past since o tracks = (
  (λ is. subst (IsSoFar past since o.older o.newer) is tracks.follows.so_far),
  λ over. over_at past since over o.older o.newer o.stage tracks.settled tracks.follows.so_far,
)
