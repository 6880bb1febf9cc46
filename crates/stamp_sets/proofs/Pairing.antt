-- A watch of two halves, by what each of them keeps.
use Rattle.std.proofs.Common.{◌≡◌, ◌≢◌, ◌⊎◌, ◌≤◌, ◌<◌, ℕ, Bool, true, false, List, [], ◌∷◌, ◌++◌, Option, Some, None}
use Rattle.std.proofs.Common.{◌+◌, length, refl, sym, ◌∙◌, ap, subst, inl, inr, append-nil, arith}
use Rattle.std.specs.Prelude.{if◌then◌else◌, not, option_map, slice_set, ◌↔◌, IsSome}
use Rattle.std.specs.Option.{option_or}
use Rattle.std.proofs.lemmas.Bool.{cases_eq, not-true, cases_Bool}
use Rattle.std.proofs.lemmas.List.Sums.{fold-append}
use Rattle.std.proofs.lemmas.Option.{none-some, same_Some}
use Rattle.stamp_core.specs.Call.{is_lock_call}
use Rattle.stamp_core.specs.declared.call.Call.{Call}
use Rattle.stamp_core.specs.declared.reply.Reply.{Reply}
use Rattle.stamp_runs.specs.BothRun.{AreExplained, Both, start}
use Rattle.stamp_runs.specs.Object.{LockStep, RecordStep}
use Rattle.stamp_runs.specs.Own.{AreInForm, AreInFormFrom, MayCome, is_own, is_own_call, none_open, open_then, own_from}
use Rattle.stamp_runs.specs.Own.{open_after, own_events, own_numbers}
use Rattle.stamp_runs.specs.Run.{AreExplainedFrom, lane_of}
use Rattle.stamp_runs.specs.declared.event.Event.{Event}
use Rattle.stamp_runs.specs.declared.event.Event.TheVariants as event
use Rattle.stamp_runs.proofs.Lanes.{true_or_false}
use Rattle.stamp_runs.proofs.Laws.{explained_by_own}
use Rattle.stamp_runs.proofs.OwnEvents.{IsOwnLane, explained_in_form, form_of_both, form_of_rest, own_ends_by}
use Rattle.stamp_runs.proofs.OwnEvents.{own_ends_never, own_of_both, own_returns_sooner}
use Rattle.stamp_runs.proofs.Owning.{Calls, Opens, begins_opens, returns_opens, withdraws_opens}
use Rattle.stamp_sets.specs.declared.ending.Ending.{Ending}
use Rattle.stamp_sets.specs.declared.ending.Ending.TheVariants.{Returns, Withdraws, Never}
use Rattle.stamp_sets.specs.declared.half.Half.{Half}
use Rattle.stamp_sets.specs.declared.object.Object.{Object}
use Rattle.stamp_sets.specs.declared.object.Object.TheVariants.{Lock}
use Rattle.stamp_sets.specs.declared.open_call.OpenCall.{OpenCall}
use Rattle.stamp_sets.specs.declared.trace.Trace.{Trace}
use Rattle.stamp_sets.specs.declared.watch.Watch.{Watch}
use Rattle.stamp_sets.specs.Half.{IsSameHalf, KeepsRun}
use Rattle.stamp_sets.specs.inner.Half.{ExplainsIn, ExplainsNone, KeepsSome}
use Rattle.stamp_sets.specs.Judged.{judged}
use Rattle.stamp_sets.specs.SmallCall.{call_of, reply_of}
use Rattle.stamp_sets.specs.Told.{ComesAsTold, EndsSo, open_at}
use Rattle.stamp_sets.specs.Watch.{IsCopy, IsHopeless, IsWatching, KeepsOwn, SetsOpen, is_record_call, open_of}
use Rattle.stamp_sets.specs.Watch.{own_open}
use Rattle.stamp_sets.specs.Watch.{IsWatched}
use Rattle.stamp_sets.specs.Tracing.{IsTracing, KeepsTrace, TracesOwn}
use Rattle.stamp_sets.specs.inner.Pair.{GoesOnBy}
use Rattle.stamp_sets.proofs.Halves.{keeps_copied, keeps_later, lane_of_open}
use Rattle.stamp_sets.proofs.Numbering.{all_numbers, numbers_one}
use Rattle.stamp_sets.proofs.Tables.{open_at_set_here, open_at_set_none, open_at_set_other}

abbrev pub asked : OpenCall → Call
asked begun = call_of begun.asks

-- the open calls of a half are its own of all that are open
abbrev pub OpensOwn : (Call → Bool) → Calls → (ℕ → Option OpenCall) → Type 0
OpensOwn mine calls opens = (lane : ℕ) → option_map asked (opens lane) ≡ own_open mine (calls lane)

map_none : (o : Option OpenCall) → option_map asked o ≡ None → o ≡ None
map_none None is = refl
map_none (Some b) is = absurd (none-some (asked b) (sym is))

module _ (mine : Call → Bool) where
  own_open_some : (call : Call) → mine call ≡ true → own_open mine (Some call) ≡ Some call
  own_open_some call is = ap (λ (k : Bool). if k then Some call else None) is

  own_open_none : (call : Call) → mine call ≡ false → own_open mine (Some call) ≡ None
  own_open_none call not = ap (λ (k : Bool). if k then Some call else None) not

  -- one's own open call is open, and one's own
  record IsOwnOpen (o : Option Call) (call : Call) : Type 0 where
    is_open : o ≡ Some call
    is_mine : mine call ≡ true

  own_open_is : (o : Option Call) (call : Call) → own_open mine o ≡ Some call → IsOwnOpen o call
  own_open_is None call is = absurd (none-some call is)
  own_open_is (Some other) call is = by (cases_Bool (mine other))
    where
      by : (mine other ≡ true) ⊎ (mine other ≡ false) → IsOwnOpen (Some other) call
      by (inl it) = let same : Some other ≡ Some call = sym (own_open_some other it) ∙ is in record {
        is_open = same;
        is_mine = subst (λ (c : Call). mine c ≡ true) (same_Some other call same) it;
      }
      by (inr not_it) = absurd (none-some call (sym (own_open_none other not_it) ∙ is))

  module _ (calls : Calls) (opens : ℕ → Option OpenCall) (are : OpensOwn mine calls opens) where
    half_open : (lane : ℕ) (b : OpenCall) → opens lane ≡ Some b → IsOwnOpen (calls lane) (asked b)
    half_open lane b is = own_open_is (calls lane) (asked b) (sym (are lane) ∙ ap (option_map asked) is)

    half_own : (lane : ℕ) (b : OpenCall) → opens lane ≡ Some b → IsOwnLane mine calls lane
    half_own lane b is = let one = half_open lane b is in
        ap (is_own_call mine) one.is_open ∙ one.is_mine

    half_idle : (lane : ℕ) → own_open mine (calls lane) ≡ None → opens lane ≡ None
    half_idle lane none = map_none (opens lane) (are lane ∙ none)

    -- one lane's open call becomes another
    opens_on : (after : Calls) (new : ℕ → Option OpenCall) (lane : ℕ) (slot : Option OpenCall) (call : Option Call) →
        Opens calls after lane call → SetsOpen opens new lane slot → option_map asked slot ≡ own_open mine call →
        OpensOwn mine after new
    opens_on after new lane slot call comes sets same other = by (cases_eq other lane)
      where
        by : (other ≡ lane) ⊎ (other ≢ lane) → option_map asked (new other) ≡ own_open mine (after other)
        by (inl at) = subst (λ (v : ℕ). option_map asked (new v) ≡ own_open mine (after v)) (sym at)
            (ap (option_map asked) sets.here ∙ same ∙ ap (own_open mine) (sym comes.here))
        by (inr apart) = ap (option_map asked) (sets.others other apart) ∙ are other ∙
            ap (own_open mine) (sym (comes.others other apart))

    -- what comes as was told of all that is open comes so to the half, among its own events
    own_as_told : (all : ℕ → Option OpenCall) (last : ℕ) (future : List Event) → AreInFormFrom calls future →
        ((lane : ℕ) (b : OpenCall) → opens lane ≡ Some b → all lane ≡ Some b) → ComesAsTold all last future →
        ComesAsTold opens last (own_from mine calls future)
    own_as_told all last future form among told = record {
      ends = λ lane b is. ends lane b is b.ends (told.ends lane b (among lane b is));
      sooner = λ lane than first other is also before. own_returns_sooner mine lane than future calls form
          (half_own lane first is) (half_own than other also)
          (told.sooner lane than first other (among lane first is) (among than other also) before);
      due = λ lane b reply place is. told.due lane b reply place (among lane b is);
    }
      where
        ends : (lane : ℕ) (b : OpenCall) → opens lane ≡ Some b → (ending : Ending) → EndsSo lane ending future →
            EndsSo lane ending (own_from mine calls future)
        ends lane b is (Returns reply place) so = own_ends_by mine lane (event.Returns lane (reply_of reply)) refl
            future calls form (half_own lane b is) so
        ends lane b is Withdraws so = own_ends_by mine lane (event.Withdraws lane) refl future calls form
            (half_own lane b is) so
        ends lane b is Never so = own_ends_never mine lane future calls so

-- the open call of a lane of two halves
either_open : (x y : Option OpenCall) (b : OpenCall) → option_or x y ≡ Some b →
    (x ≡ Some b) ⊎ ((x ≡ None) × (y ≡ Some b))
either_open None y b is = inr (refl, is)
either_open (Some c) y b is = inl is

pub first_free : (x y : Option OpenCall) → option_or x y ≡ None → x ≡ None
first_free None y is = refl
first_free (Some c) y is = absurd (none-some c (sym is))

pub second_free : (x y : Option OpenCall) → option_or x y ≡ None → y ≡ None
second_free None y is = is
second_free (Some c) y is = absurd (none-some c (sym is))

second_none : (x y : Option OpenCall) → y ≡ None → option_or x y ≡ x
second_none None y none = none
second_none (Some c) y none = refl

module _ (calls : Calls) (first second : ℕ → Option OpenCall) (own : OpensOwn is_lock_call calls first)
    (others : OpensOwn is_record_call calls second) where
  abbrev pub either : ℕ → Option OpenCall
  either lane = option_or (first lane) (second lane)

  pub either_is : (lane : ℕ) → option_map asked (either lane) ≡ calls lane
  either_is lane = by (first lane) (second lane) (calls lane) (own lane) (others lane)
    where
      split : (k : Bool) (c : Call) (x y : Option OpenCall) → option_map asked x ≡ (if k then Some c else None) →
          option_map asked y ≡ (if not k then Some c else None) → option_map asked (option_or x y) ≡ Some c
      split true c None y is also = absurd (none-some c is)
      split true c (Some b) y is also = is
      split false c None y is also = also
      split false c (Some b) y is also = absurd (none-some (asked b) (sym is))

      by : (x y : Option OpenCall) (o : Option Call) → option_map asked x ≡ own_open is_lock_call o →
          option_map asked y ≡ own_open is_record_call o → option_map asked (option_or x y) ≡ o
      by x y (Some c) is also = split (is_lock_call c) c x y is also
      by None y None is also = also
      by (Some b) y None is also = absurd (none-some (asked b) (sym is))

  first_among : (lane : ℕ) (b : OpenCall) → first lane ≡ Some b → either lane ≡ Some b
  first_among lane b is = ap (λ (o : Option OpenCall). option_or o (second lane)) is

  -- where a call of the record is open, none of the lock is
  not_first : (lane : ℕ) (c : Call) → calls lane ≡ Some c → is_lock_call c ≡ false → first lane ≡ None
  not_first lane c is not_lock = half_idle is_lock_call calls first own lane
      (ap (own_open is_lock_call) is ∙ own_open_none is_lock_call c not_lock)

  second_among : (lane : ℕ) (b : OpenCall) → second lane ≡ Some b → either lane ≡ Some b
  second_among lane b is = let one = half_open is_record_call calls second others lane b is in
      ap (λ (o : Option OpenCall). option_or o (second lane))
      (not_first lane (asked b) one.is_open (not-true (is_lock_call (asked b)) one.is_mine)) ∙ is

  -- an open call is in the half that it is of
  in_first : (lane : ℕ) (b : OpenCall) → either lane ≡ Some b → is_lock_call (asked b) ≡ true → first lane ≡ Some b
  in_first lane b is lock = by (either_open (first lane) (second lane) b is)
    where
      by : (first lane ≡ Some b) ⊎ ((first lane ≡ None) × (second lane ≡ Some b)) → first lane ≡ Some b
      by (inl here) = here
      by (inr there) = absurd (true_or_false lock (not-true (is_lock_call (asked b))
          (half_open is_record_call calls second others lane b there.1).is_mine))

  in_second : (lane : ℕ) (b : OpenCall) → either lane ≡ Some b → is_lock_call (asked b) ≡ false → second lane ≡ Some b
  in_second lane b is not_lock = by (either_open (first lane) (second lane) b is)
    where
      by : (first lane ≡ Some b) ⊎ ((first lane ≡ None) × (second lane ≡ Some b)) → second lane ≡ Some b
      by (inl here) = absurd (true_or_false (half_open is_lock_call calls first own lane b here).is_mine not_lock)
      by (inr there) = there.1

-- the event is of this call in its lane, and leaves this open there
pub record IsOf (calls : Calls) (e : Event) (call : Call) (slot : Option OpenCall) : Type 0 where
  comes : MayCome calls e
  owned : (mine : Call → Bool) → is_own mine calls e ≡ mine call
  was : (mine : Call → Bool) → mine call ≡ false → own_open mine (calls (lane_of e)) ≡ None
  leaves : (mine : Call → Bool) → mine call ≡ true →
      option_map asked slot ≡ own_open mine (open_then calls e (lane_of e))
  leaves_none : (mine : Call → Bool) → mine call ≡ false → own_open mine (open_then calls e (lane_of e)) ≡ None

opens_then : (calls : Calls) (e : Event) → Opens calls (open_then calls e) (lane_of e) (open_then calls e (lane_of e))
opens_then calls (event.Begins u c) = record { here = refl; others = (begins_opens calls u c).others }
opens_then calls (event.Returns u r) = record { here = refl; others = (returns_opens calls u r).others }
opens_then calls (event.Withdraws u) = record { here = refl; others = (withdraws_opens calls u).others }

begins_of : (calls : Calls) (u : ℕ) (b : OpenCall) → calls u ≡ None →
    IsOf calls (event.Begins u (asked b)) (asked b) (Some b)
begins_of calls u b idle = record {
  comes = idle;
  owned = λ mine. refl;
  was = λ mine other. ap (own_open mine) idle;
  leaves = λ mine is. sym (ap (own_open mine) (begins_opens calls u (asked b)).here ∙
      own_open_some mine (asked b) is);
  leaves_none = λ mine other. ap (own_open mine) (begins_opens calls u (asked b)).here ∙
      own_open_none mine (asked b) other;
}

-- an end of the open call of its lane
ends_of : (calls : Calls) (e : Event) (call : Call) → MayCome calls e →
    ((mine : Call → Bool) → is_own mine calls e ≡ is_own_call mine (calls (lane_of e))) →
    open_then calls e (lane_of e) ≡ None → calls (lane_of e) ≡ Some call → IsOf calls e call None
ends_of calls e call comes tells none is = record {
  comes = comes;
  owned = λ mine. tells mine ∙ ap (is_own_call mine) is;
  was = λ mine other. ap (own_open mine) is ∙ own_open_none mine call other;
  leaves = λ mine own. sym (ap (own_open mine) none);
  leaves_none = λ mine other. ap (own_open mine) none;
}

-- a half, one event on: of its own call, or of another
module _ (mine : Call → Bool) (past : List Event) (last place : ℕ) (e : Event) (call : Call) (slot : Option OpenCall)
    (of : IsOf (open_after past) e call slot) (half : Half) (keeps : KeepsOwn mine past last half) where
  after_one : open_after (past ++ e ∷ []) ≡ open_then (open_after past) e
  after_one = fold-append open_then none_open past (e ∷ [])

  own_one : (k : Bool) → is_own mine (open_after past) e ≡ k →
      own_events mine (past ++ e ∷ []) ≡ own_events mine past ++ (if k then e ∷ [] else [])
  own_one k is = own_of_both mine past (e ∷ []) ∙
      ap (λ (b : Bool). own_events mine past ++ (if b then e ∷ [] else [])) is

  opens_one : (new : Half) (open_call : Option OpenCall) →
      SetsOpen (open_at half.table.items) (open_at new.table.items) (lane_of e) open_call →
      option_map asked open_call ≡ own_open mine (open_then (open_after past) e (lane_of e)) →
      OpensOwn mine (open_after (past ++ e ∷ [])) (open_at new.table.items)
  opens_one new open_call sets same = subst (λ (calls : Calls). OpensOwn mine calls (open_at new.table.items))
      (sym after_one) (opens_on mine (open_after past) (open_at half.table.items) keeps.opens
      (open_then (open_after past) e) (open_at new.table.items) (lane_of e) open_call
      (open_then (open_after past) e (lane_of e)) (opens_then (open_after past) e) sets same)

  own_moves : mine call ≡ true → (new : Half) → KeepsRun (own_events mine past ++ e ∷ []) place new →
      SetsOpen (open_at half.table.items) (open_at new.table.items) (lane_of e) slot →
      KeepsOwn mine (past ++ e ∷ []) place new
  own_moves is new run sets = record {
    keeps = subst (λ (es : List Event). KeepsRun es place new) (sym (own_one true (of.owned mine ∙ is))) run;
    opens = opens_one new slot sets (of.leaves mine is);
  }

  other_stays : mine call ≡ false → last ≤ place → KeepsOwn mine (past ++ e ∷ []) place half
  other_stays other due = record {
    keeps = subst (λ (es : List Event). KeepsRun es place half)
        (sym (own_one false (of.owned mine ∙ other) ∙ append-nil (own_events mine past)))
        (keeps_later (own_events mine past) last half keeps.keeps place due);
    opens = opens_one half None (record {
      here = half_idle mine (open_after past) (open_at half.table.items) keeps.opens (lane_of e) (of.was mine other);
      others = λ v apart. refl;
    }) (sym (of.leaves_none mine other));
  }

  -- so it is where it is traced
  own_traced : mine call ≡ true → (new : Half) (trace later : Trace) (number : ℕ) → number ≡ length past →
      TracesOwn mine past half trace → KeepsTrace (own_events mine past ++ e ∷ []) new later →
      (trace.is_on ≡ true → later.numbers ≡ trace.numbers ++ number ∷ []) →
      TracesOwn mine (past ++ e ∷ []) new later
  own_traced is new trace later number counted old traced told = record {
    keeps = subst (λ (es : List Event). KeepsTrace es new later) (sym (own_one true (of.owned mine ∙ is))) traced;
    numbers = told old.keeps.on ∙ ap (λ (ns : List ℕ). ns ++ number ∷ []) old.numbers ∙
        ap (λ (n : ℕ). own_numbers mine past ++ n ∷ []) counted ∙
        sym (numbers_one mine past e true (of.owned mine ∙ is));
  }

  other_traced : mine call ≡ false → (trace : Trace) → TracesOwn mine past half trace →
      TracesOwn mine (past ++ e ∷ []) half trace
  other_traced other trace old = record {
    keeps = subst (λ (es : List Event). KeepsTrace es half trace)
        (sym (own_one false (of.owned mine ∙ other) ∙ append-nil (own_events mine past))) old.keeps;
    numbers = old.numbers ∙
        sym (numbers_one mine past e false (of.owned mine ∙ other) ∙ append-nil (own_numbers mine past));
  }

-- the open calls of both halves are those of the run
pub watching_lanes : (past : List Event) (watch : Watch) → IsWatching past watch → (lane : ℕ) →
    option_map asked (open_of watch lane) ≡ open_after past lane
watching_lanes past watch is lane = either_is (open_after past) (open_at watch.lock.table.items)
    (open_at watch.record.table.items) is.lock.opens is.record.opens lane

-- a call may begin where none is open
pub begins_is : (watch : Watch) (lane : ℕ) (b : OpenCall) → open_of watch lane ≡ None → (past : List Event) →
    IsWatching past watch → IsOf (open_after past) (event.Begins lane (asked b)) (asked b) (Some b)
begins_is watch lane b free past is = begins_of (open_after past) lane b
    (sym (watching_lanes past watch is lane) ∙ ap (option_map asked) free)

open_is : (watch : Watch) (lane : ℕ) (b : OpenCall) → open_of watch lane ≡ Some b → (past : List Event) →
    IsWatching past watch → open_after past lane ≡ Some (asked b)
open_is watch lane b is_open past is = sym (watching_lanes past watch is lane) ∙ ap (option_map asked) is_open

-- and an open one may end
pub returns_is : (watch : Watch) (lane : ℕ) (b : OpenCall) (reply : Reply) → open_of watch lane ≡ Some b →
    (past : List Event) → IsWatching past watch → IsOf (open_after past) (event.Returns lane reply) (asked b) None
returns_is watch lane b reply is_open past is = let open_there = open_is watch lane b is_open past is in
    ends_of (open_after past) (event.Returns lane reply) (asked b) (subst IsSome (sym open_there) refl)
    (λ mine. refl) (returns_opens (open_after past) lane reply).here open_there

pub withdraws_is : (watch : Watch) (lane : ℕ) (b : OpenCall) → open_of watch lane ≡ Some b → (past : List Event) →
    IsWatching past watch → IsOf (open_after past) (event.Withdraws lane) (asked b) None
withdraws_is watch lane b is_open past is = let open_there = open_is watch lane b is_open past is in
    ends_of (open_after past) (event.Withdraws lane) (asked b) (subst IsSome (sym open_there) refl)
    (λ mine. refl) (withdraws_opens (open_after past) lane).here open_there

-- each half keeps some run, and the open call of a lane is in the half that it is of
module _ (watch : Watch) (watched : IsWatched watch) where
  pub lock_some : KeepsSome watch.lock
  lock_some = record {
    past = own_events is_lock_call watched.past;
    last = watch.last;
    keeps = watched.watching.lock.keeps;
  }

  pub record_some : KeepsSome watch.record
  record_some = record {
    past = own_events is_record_call watched.past;
    last = watch.last;
    keeps = watched.watching.record.keeps;
  }

  module _ (lane : ℕ) (b : OpenCall) (is_open : open_of watch lane ≡ Some b) where
    pub in_lock : is_lock_call (asked b) ≡ true → open_at watch.lock.table.items lane ≡ Some b
    in_lock = in_first (open_after watched.past) (open_at watch.lock.table.items) (open_at watch.record.table.items)
        watched.watching.lock.opens watched.watching.record.opens lane b is_open

    pub in_record : is_lock_call (asked b) ≡ false → open_at watch.record.table.items lane ≡ Some b
    in_record = in_second (open_after watched.past) (open_at watch.lock.table.items)
        (open_at watch.record.table.items) watched.watching.lock.opens watched.watching.record.opens lane b is_open

    pub lane_within : lane < 64
    lane_within = by (cases_Bool (is_lock_call (asked b)))
      where
        by : (is_lock_call (asked b) ≡ true) ⊎ (is_lock_call (asked b) ≡ false) → lane < 64
        by (inl lock) = lane_of_open lock_some.past lock_some.last watch.lock lock_some.keeps lane b (in_lock lock)
        by (inr other) = lane_of_open record_some.past record_some.last watch.record record_some.keeps lane b
            (in_record other)

-- a watch goes on by an event of one of its halves
module _ (old : Watch) (watched : IsWatched old) (e : Event) (b : OpenCall) (slot : Option OpenCall) (place : ℕ)
    (of : (past : List Event) → IsWatching past old → IsOf (open_after past) e (asked b) slot)
    (due : old.last ≤ place) (moved : Half) (trace : Trace) (number : ℕ)
    (counted : number ≡ length old.lock_trace.numbers + length old.record_trace.numbers) where
  abbrev by_lock : Watch
  by_lock = record {
    limits = old.limits;
    lock = moved;
    «record» = old.record;
    lock_trace = trace;
    record_trace = old.record_trace;
    last = place;
  }

  abbrev by_record : Watch
  by_record = record {
    limits = old.limits;
    lock = old.lock;
    «record» = moved;
    lock_trace = old.lock_trace;
    record_trace = trace;
    last = place;
  }

  -- the number of the event among all
  is_number : (past : List Event) → IsTracing past old → number ≡ length past
  is_number past is = counted ∙
      ap (λ (ns : List ℕ). length ns + length old.record_trace.numbers) is.lock.numbers ∙
      ap (λ (ns : List ℕ). length (own_numbers is_lock_call past) + length ns) is.record.numbers ∙
      all_numbers is_lock_call past is.watching.form

  form_on : (past : List Event) → IsWatching past old → AreInForm (past ++ e ∷ [])
  form_on past is = form_of_both none_open past (e ∷ []) is.form ((of past is).comes, tt)

  pub lock_goes_on : is_lock_call (asked b) ≡ true → moved.object ≡ old.lock.object →
      ((past : List Event) → KeepsRun past old.last old.lock → KeepsRun (past ++ e ∷ []) place moved) →
      (old.lock_trace.is_on ≡ true → trace.numbers ≡ old.lock_trace.numbers ++ number ∷ []) →
      ((past : List Event) → KeepsTrace past old.lock old.lock_trace → KeepsTrace (past ++ e ∷ []) moved trace) →
      SetsOpen (open_at old.lock.table.items) (open_at moved.table.items) (lane_of e) slot →
      GoesOnBy e slot place old by_lock
  lock_goes_on lock same keeps told traces sets = record {
    watching = watching;
    tracing = λ past is. record {
      watching = watching past is.watching;
      lock = own_traced is_lock_call past old.last place e (asked b) slot (of past is.watching) old.lock
          is.watching.lock lock moved old.lock_trace trace number (is_number past is) is.lock
          (traces (own_events is_lock_call past) is.lock.keeps) told;
      «record» = other_traced is_record_call past old.last place e (asked b) slot (of past is.watching) old.record
          is.watching.record (ap not lock) old.record_trace is.record;
    };
    opens = record {
      here = ap (λ (o : Option OpenCall). option_or o (open_at old.record.table.items (lane_of e))) sets.here ∙
          second_none slot (open_at old.record.table.items (lane_of e))
          (half_idle is_record_call (open_after watched.past) (open_at old.record.table.items)
          watched.watching.record.opens (lane_of e)
          ((of watched.past watched.watching).was is_record_call (ap not lock)));
      others = λ v apart. ap (λ (o : Option OpenCall). option_or o (open_at old.record.table.items v))
          (sets.others v apart);
    };
    last = refl;
    limits = refl;
  }
    where
      watching : (past : List Event) → IsWatching past old → IsWatching (past ++ e ∷ []) by_lock
      watching past is = record {
        form = form_on past is;
        lock_is = same ∙ is.lock_is;
        record_is = is.record_is;
        lock = own_moves is_lock_call past old.last place e (asked b) slot (of past is) old.lock is.lock lock moved
            (keeps (own_events is_lock_call past) is.lock.keeps) sets;
        «record» = other_stays is_record_call past old.last place e (asked b) slot (of past is) old.record is.record
            (ap not lock) due;
      }

  pub record_goes_on : is_lock_call (asked b) ≡ false → moved.object ≡ old.record.object →
      ((past : List Event) → KeepsRun past old.last old.record → KeepsRun (past ++ e ∷ []) place moved) →
      (old.record_trace.is_on ≡ true → trace.numbers ≡ old.record_trace.numbers ++ number ∷ []) →
      ((past : List Event) → KeepsTrace past old.record old.record_trace → KeepsTrace (past ++ e ∷ []) moved trace) →
      SetsOpen (open_at old.record.table.items) (open_at moved.table.items) (lane_of e) slot →
      GoesOnBy e slot place old by_record
  record_goes_on other same keeps told traces sets = record {
    watching = watching;
    tracing = λ past is. record {
      watching = watching past is.watching;
      lock = other_traced is_lock_call past old.last place e (asked b) slot (of past is.watching) old.lock
          is.watching.lock other old.lock_trace is.lock;
      «record» = own_traced is_record_call past old.last place e (asked b) slot (of past is.watching) old.record
          is.watching.record (ap not other) moved old.record_trace trace number (is_number past is) is.record
          (traces (own_events is_record_call past) is.record.keeps) told;
    };
    opens = record {
      here = ap (λ (o : Option OpenCall). option_or o (open_at moved.table.items (lane_of e)))
          (half_idle is_lock_call (open_after watched.past) (open_at old.lock.table.items)
          watched.watching.lock.opens (lane_of e) ((of watched.past watched.watching).was is_lock_call other)) ∙
          sets.here;
      others = λ v apart. ap (option_or (open_at old.lock.table.items v)) (sets.others v apart);
    };
    last = refl;
    limits = refl;
  }
    where
      watching : (past : List Event) → IsWatching past old → IsWatching (past ++ e ∷ []) by_record
      watching past is = record {
        form = form_on past is;
        lock_is = is.lock_is;
        record_is = same ∙ is.record_is;
        lock = other_stays is_lock_call past old.last place e (asked b) slot (of past is) old.lock is.lock other due;
        «record» = own_moves is_record_call past old.last place e (asked b) slot (of past is) old.record is.record
            (ap not other) moved (keeps (own_events is_record_call past) is.record.keeps) sets;
      }

-- what its halves say says the watch
module _ (past : List Event) (watch : Watch) (is : IsWatching past watch) where
  lock_explains : (events : List Event) →
      ExplainsIn watch.lock events ↔ AreExplainedFrom (LockStep watch.limits) [] events
  lock_explains events = (
    subst (λ (o : Object). AreExplainedFrom (judged o).step (judged o).start events) is.lock_is,
    subst (λ (o : Object). AreExplainedFrom (judged o).step (judged o).start events) (sym is.lock_is),
  )

  record_explains : (events : List Event) → ExplainsIn watch.record events ↔ AreExplainedFrom RecordStep (0 ∷ []) events
  record_explains events = (
    subst (λ (o : Object). AreExplainedFrom (judged o).step (judged o).start events) is.record_is,
    subst (λ (o : Object). AreExplainedFrom (judged o).step (judged o).start events) (sym is.record_is),
  )

  pub both_explain : ExplainsIn watch.lock (own_events is_lock_call past) →
      ExplainsIn watch.record (own_events is_record_call past) → AreExplained watch.limits past
  both_explain lock others = (explained_by_own is_lock_call (LockStep watch.limits) RecordStep [] (0 ∷ []) past
      is.form).1 (
        (lock_explains (own_events is_lock_call past)).0 lock,
        (record_explains (own_events is_record_call past)).0 others,
      )

  -- an explained future is in form, and each half explains its own events of it
  module _ (future : List Event) (told : ComesAsTold (open_of watch) watch.last future)
      (explained : AreExplained watch.limits (past ++ future)) where
    form_then : AreInForm (past ++ future)
    form_then = explained_in_form (Both watch.limits) start (past ++ future) explained

    each : AreExplainedFrom (LockStep watch.limits) [] (own_events is_lock_call (past ++ future)) ×
        AreExplainedFrom RecordStep (0 ∷ []) (own_events is_record_call (past ++ future))
    each = (explained_by_own is_lock_call (LockStep watch.limits) RecordStep [] (0 ∷ []) (past ++ future)
        form_then).0 explained

    not_by_lock : ¬ ExplainsNone (own_events is_lock_call past) watch.last watch.lock
    not_by_lock dead = dead.none (own_from is_lock_call (open_after past) future)
        (own_as_told is_lock_call (open_after past) (open_at watch.lock.table.items) is.lock.opens (open_of watch)
        watch.last future (form_of_rest none_open past future form_then)
        (first_among (open_after past) (open_at watch.lock.table.items) (open_at watch.record.table.items)
        is.lock.opens is.record.opens) told)
        ((lock_explains _).1 (subst (AreExplainedFrom (LockStep watch.limits) [])
        (own_of_both is_lock_call past future) each.0))

    not_by_record : ¬ ExplainsNone (own_events is_record_call past) watch.last watch.record
    not_by_record dead = dead.none (own_from is_record_call (open_after past) future)
        (own_as_told is_record_call (open_after past) (open_at watch.record.table.items) is.record.opens
        (open_of watch) watch.last future (form_of_rest none_open past future form_then)
        (second_among (open_after past) (open_at watch.lock.table.items) (open_at watch.record.table.items)
        is.lock.opens is.record.opens) told)
        ((record_explains _).1 (subst (AreExplainedFrom RecordStep (0 ∷ []))
        (own_of_both is_record_call past future) each.1))

  pub hopeless_by_lock : ExplainsNone (own_events is_lock_call past) watch.last watch.lock → IsHopeless past watch
  hopeless_by_lock dead = record { none = λ future told explained. not_by_lock future told explained dead }

  pub hopeless_by_record : ExplainsNone (own_events is_record_call past) watch.last watch.record → IsHopeless past watch
  hopeless_by_record dead = record { none = λ future told explained. not_by_record future told explained dead }

  -- the same watch keeps the same
  pub watching_copied : (copy : Watch) → IsCopy watch copy → IsWatching past copy
  watching_copied copy same = record {
    form = is.form;
    lock_is = same.lock.object ∙ is.lock_is ∙ ap Lock (sym same.limits);
    record_is = same.record.object ∙ is.record_is;
    lock = copied is_lock_call watch.lock copy.lock is.lock same.lock;
    «record» = copied is_record_call watch.record copy.record is.record same.record;
  }
    where
      copied : (mine : Call → Bool) (half new : Half) → KeepsOwn mine past watch.last half → IsSameHalf half new →
          KeepsOwn mine past copy.last new
      copied mine half new keeps alike = record {
        keeps = subst (λ (n : ℕ). KeepsRun (own_events mine past) n new) (sym same.last)
            (keeps_copied (own_events mine past) watch.last half keeps.keeps new alike);
        opens = subst (λ (t : List (Option OpenCall)). OpensOwn mine (open_after past) (open_at t)) (sym alike.table)
            keeps.opens;
      }

-- a table where a call is put in a lane, or taken out
pub sets_some : (past : List Event) (last : ℕ) (half : Half) → KeepsRun past last half →
    (new : List (Option OpenCall)) (lane : ℕ) (b : OpenCall) → lane < 64 →
    new ≡ slice_set half.table.items lane (Some b) → SetsOpen (open_at half.table.items) (open_at new) lane (Some b)
sets_some past last half keeps new lane b less put = record {
  here = ap (λ (t : List (Option OpenCall)). open_at t lane) put ∙
      open_at_set_here half.table.items lane (Some b) (let many = keeps.kept.lanes in omega (arith, many, less));
  others = λ v apart. ap (λ (t : List (Option OpenCall)). open_at t v) put ∙
      open_at_set_other half.table.items lane v (Some b) apart;
}

pub sets_none : (half : Half) (new : List (Option OpenCall)) (lane : ℕ) → new ≡ slice_set half.table.items lane None →
    SetsOpen (open_at half.table.items) (open_at new) lane None
sets_none half new lane put = record {
  here = ap (λ (t : List (Option OpenCall)). open_at t lane) put ∙ open_at_set_none half.table.items lane;
  others = λ v apart. ap (λ (t : List (Option OpenCall)). open_at t v) put ∙
      open_at_set_other half.table.items lane v None apart;
}
