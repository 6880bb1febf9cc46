-- What comes as was told, where all that comes is known.
use Rattle.std.proofs.Common.{ℕ, ◌≡◌, ◌≢◌, ◌⊎◌, ◌+◌, ◌<◌, ◌≤◌, true, false, List, [], ◌∷◌, ◌++◌}
use Rattle.std.proofs.Common.{Option, Some, None, refl, sym, ◌∙◌, ap, subst, inl, inr, arith, append_assoc}
use Rattle.std.specs.Prelude.{is_some, option_map}
use Rattle.std.specs.Option.{option_or}
use Rattle.std.proofs.lemmas.Bool.{cases_eq, false≢true}
use Rattle.std.proofs.lemmas.List.Elements.{All-nil}
use Rattle.std.proofs.lemmas.Option.{none-some, same_Some}
use Rattle.stamp_core.specs.Limits.{Bounds}
use Rattle.stamp_core.specs.declared.call.Call.{Call}
use Rattle.stamp_core.specs.declared.reply.Reply.{Reply}
use Rattle.stamp_explain.specs.declared.observed.Returned.{Returned}
use Rattle.stamp_runs.specs.declared.event.Event.{Event}
use Rattle.stamp_runs.specs.declared.event.Event.TheVariants as event
use Rattle.stamp_runs.specs.Run.{EndsBy, IsEndOf, ReturnsSooner}
use Rattle.stamp_runs.specs.Run.EndsBy.{ends_next}
use Rattle.stamp_runs.specs.Run.ReturnsSooner.{sooner_next, sooner_later}
use Rattle.stamp_runs.specs.BothRun.{AreExplained}
use Rattle.stamp_sets.specs.declared.ending.Ending.{Ending}
use Rattle.stamp_sets.specs.declared.ending.Ending.TheVariants.{Returns, Withdraws, Never}
use Rattle.stamp_sets.specs.declared.small_call.SmallReply.{SmallReply}
use Rattle.stamp_sets.specs.SmallCall.{call_of, reply_of}
use Rattle.stamp_sets.specs.declared.open_call.OpenCall.{OpenCall}
use Rattle.stamp_sets.specs.declared.progress.Progress.{Progress}
use Rattle.stamp_sets.specs.declared.progress.Progress.TheVariants.{Going, Dead, TooMany, Refused}
use Rattle.stamp_sets.specs.declared.watch.Watch.{Watch}
use Rattle.stamp_watch.specs.AsObserved.{ending_of}
use Rattle.stamp_watch.specs.AsObserved.Ending.{StaysOpen, EndsReturned, EndsWithdrawn}
use Rattle.stamp_sets.specs.Told.{EndsSo, ComesAsTold, open_at}
use Rattle.stamp_watch.specs.Foretold.{told_as}
use Rattle.stamp_watch.specs.Form.{is_busy_after}
use Rattle.stamp_watch.specs.Verdict.{AreOfLanes}
use Rattle.stamp_sets.specs.Watch.{IsCopy, IsWatching, IsUntold, MayComeAsTold, IsProgress, IsTaken, BeginsTold}
use Rattle.stamp_sets.specs.Watch.{ReturnsTold, SetsOpen, WithdrawsTold, open_of}
use Rattle.stamp_watch.specs.Judging.{IsFollowed, IsJudging}
use Rattle.stamp_watch.specs.inner.Judging.{IsEndTold, IsManyAtReturn, IsStep}
use Rattle.stamp_watch.proofs.Forming.{next_comes, next_of_lane}
use Rattle.stamp_sets.proofs.Telling.{ends_past}
use Rattle.stamp_watch.proofs.Numbered.{end_or_not, ended_by, ending_last, ending_spares, one_return, open_or_ended}
use Rattle.stamp_watch.proofs.Numbered.{return_ends, withdrawal_ends, withdrawn_or_ended}
use Rattle.stamp_watch.proofs.Ways.{at_end}
use Rattle.stamp_sets.proofs.Pairing.{watching_copied, watching_lanes}

withdrawn_or_open : EndsWithdrawn ≡ StaysOpen → ⊥
withdrawn_or_open same = cc

-- the end that an entry tells
record IsReturnAt (ends : Ending) (r : Returned) : Type 0 where
  pub told : SmallReply
  pub place : ℕ
  pub is : ends ≡ Returns told place
  pub same : reply_of told ≡ r.reply
  pub here : place ≡ r.last

returns_at : (ends : Ending) (r : Returned) → told_as ends ≡ EndsReturned r → IsReturnAt ends r
returns_at (Returns told place) r is = record {
  told = told;
  place = place;
  is = refl;
  same = ap (λ (q : Returned). q.reply) (one_return is);
  here = ap (λ (q : Returned). q.last) (one_return is);
}
returns_at Withdraws r is = absurd (withdrawn_or_ended is)
returns_at Never r is = absurd (open_or_ended is)

withdraws_so : (ends : Ending) → told_as ends ≡ EndsWithdrawn → ends ≡ Withdraws
withdraws_so (Returns told place) is = absurd (withdrawn_or_ended (sym is))
withdraws_so Withdraws is = refl
withdraws_so Never is = absurd (withdrawn_or_open (sym is))

ends_at : (lane n : ℕ) (event : Event) (events : List Event) (ends : Ending) → IsEndOf lane event →
    told_as ends ≡ ending_of lane n (event ∷ events) → EndsSo lane ends (event ∷ events)
ends_at lane n (event.Begins other call) events ends none is = absurd none
ends_at lane n (event.Returns other reply) events ends same is = by (returns_at ends
    (record { last = n; reply = reply }) (is ∙ return_ends lane other n reply events same))
  where
    by : IsReturnAt ends (record { last = n; reply = reply }) →
        EndsSo lane ends (event.Returns other reply ∷ events)
    by at = subst (λ (e : Ending). EndsSo lane e (event.Returns other reply ∷ events)) (sym at.is)
        (subst (λ (e : Event). EndsBy lane (event.Returns lane (reply_of at.told)) (e ∷ events))
        (ap (event.Returns lane) at.same ∙ ap (λ (v : ℕ). event.Returns v reply) (sym same)) ends_next)
ends_at lane n (event.Withdraws other) events ends same is =
    subst (λ (e : Ending). EndsSo lane e (event.Withdraws other ∷ events))
    (sym (withdraws_so ends (is ∙ withdrawal_ends lane other n events same)))
    (subst (λ (e : Event). EndsBy lane (event.Withdraws lane) (e ∷ events)) (ap event.Withdraws (sym same)) ends_next)

-- a call ends as its entry tells
pub ends_so : (lane n : ℕ) (events : List Event) (ends : Ending) → told_as ends ≡ ending_of lane n events →
    EndsSo lane ends events
ends_so lane n [] (Returns told place) is = absurd (open_or_ended (sym is))
ends_so lane n [] Withdraws is = absurd (withdrawn_or_open is)
ends_so lane n [] Never is = All-nil (λ (e : Event). ¬ IsEndOf lane e)
ends_so lane n (event ∷ events) ends is =
    by (λ later. ends_so lane (n + 1) events ends later) (end_or_not lane event)
  where
    by : (told_as ends ≡ ending_of lane (n + 1) events → EndsSo lane ends events) →
        IsEndOf lane event ⊎ (¬ IsEndOf lane event) → EndsSo lane ends (event ∷ events)
    by later (inl end) = ends_at lane n event events ends end is
    by later (inr not) = ends_past lane ends event events not
        (later (is ∙ ending_spares lane n event events not))

-- calls return in the order of their places
sooner_so : (lane than n : ℕ) (events : List Event) (a b : Returned) → ending_of lane n events ≡ EndsReturned a →
    ending_of than n events ≡ EndsReturned b → a.last < b.last → ReturnsSooner lane than events
sooner_so lane than n [] a b is also less = absurd (open_or_ended is)
sooner_so lane than n (x ∷ events) a b is also less =
    by (λ is also. sooner_so lane than (n + 1) events a b is also less)
    (ended_by lane n x events a is) (ended_by than n x events b also)
  where
    by : (ending_of lane (n + 1) events ≡ EndsReturned a → ending_of than (n + 1) events ≡ EndsReturned b →
        ReturnsSooner lane than events) →
        ((x ≡ event.Returns lane a.reply) × (a.last ≡ n)) ⊎
        ((¬ IsEndOf lane x) × (ending_of lane (n + 1) events ≡ EndsReturned a)) →
        ((x ≡ event.Returns than b.reply) × (b.last ≡ n)) ⊎
        ((¬ IsEndOf than x) × (ending_of than (n + 1) events ≡ EndsReturned b)) →
        ReturnsSooner lane than (x ∷ events)
    by later (inl here) _ = subst (λ (e : Event). ReturnsSooner lane than (e ∷ events)) (sym here.0)
        (sooner_next a.reply)
    by later (inr past) (inl here) =
        absurd (omega (arith, ending_last lane (n + 1) events a past.1, here.1, less))
    by later (inr past) (inr beyond) = sooner_later x past.0 beyond.0 (later past.1 beyond.1)

told_return : (ends : Ending) (told : SmallReply) (place lane n : ℕ) (events : List Event) →
    ends ≡ Returns told place → told_as ends ≡ ending_of lane n events →
    ending_of lane n events ≡ EndsReturned (record { last = place; reply = reply_of told })
told_return ends told place lane n events returns is = sym is ∙ ap told_as returns

-- what comes is as it was told
pub comes : (n : ℕ) (past future : List Event) (watch : Watch) → IsFollowed n past future watch →
    ComesAsTold (open_of watch) watch.last future
comes n past future watch f = record {
  ends = λ lane begun is. ends_so lane n future begun.ends (f.told lane begun is);
  sooner = λ lane than first other is also before. sooner_so lane than n future
      (record { last = before.place; reply = reply_of before.reply })
      (record { last = before.later; reply = reply_of before.answer })
      (told_return first.ends before.reply before.place lane n future before.first_is (f.told lane first is))
      (told_return other.ends before.answer before.later than n future before.other_is (f.told than other also))
      before.sooner;
  due = λ lane begun told place is ends.
      let low : n ≤ place = ending_last lane n future (record { last = place; reply = reply_of told })
      (told_return begun.ends told place lane n future ends (f.told lane begun is)) in
      let last : watch.last ≤ n = f.last in omega (arith, low, last);
}

-- an open call, where there is one
record IsOpen (slot : Option OpenCall) : Type 0 where
  pub begun : OpenCall
  pub is : slot ≡ Some begun

some_open : (slot : Option OpenCall) → is_some slot ≡ true → IsOpen slot
some_open None is = absurd (false≢true is)
some_open (Some begun) is = record { begun = begun; is = refl }

none_open : (slot : Option OpenCall) → is_some slot ≡ false → slot ≡ None
none_open None is = refl
none_open (Some begun) is = absurd (false≢true (sym is))

-- a watch has a call open in the lanes where the run has
same_some : (slot : Option OpenCall) → is_some slot ≡ is_some (option_map (λ (b : OpenCall). call_of b.asks) slot)
same_some None = refl
same_some (Some begun) = refl

pub agrees : (past : List Event) (watch : Watch) → IsWatching past watch → (lane : ℕ) →
    is_some (open_of watch lane) ≡ is_busy_after past lane
agrees past watch is lane = same_some (open_of watch lane) ∙ ap is_some (watching_lanes past watch is lane)

-- the next event may come
pub may_come : (n : ℕ) (past : List Event) (e : Event) (ahead : List Event) (old : Watch) → IsWatching past old →
    IsFollowed n past (e ∷ ahead) old → MayComeAsTold old e
may_come n past (event.Begins lane call) ahead old is f = (
  (next_of_lane past (event.Begins lane call) ahead f.whole).0,
  none_open (open_of old lane)
      (agrees past old is lane ∙ ap is_some (next_comes past (event.Begins lane call) ahead f.whole)),
)
may_come n past (event.Returns lane reply) ahead old is f = by (some_open (open_of old lane)
    (agrees past old is lane ∙ next_comes past (event.Returns lane reply) ahead f.whole))
  where
    told : (o : OpenCall) → open_of old lane ≡ Some o →
        IsReturnAt o.ends (record { last = n; reply = reply })
    told o opened = returns_at o.ends (record { last = n; reply = reply })
        (f.told lane o opened ∙ return_ends lane lane n reply ahead refl)

    by : IsOpen (open_of old lane) → MayComeAsTold old (event.Returns lane reply)
    by one = record {
      begun = one.begun;
      told = (told one.begun one.is).told;
      place = (told one.begun one.is).place;
      is_open = one.is;
      ends = (told one.begun one.is).is;
      same = (told one.begun one.is).same;
      due = let at : (told one.begun one.is).place ≡ n = (told one.begun one.is).here in
          let last : old.last ≤ n = f.last in omega (arith, at, last);
    }
may_come n past (event.Withdraws lane) ahead old is f = by (some_open (open_of old lane)
    (agrees past old is lane ∙ next_comes past (event.Withdraws lane) ahead f.whole))
  where
    by : IsOpen (open_of old lane) → MayComeAsTold old (event.Withdraws lane)
    by one = record {
      begun = one.begun;
      is_open = one.is;
      ends = withdraws_so one.begun.ends
          (f.told lane one.begun one.is ∙ withdrawal_ends lane lane n ahead refl);
    }

-- one lane is put, and the others are as they were
module _ (old new : ℕ → Option OpenCall) (lane : ℕ) (slot : Option OpenCall) (put : SetsOpen old new lane slot) where
  put_here : (u : ℕ) → u ≡ lane → new u ≡ slot
  put_here u same = ap new same ∙ put.here

-- the run once one event more is past
whole_on : (past : List Event) (e : Event) (ahead : List Event) → AreOfLanes (past ++ e ∷ ahead) →
    AreOfLanes (past ++ e ∷ [] ++ ahead)
whole_on past e ahead whole = subst AreOfLanes (sym (append_assoc past (e ∷ []) ahead)) whole

pub followed_begins : (n : ℕ) (past ahead : List Event) (lane : ℕ) (call : Call) (ends : Ending) (old new : Watch) →
    told_as ends ≡ ending_of lane (n + 1) ahead → BeginsTold old new lane call ends →
    IsFollowed n past (event.Begins lane call ∷ ahead) old →
    IsFollowed (n + 1) (past ++ event.Begins lane call ∷ []) ahead new
followed_begins n past ahead lane call ends old new is told f = record {
  whole = whole_on past (event.Begins lane call) ahead f.whole;
  told = λ u o opened. ends_there u o opened (cases_eq u lane);
  last = let same : new.last ≡ old.last = told.last in let last : old.last ≤ n = f.last in omega (arith, same, last);
}
  where
    ends_there : (u : ℕ) (o : OpenCall) → open_of new u ≡ Some o → (u ≡ lane) ⊎ (u ≢ lane) →
        told_as o.ends ≡ ending_of u (n + 1) ahead
    ends_there u o opened (inl same) =
        ap (λ (x : OpenCall). told_as x.ends) (same_Some o told.begun (sym opened ∙
        put_here (open_of old) (open_of new) lane (Some told.begun) told.opens u same)) ∙
        ap told_as told.told ∙ is ∙ ap (λ (v : ℕ). ending_of v (n + 1) ahead) (sym same)
    ends_there u o opened (inr apart) = f.told u o (sym (told.opens.others u apart) ∙ opened)

-- a call ends
module _ (n : ℕ) (past ahead : List Event) (lane : ℕ) (e : Event) (old new : Watch)
    (opens : SetsOpen (open_of old) (open_of new) lane None)
    (spares : (u : ℕ) → u ≢ lane → ending_of u n (e ∷ ahead) ≡ ending_of u (n + 1) ahead)
    (f : IsFollowed n past (e ∷ ahead) old) where
  told_ended : (u : ℕ) (o : OpenCall) → open_of new u ≡ Some o → (u ≡ lane) ⊎ (u ≢ lane) →
      told_as o.ends ≡ ending_of u (n + 1) ahead
  told_ended u o opened (inl same) =
      absurd (none-some o (sym (put_here (open_of old) (open_of new) lane None opens u same) ∙ opened))
  told_ended u o opened (inr apart) = f.told u o (sym (opens.others u apart) ∙ opened) ∙ spares u apart

  followed_ended : new.last ≤ n + 1 → IsFollowed (n + 1) (past ++ e ∷ []) ahead new
  followed_ended low = record {
    whole = whole_on past e ahead f.whole;
    told = λ u o opened. told_ended u o opened (cases_eq u lane);
    last = low;
  }

pub followed_returns : (n : ℕ) (past ahead : List Event) (lane : ℕ) (reply : Reply) (old new : Watch) →
    ReturnsTold old new lane reply → IsFollowed n past (event.Returns lane reply ∷ ahead) old →
    IsFollowed (n + 1) (past ++ event.Returns lane reply ∷ []) ahead new
followed_returns n past ahead lane reply old new told f =
    followed_ended n past ahead lane (event.Returns lane reply) old new told.opens
    (λ u apart. ending_spares u n (event.Returns lane reply) ahead (λ e. apart (sym e))) f
    (let same : new.last ≡ told.was.place = told.last in omega (arith, same, at))
  where
    at : told.was.place ≡ n
    at = ap (λ (q : Returned). q.last) (one_return
        (sym (told_return told.was.begun.ends told.was.told told.was.place lane
        n (event.Returns lane reply ∷ ahead) told.was.ends (f.told lane told.was.begun told.was.is_open)) ∙
        return_ends lane lane n reply ahead refl))

pub followed_withdraws : (n : ℕ) (past ahead : List Event) (lane : ℕ) (old new : Watch) →
    WithdrawsTold old new lane → IsFollowed n past (event.Withdraws lane ∷ ahead) old →
    IsFollowed (n + 1) (past ++ event.Withdraws lane ∷ []) ahead new
followed_withdraws n past ahead lane old new told f =
    followed_ended n past ahead lane (event.Withdraws lane) old new told.opens
    (λ u apart. ending_spares u n (event.Withdraws lane) ahead (λ e. apart (sym e))) f
    (let same : new.last ≡ old.last = told.last in let last : old.last ≤ n = f.last in omega (arith, same, last))

-- one event on
pub stepped : (limits : Bounds) (n : ℕ) (past : List Event) (e : Event) (ahead : List Event) (most : ℕ)
    (old new : Watch) (progress : Progress) → IsProgress past e most old new progress →
    (IsTaken progress → new.limits ≡ old.limits) → (IsTaken progress → IsFollowed (n + 1) (past ++ e ∷ []) ahead new) →
    IsJudging limits n past (e ∷ ahead) old → IsStep limits n past e ahead most new progress
stepped limits n past e ahead most old new Going is same follows judging = record {
  limits_are = same tt ∙ judging.limits_are;
  watching = is.0;
  explained = subst (λ (l : Bounds). AreExplained l (past ++ e ∷ [])) (same tt ∙ judging.limits_are) is.1;
  followed = follows tt;
}
stepped limits n past e ahead most old new Dead is same follows judging =
    λ explained. is.1.none ahead (comes (n + 1) (past ++ e ∷ []) ahead new (follows tt))
    (subst (λ (l : Bounds). AreExplained l (past ++ e ∷ [] ++ ahead)) (sym (same tt ∙ judging.limits_are))
    (subst (AreExplained limits) (sym (append_assoc past (e ∷ []) ahead)) explained))
stepped limits n past e ahead most old new TooMany is same follows judging = record {
  watch = old;
  limits_are = judging.limits_are;
  watching = judging.watching;
  told = judging.followed.told;
  more = is.0;
}
stepped limits n past e ahead most old new Refused is same follows judging =
    is.0 (may_come n past e ahead old judging.watching judging.followed)

-- before any event
pub judging_first : (limits : Bounds) (events : List Event) (watch : Watch) → IsWatching [] watch →
    IsUntold watch limits → AreOfLanes events → IsJudging limits 0 [] events watch
judging_first limits events watch watching untold whole = record {
  limits_are = untold.limits_are;
  watching = watching;
  explained = at_end;
  followed = record {
    whole = whole;
    told = λ lane o is. absurd (none-some o (sym (untold.idle lane) ∙ is));
    last = let none : watch.last ≡ 0 = untold.last in omega (arith, none);
  };
}

pub step_begins : (limits : Bounds) (n : ℕ) (past : List Event) (e : Event) (ahead : List Event) (most lane : ℕ)
    (call : Call) (ends : Ending) (old new : Watch) (progress : Progress) → e ≡ event.Begins lane call →
    IsEndTold e (n + 1) ahead ends → IsProgress past (event.Begins lane call) most old new progress →
    (IsTaken progress → BeginsTold old new lane call ends) → IsJudging limits n past (e ∷ ahead) old →
    IsStep limits n past e ahead most new progress
step_begins limits n past e ahead most lane call ends old new progress same is answer told judging =
    subst (λ (x : Event). IsStep limits n past x ahead most new progress) (sym same)
    (by (subst (λ (x : Event). IsEndTold x (n + 1) ahead ends) same is)
    (subst (λ (x : Event). IsJudging limits n past (x ∷ ahead) old) same judging))
  where
    by : told_as ends ≡ ending_of lane (n + 1) ahead → IsJudging limits n past (event.Begins lane call ∷ ahead) old →
        IsStep limits n past (event.Begins lane call) ahead most new progress
    by ends_so on = stepped limits n past (event.Begins lane call) ahead most old new progress answer
        (λ taken. (told taken).limits)
        (λ taken. followed_begins n past ahead lane call ends old new ends_so (told taken) on.followed)
        on

pub step_returns : (limits : Bounds) (n : ℕ) (past : List Event) (e : Event) (ahead : List Event) (most lane : ℕ)
    (reply : Reply) (old new : Watch) (progress : Progress) → e ≡ event.Returns lane reply →
    IsProgress past (event.Returns lane reply) most old new progress →
    (IsTaken progress → ReturnsTold old new lane reply) → IsJudging limits n past (e ∷ ahead) old →
    IsStep limits n past e ahead most new progress
step_returns limits n past e ahead most lane reply old new progress same answer told judging =
    subst (λ (x : Event). IsStep limits n past x ahead most new progress) (sym same)
    (by (subst (λ (x : Event). IsJudging limits n past (x ∷ ahead) old) same judging))
  where
    by : IsJudging limits n past (event.Returns lane reply ∷ ahead) old →
        IsStep limits n past (event.Returns lane reply) ahead most new progress
    by on = stepped limits n past (event.Returns lane reply) ahead most old new progress answer
        (λ taken. (told taken).limits)
        (λ taken. followed_returns n past ahead lane reply old new (told taken) on.followed) on

pub step_withdraws : (limits : Bounds) (n : ℕ) (past : List Event) (e : Event) (ahead : List Event) (most lane : ℕ)
    (old new : Watch) (progress : Progress) → e ≡ event.Withdraws lane →
    IsProgress past (event.Withdraws lane) most old new progress →
    (IsTaken progress → WithdrawsTold old new lane) → IsJudging limits n past (e ∷ ahead) old →
    IsStep limits n past e ahead most new progress
step_withdraws limits n past e ahead most lane old new progress same answer told judging =
    subst (λ (x : Event). IsStep limits n past x ahead most new progress) (sym same)
    (by (subst (λ (x : Event). IsJudging limits n past (x ∷ ahead) old) same judging))
  where
    by : IsJudging limits n past (event.Withdraws lane ∷ ahead) old →
        IsStep limits n past (event.Withdraws lane) ahead most new progress
    by on = stepped limits n past (event.Withdraws lane) ahead most old new progress answer
        (λ taken. (told taken).limits)
        (λ taken. followed_withdraws n past ahead lane old new (told taken) on.followed) on

-- what is never too many is so at returns alone
pub never_many : (e : Event) (progress : Progress) → progress ≢ TooMany → IsManyAtReturn e progress
never_many e TooMany never = absurd (never refl)
never_many e _ never = tt

-- a copy judges as well
open_of_copied : (watch copy : Watch) → IsCopy watch copy → (lane : ℕ) → open_of copy lane ≡ open_of watch lane
open_of_copied watch copy same lane =
    ap (λ (t : List (Option OpenCall)). option_or (open_at t lane) (open_at copy.record.table.items lane))
    same.lock.table ∙ ap (λ (t : List (Option OpenCall)). option_or (open_at watch.lock.table.items lane)
    (open_at t lane)) same.record.table

pub judging_copied : (limits : Bounds) (n : ℕ) (past future : List Event) (watch copy : Watch) → IsCopy watch copy →
    IsJudging limits n past future watch → IsJudging limits n past future copy
judging_copied limits n past future watch copy same judging = record {
  limits_are = same.limits ∙ judging.limits_are;
  watching = watching_copied past watch judging.watching copy same;
  explained = judging.explained;
  followed = record {
    whole = judging.followed.whole;
    told = λ lane begun is. judging.followed.told lane begun (sym (open_of_copied watch copy same lane) ∙ is);
    last = subst (λ (m : ℕ). m ≤ n) (sym same.last) judging.followed.last;
  };
}
