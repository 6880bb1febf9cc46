-- A judge that takes the bytes of a header or an event more.
use Rattle.std.proofs.Common.{ℕ, ◌≡◌, ◌≢◌, ◌+◌, ◌^◌, ◌<◌, true, false, List, [], ◌++◌, length, Option}
use Rattle.std.proofs.Common.{◌∷◌, inl, inr, Some, None, refl, sym, ◌∙◌, ap, subst, append-nil, append_assoc}
use Rattle.std.proofs.Common.{lit<}
use Rattle.std.specs.Prelude.{◌⊎◌, MatchOption, Vec, is_some, ⊤}
use Rattle.std.specs.declared.alloc.Global.{Global}
use Rattle.std.proofs.lemmas.Bool.{false≢true}
use Rattle.stamp_core.specs.Limits.{Bounds}
use Rattle.stamp_runs.specs.declared.event.Event.{Event}
use Rattle.stamp_runs.specs.declared.event.Event.TheVariants.{Begins, Returns, Withdraws}
use Rattle.stamp_watch.specs.declared.late.LateJudge.{LateJudge}
use Rattle.stamp_watch.specs.LateJudge.{HasFoundNothingLater, IsLateJudge, IsLateJudgeOfSome}
use Rattle.stamp_watch.specs.Names.{IsEventBy}
use Rattle.stamped_watch.specs.declared.event_bytes.BadEvent.{BadEvent}
use Rattle.stamped_watch.specs.declared.finding.Finding.{Finding}
use Rattle.stamped_watch.specs.declared.finding.Finding.TheVariants as found
use Rattle.stamped_watch.specs.declared.finding.Finding.TheVariants.{Stuck}
use Rattle.stamped_watch.specs.declared.header.BadHeader.{BadHeader}
use Rattle.stamped_watch.specs.declared.header.Header.{Header}
use Rattle.stamped_watch.specs.declared.run_judge.RunJudge.{RunJudge}
use Rattle.stamped_watch.specs.declared.stream_judge.StreamJudge.{StreamJudge}
use Rattle.stamped_watch.specs.EventBytes.{HasBytes, IsNoEvent}
use Rattle.stamped_watch.specs.Finding.{IsFoundOf}
use Rattle.stamped_watch.specs.Header.{IsHeader, IsNoHeader}
use Rattle.stamped_watch.specs.Possible.{KeepsOf}
use Rattle.stamped_watch.specs.Stream.{IsRunBy}
use Rattle.stamped_watch.specs.StreamJudge.{EndsInStream, HasTaken, IsFed, IsFresh, IsPart, IsUnderWay, KeepsCall}
use Rattle.stamped_watch.specs.StreamJudge.{KeepsCallOf, KeepsFed}
use Rattle.stamped_watch.specs.inner.StreamJudge.{AreCounted, HasTakenFront, HasTakenOne}
use Rattle.stamped_watch.specs.StreamJudge.{EndsInRunOf, IsFoundUnless}
use Rattle.stamped_watch.specs.StreamJudge.{IsGivenOne, IsNewRunJudge, IsSameButNames, KeepsRun}
use Rattle.stamped_watch.specs.StreamJudge.{KeepsSoFar, KeepsStill}
use Rattle.stamped_watch.proofs.Counting.{count_room, under_way_first, under_way_then}
use Rattle.stamped_watch.proofs.Ended.{more_there, stream_there}
use Rattle.stamped_watch.proofs.Ending.{no_event}
use Rattle.stamped_watch.proofs.Found.{found_with}
use Rattle.stamped_watch.proofs.Streaming.{run_behind, run_grown, run_longer, run_more, state_of}

pub none_of : (o : Option Finding) → is_some o ≡ false → o ≡ None
none_of (Some f) is = absurd (false≢true (sym is))
none_of None is = refl

-- the call is kept by the judge of the run
pub call_of_some : (inner : RunJudge) (f : Finding) → KeepsCallOf inner.judge f → KeepsCall (Some inner) f
call_of_some inner (found.Stuck k) keeps = keeps
call_of_some inner (found.Explained calls) keeps = tt
call_of_some inner (found.StuckWithin k m) keeps = tt
call_of_some inner (found.Undecided k why) keeps = tt
call_of_some inner (found.Late k) keeps = tt
call_of_some inner (found.Misplaced k why) keeps = tt
call_of_some inner (found.BadEvent k why) keeps = tt
call_of_some inner (found.Cut k) keeps = tt
call_of_some inner (found.BadHeader why) keeps = tt
call_of_some inner found.NoHeader keeps = tt
call_of_some inner found.Full keeps = tt

-- what the judge of the run keeps where nothing was found
keeps_under_way : (most ahead : ℕ) (taken : List ℕ) (begun withdrawn : ℕ) (inner : RunJudge) →
    IsUnderWay most ahead taken begun withdrawn inner → KeepsOf most ahead taken inner
keeps_under_way most ahead taken begun withdrawn inner way = record {
  header = way.header;
  run = way.run;
  rest = [];
  stream = way.stream;
  width_is = way.width_is;
  keeps = way.judge_of.keeps;
  most_is = way.judge_of.small.judge_of.most_is;
  window = way.judge_of.window;
}

-- it keeps that, too, of more bytes
pub keeps_more : (most ahead : ℕ) (bytes more : List ℕ) (inner : RunJudge) → KeepsOf most ahead bytes inner →
    KeepsOf most ahead (bytes ++ more) inner
keeps_more most ahead bytes more inner keeps = record {
  header = keeps.header;
  run = keeps.run;
  rest = keeps.rest ++ more;
  stream = run_longer inner.names bytes keeps.header keeps.run more keeps.rest keeps.stream;
  width_is = keeps.width_is;
  keeps = keeps.keeps;
  most_is = keeps.most_is;
  window = keeps.window;
}

-- nothing was found, and the judge goes on
on_with : (most ahead : ℕ) (taken : List ℕ) (judge : StreamJudge) (inner : RunJudge) → judge.most ≡ most →
    judge.ahead ≡ ahead → judge.found ≡ None → judge.judge ≡ Some inner →
    IsUnderWay most ahead taken judge.begun judge.withdrawn inner → HasTaken most ahead taken judge
on_with most ahead taken judge inner same far none some way = record {
  most_is = same;
  ahead_is = far;
  kept = subst (λ (o : Option RunJudge). MatchOption o ⊤ (λ i. KeepsOf most ahead taken i)) (sym some)
      (keeps_under_way most ahead taken judge.begun judge.withdrawn inner way);
  tells = subst (λ (o : Option Finding). MatchOption o ⊤ (KeepsCall judge.judge)) (sym none) tt;
  there = subst (λ (o : Option Finding). MatchOption o ⊤ (EndsInStream taken judge.judge)) (sym none) tt;
  state = subst (λ (o : Option Finding). MatchOption o (MatchOption judge.judge
      (IsFresh taken judge.begun judge.withdrawn)
      (λ i. IsUnderWay most ahead taken judge.begun judge.withdrawn i))
      (λ finding. IsFoundOf most ahead taken finding)) (sym none)
      (subst (λ (o : Option RunJudge). MatchOption o (IsFresh taken judge.begun judge.withdrawn)
      (λ i. IsUnderWay most ahead taken judge.begun judge.withdrawn i)) (sym some) way);
}

module _ (most ahead : ℕ) (taken : List ℕ) (old : StreamJudge) (has : HasTaken most ahead taken old)
    (none : old.found ≡ None) where
  module _ (no_judge : old.judge ≡ None) where
    fresh : IsFresh taken old.begun old.withdrawn
    fresh = subst (λ (o : Option RunJudge). MatchOption o (IsFresh taken old.begun old.withdrawn)
        (λ inner. IsUnderWay most ahead taken old.begun old.withdrawn inner)) no_judge
        (state_of most ahead taken old has none)

    -- the bytes of a header
    pub header_taken : (bytes : List ℕ) (header : Header) (inner : RunJudge) → IsHeader header bytes →
        IsNewRunJudge header old.most old.ahead inner →
        HasTaken most ahead (taken ++ bytes) (record old { judge = Some inner })
    header_taken bytes header inner is new = on_with most ahead (taken ++ bytes)
        (record old { judge = Some inner }) inner has.most_is has.ahead_is none refl
        (under_way_first most ahead taken bytes old.begun old.withdrawn inner header fresh is
        (subst (λ (n : ℕ). IsNewRunJudge header n ahead inner) has.most_is
        (subst (λ (n : ℕ). IsNewRunJudge header old.most n inner) has.ahead_is new)))

    -- the bytes of none
    pub no_header_taken : (bytes : List ℕ) (why : BadHeader) → ((more : List ℕ) → IsNoHeader why (bytes ++ more)) →
        HasTaken most ahead (taken ++ bytes) (record old { found = Some (found.BadHeader why) })
    no_header_taken bytes why wrong = record {
      most_is = has.most_is;
      ahead_is = has.ahead_is;
      kept = subst (λ (o : Option RunJudge). MatchOption o ⊤ (λ i. KeepsOf most ahead (taken ++ bytes) i))
          (sym no_judge) tt;
      tells = tt;
      there = subst (λ (o : Option RunJudge). EndsInStream (taken ++ bytes) o (found.BadHeader why)) (sym no_judge) tt;
      state = subst (λ (xs : List ℕ). IsFoundOf most ahead (xs ++ bytes) (found.BadHeader why)) (sym fresh.nothing)
          wrong;
    }

  module _ (inner : RunJudge) (some : old.judge ≡ Some inner) where
    pub way_on : IsUnderWay most ahead taken old.begun old.withdrawn inner
    way_on = subst (λ (o : Option RunJudge). MatchOption o (IsFresh taken old.begun old.withdrawn)
        (λ i. IsUnderWay most ahead taken old.begun old.withdrawn i)) some (state_of most ahead taken old has none)

    pub way_of_some : IsLateJudgeOfSome inner.judge
    way_of_some = record {
      limits = way_on.header.limits;
      most = most;
      ahead = ahead;
      run = way_on.run;
      judge_of = way_on.judge_of;
    }

    -- one call more can be counted where nothing was found with an event
    pub room_given : (small : Event) (next : LateJudge) (o : Option Finding) →
        ((limits : Bounds) (m a : ℕ) (run : List Event) → IsLateJudge limits m a run inner.judge →
        IsGivenOne limits m a run small next o) → is_some o ≡ false →
        (old.begun + 1 < 2 ^ 64) × (old.withdrawn + 1 < 2 ^ 64)
    room_given small next o given is =
        count_room most ahead taken old.begun old.withdrawn inner next small way_on
        (subst (λ (p : Option Finding). IsGivenOne way_on.header.limits most ahead way_on.run small next p)
        (none_of o is) (given way_on.header.limits most ahead way_on.run way_on.judge_of))

    -- it goes on with more contents
    pub names_taken : (next : RunJudge) → IsSameButNames inner next →
        HasTaken most ahead taken (record old { judge = Some next })
    names_taken next same = on_with most ahead taken (record old { judge = Some next }) next has.most_is has.ahead_is
        none refl (record {
          header = way_on.header;
          run = way_on.run;
          stream = run_grown inner.names next.names taken way_on.header way_on.run [] same.grows same.wide
              way_on.stream;
          width_is = same.width_is ∙ way_on.width_is;
          judge_of = subst (IsLateJudge way_on.header.limits most ahead way_on.run) (sym same.judge_is)
              way_on.judge_of;
          none = subst HasFoundNothingLater (sym same.judge_is) way_on.none;
          begun_is = way_on.begun_is;
          withdrawn_is = way_on.withdrawn_is;
        })

    -- the bytes of an event, which was given to the judge of the run
    module _ (e small : Event) (bytes : List ℕ) (next : LateJudge) (o : Option Finding)
        (has_bytes : HasBytes inner.width e bytes) (by : IsEventBy inner.names e small)
        (given : (limits : Bounds) (m a : ℕ) (run : List Event) → IsLateJudge limits m a run inner.judge →
        IsGivenOne limits m a run small next o) (keeps : KeepsSoFar small inner.judge next) where
      bytes_here : HasBytes way_on.header.width e bytes
      bytes_here = subst (λ (w : Option ℕ). HasBytes w e bytes) way_on.width_is has_bytes

      stream_then : IsRunBy inner.names (taken ++ bytes) way_on.header (way_on.run ++ small ∷ []) []
      stream_then = run_more inner.names taken way_on.header way_on.run e small bytes way_on.stream bytes_here by

      given_one : IsGivenOne way_on.header.limits most ahead way_on.run small next o
      given_one = given way_on.header.limits most ahead way_on.run way_on.judge_of

      keeps_of : KeepsRun way_on.header.limits way_on.run inner.judge next ⊎
          KeepsRun way_on.header.limits (way_on.run ++ small ∷ []) inner.judge next →
          KeepsOf most ahead (taken ++ bytes) (record inner { judge = next })
      keeps_of (inl before) = record {
        header = way_on.header;
        run = way_on.run;
        rest = bytes;
        stream = run_behind inner.names taken way_on.header way_on.run bytes way_on.stream;
        width_is = way_on.width_is;
        keeps = before.keeps;
        most_is = before.most_is ∙ way_on.judge_of.small.judge_of.most_is;
        window = before.window ∙ way_on.judge_of.window;
      }
      keeps_of (inr then_keeps) = record {
        header = way_on.header;
        run = way_on.run ++ small ∷ [];
        rest = [];
        stream = stream_then;
        width_is = way_on.width_is;
        keeps = then_keeps.keeps;
        most_is = then_keeps.most_is ∙ way_on.judge_of.small.judge_of.most_is;
        window = then_keeps.window ∙ way_on.judge_of.window;
      }

      -- something was found with it
      pub found_taken : is_some o ≡ true → MatchOption o ⊤ (KeepsCallOf next) →
          ((limits : Bounds) (m a : ℕ) (run : List Event) → IsLateJudge limits m a run inner.judge →
          MatchOption o ⊤ (EndsInRunOf (run ++ small ∷ []) next)) →
          HasTaken most ahead (taken ++ bytes) (record old { judge = Some (record inner { judge = next }); found = o })
      found_taken is tells there = by_case o is given_one tells
          (there way_on.header.limits most ahead way_on.run way_on.judge_of)
        where
          by_case : (p : Option Finding) → (is_some p ≡ true) →
              IsGivenOne way_on.header.limits most ahead way_on.run small next p →
              MatchOption p ⊤ (KeepsCallOf next) →
              MatchOption p ⊤ (EndsInRunOf (way_on.run ++ small ∷ []) next) →
              HasTaken most ahead (taken ++ bytes)
              (record old { judge = Some (record inner { judge = next }); found = p })
          by_case (Some f) is_one one tells_it there_it = record {
            most_is = has.most_is;
            ahead_is = has.ahead_is;
            kept = keeps_of (keeps way_on.header.limits most ahead way_on.run way_on.judge_of);
            tells = call_of_some (record inner { judge = next }) f tells_it;
            there = stream_there (taken ++ bytes) way_on.header (way_on.run ++ small ∷ []) []
                (record inner { judge = next }) stream_then way_on.width_is f there_it;
            state = found_with most ahead inner.names way_on.header taken way_on.run e small bytes way_on.stream
                bytes_here by f one;
          }
          by_case None is_one one tells_it there_it = absurd (false≢true is_one)

      -- or nothing
      module _ (is : is_some o ≡ false) where
        nothing : o ≡ None
        nothing = none_of o is

        going : IsGivenOne way_on.header.limits most ahead way_on.run small next None
        going = subst (λ (p : Option Finding). IsGivenOne way_on.header.limits most ahead way_on.run small next p)
            nothing given_one

        abbrev mid : StreamJudge
        mid = record old { judge = Some (record inner { judge = next }); found = o }

        module _ (new : StreamJudge) where
          others_of : (x : Event) → AreCounted x mid new → (new.most ≡ old.most) × (new.ahead ≡ old.ahead) ×
              (new.part ≡ old.part) × (new.judge ≡ Some (record inner { judge = next })) × (new.found ≡ o)
          others_of (Begins lane call) counts = counts.others
          others_of (Returns lane reply) counts = counts.others
          others_of (Withdraws lane) counts = counts.others

          pub counted_taken : AreCounted small mid new → HasTaken most ahead (taken ++ bytes) new
          counted_taken counted =
              let others = others_of small counted in
              on_with most ahead (taken ++ bytes) new (record inner { judge = next }) (others.0 ∙ has.most_is)
              (others.1 ∙ has.ahead_is) (others.4 ∙ nothing) others.3
              (under_way_then most ahead taken bytes mid new inner next e small way_on bytes_here by counted going)

    -- the bytes of none
    pub no_event_taken : (bytes : List ℕ) (k : ℕ) (why : BadEvent) (f : Finding) (next : LateJudge) →
        length bytes ≡ 16 → IsNoEvent inner.width why bytes →
        ((limits : Bounds) (m a : ℕ) (run : List Event) → IsLateJudge limits m a run inner.judge → k ≡ length run) →
        ((limits : Bounds) (m a : ℕ) (run : List Event) → IsLateJudge limits m a run inner.judge →
        IsFoundUnless limits m a run (found.BadEvent k why) f) → KeepsStill inner.judge next → KeepsCallOf next f →
        ((limits : Bounds) (m a : ℕ) (run : List Event) → IsLateJudge limits m a run inner.judge →
        EndsInRunOf run next (found.BadEvent k why) → EndsInRunOf run next f) →
        HasTaken most ahead (taken ++ bytes)
        (record old { judge = Some (record inner { judge = next }); found = Some f })
    no_event_taken bytes k why f next many wrong count unless keeps tells there = record {
      most_is = has.most_is;
      ahead_is = has.ahead_is;
      kept = let kept = keeps way_on.header.limits most ahead way_on.run way_on.judge_of in record {
        header = way_on.header;
        run = way_on.run;
        rest = bytes;
        stream = behind_here;
        width_is = way_on.width_is;
        keeps = kept.keeps;
        most_is = kept.most_is ∙ way_on.judge_of.small.judge_of.most_is;
        window = kept.window ∙ way_on.judge_of.window;
      };
      tells = call_of_some (record inner { judge = next }) f tells;
      there = stream_there (taken ++ bytes) way_on.header way_on.run bytes (record inner { judge = next }) behind_here
          way_on.width_is f
          (there way_on.header.limits most ahead way_on.run way_on.judge_of (λ j same x is. absurd (cc)));
      state = no_event most ahead inner.names taken way_on.header way_on.run bytes why k f way_on.stream many
          (subst (λ (w : Option ℕ). IsNoEvent w why bytes) way_on.width_is wrong)
          (count way_on.header.limits most ahead way_on.run way_on.judge_of)
          (unless way_on.header.limits most ahead way_on.run way_on.judge_of);
    }
      where
        behind_here : IsRunBy inner.names (taken ++ bytes) way_on.header way_on.run bytes
        behind_here = run_behind inner.names taken way_on.header way_on.run bytes way_on.stream

-- first a front, then the bytes of one more
pub front_more : (bytes rest behind : List ℕ) (old after new : StreamJudge) → HasTakenFront bytes rest old after →
    HasTakenOne rest behind after new → new.part ≡ after.part → HasTakenFront bytes behind old new
front_more bytes rest behind old after new so_far one same = record {
  front = so_far.front ++ one.unit;
  parts = so_far.parts ∙ ap (λ (xs : List ℕ). so_far.front ++ xs) one.parts ∙
      sym (append_assoc so_far.front one.unit behind);
  more = λ most ahead taken has. subst (λ (xs : List ℕ). HasTaken most ahead xs new)
      (append_assoc taken so_far.front one.unit)
      (one.more most ahead (taken ++ so_far.front) (so_far.more most ahead taken has));
  some = record {
    most = so_far.some.most;
    ahead = so_far.some.ahead;
    taken = so_far.some.taken ++ one.unit;
    has = one.more so_far.some.most so_far.some.ahead so_far.some.taken so_far.some.has;
  };
  empty = ap (λ (part : Vec ℕ Global). part.items) same ∙ so_far.empty;
}

-- which bytes it keeps is of no matter for those that it has taken
pub part_aside : (most ahead : ℕ) (taken : List ℕ) (judge : StreamJudge) (part : Vec ℕ Global) →
    HasTaken most ahead taken judge → HasTaken most ahead taken (record judge { part = part })
part_aside most ahead taken judge part has = record {
  most_is = has.most_is;
  ahead_is = has.ahead_is;
  kept = has.kept;
  tells = has.tells;
  there = has.there;
  state = has.state;
}

-- a header may always come to an end with no byte, and an event
pub no_part : (judge : Option RunJudge) → IsPart judge []
no_part None = inl (lit< tt)
no_part (Some inner) = inl (lit< tt)

module _ (most ahead : ℕ) (taken front rest bytes : List ℕ) (judge : StreamJudge)
    (has : HasTaken most ahead (taken ++ front) judge) (parts : bytes ≡ front ++ rest) where
  all : taken ++ bytes ≡ taken ++ front ++ rest
  all = ap (λ (xs : List ℕ). taken ++ xs) parts ∙ sym (append_assoc taken front rest)

  -- the rest is kept
  pub rest_kept : (part : Vec ℕ Global) → part.items ≡ rest → IsPart judge.judge rest →
      IsFed most ahead (taken ++ bytes) (record judge { part = part })
  rest_kept part same is_part = record {
    taken = taken ++ front;
    later = rest;
    parts = all;
    has_taken = part_aside most ahead (taken ++ front) judge part has;
    keeps = λ none. same;
    part = subst (IsPart judge.judge) (sym same) is_part;
  }

  -- or something was found
  pub rest_left : is_some judge.found ≡ true → judge.part.items ≡ [] → IsFed most ahead (taken ++ bytes) judge
  rest_left some empty = record {
    taken = taken ++ front;
    later = rest;
    parts = all;
    has_taken = has;
    keeps = λ none. absurd (false≢true (sym (ap is_some none) ∙ some));
    part = subst (IsPart judge.judge) (sym empty) (no_part judge.judge);
  }

module _ (most ahead : ℕ) (fed bytes : List ℕ) (judge new : StreamJudge) (is : IsFed most ahead fed judge)
    (none : judge.found ≡ None) where
  -- the kept bytes come again, with those behind them
  pub all_fed : IsFed most ahead (is.taken ++ judge.part.items ++ bytes) new → IsFed most ahead (fed ++ bytes) new
  all_fed = subst (λ (xs : List ℕ). IsFed most ahead (xs ++ bytes) new)
      (ap (λ (xs : List ℕ). is.taken ++ xs) (is.keeps none) ∙ sym is.parts)

  pub empty_fed : judge.part.items ≡ [] → IsFed most ahead (is.taken ++ bytes) new →
      IsFed most ahead (fed ++ bytes) new
  empty_fed empty = subst (λ (xs : List ℕ). IsFed most ahead (xs ++ bytes) new)
      (sym (is.parts ∙ ap (λ (xs : List ℕ). is.taken ++ xs) (sym (is.keeps none) ∙ empty) ∙ append-nil is.taken))

-- where it has found something it was fed what comes then, too
pub fed_found : (most ahead : ℕ) (fed more : List ℕ) (judge : StreamJudge) → is_some judge.found ≡ true →
    IsFed most ahead fed judge → IsFed most ahead (fed ++ more) judge
fed_found most ahead fed more judge some is = record {
  taken = is.taken;
  later = is.later ++ more;
  parts = ap (λ (xs : List ℕ). xs ++ more) is.parts ∙ append_assoc is.taken is.later more;
  has_taken = is.has_taken;
  keeps = λ none. absurd (false≢true (sym (ap is_some none) ∙ some));
  part = is.part;
}

-- what its judge keeps is of all that it was fed
pub keeps_fed : (most ahead : ℕ) (fed : List ℕ) (judge : StreamJudge) → IsFed most ahead fed judge →
    KeepsFed most ahead fed judge
keeps_fed most ahead fed judge is = by judge.judge is.has_taken.kept
  where
    by : (o : Option RunJudge) → MatchOption o ⊤ (λ i. KeepsOf most ahead is.taken i) →
        MatchOption o ⊤ (λ i. KeepsOf most ahead fed i)
    by None none = tt
    by (Some inner) keeps = subst (λ (xs : List ℕ). KeepsOf most ahead xs inner) (sym is.parts)
        (keeps_more most ahead is.taken is.later inner keeps)

-- and so is the call that ends where that was found stuck
pub there_fed : (most ahead : ℕ) (fed : List ℕ) (judge : StreamJudge) → IsFed most ahead fed judge → (f : Finding) →
    judge.found ≡ Some f → EndsInStream fed judge.judge f
there_fed most ahead fed judge is f some = subst (λ (xs : List ℕ). EndsInStream xs judge.judge f) (sym is.parts)
    (more_there is.taken is.later judge.judge f
    (subst (λ (o : Option Finding). MatchOption o ⊤ (EndsInStream is.taken judge.judge)) some is.has_taken.there))

-- so it is once the judge of the run has finished
module _ (most ahead : ℕ) (fed : List ℕ) (judge : StreamJudge) (is : IsFed most ahead fed judge)
    (none : judge.found ≡ None) (inner : RunJudge) (next : LateJudge) (some : judge.judge ≡ Some inner) where
  way_here : IsUnderWay most ahead is.taken judge.begun judge.withdrawn inner
  way_here = way_on most ahead is.taken judge is.has_taken none inner some

  pub there_ended : (explained f : Finding) → ((k : ℕ) → explained ≢ Stuck k) →
      ((limits : Bounds) (m a : ℕ) (run : List Event) → IsLateJudge limits m a run inner.judge →
      EndsInRunOf run next explained → EndsInRunOf run next f) →
      EndsInStream fed (Some (record inner { judge = next })) f
  there_ended explained f other there =
      subst (λ (xs : List ℕ). EndsInStream xs (Some (record inner { judge = next })) f) (sym is.parts)
      (more_there is.taken is.later (Some (record inner { judge = next })) f
      (stream_there is.taken way_here.header way_here.run [] (record inner { judge = next }) way_here.stream
      way_here.width_is f
      (there way_here.header.limits most ahead way_here.run way_here.judge_of
      (λ k same x kept. absurd (other k same)))))

  -- and what it keeps is
  pub keeps_ended : KeepsStill inner.judge next → KeepsOf most ahead fed (record inner { judge = next })
  keeps_ended keeps =
      let kept = keeps way_here.header.limits most ahead way_here.run way_here.judge_of in
      subst (λ (xs : List ℕ). KeepsOf most ahead xs (record inner { judge = next })) (sym is.parts)
      (keeps_more most ahead is.taken is.later (record inner { judge = next }) (record {
        header = way_here.header;
        run = way_here.run;
        rest = [];
        stream = way_here.stream;
        width_is = way_here.width_is;
        keeps = kept.keeps;
        most_is = kept.most_is ∙ way_here.judge_of.small.judge_of.most_is;
        window = kept.window ∙ way_here.judge_of.window;
      }))
