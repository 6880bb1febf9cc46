-- A stream that goes on.
use Rattle.std.proofs.Common.{ℕ, ◌≡◌, ◌+◌, ◌*◌, ◌^◌, ◌<◌, ◌≤◌, true, List, [], ◌∷◌, ◌++◌, length, Option, Some}
use Rattle.std.proofs.Common.{None}
use Rattle.std.proofs.Common.{refl, sym, ◌∙◌, ap, subst, arith, inl, inr, append-nil, append_assoc}
use Rattle.std.specs.Prelude.{take, drop, map, MatchOption}
use Rattle.std.specs.List.{All}
use Rattle.std.proofs.lemmas.Bool.{false≢true}
use Rattle.std.proofs.lemmas.List.{drop_all, drop-append-le, length-append, length-drop, length-map, length-take}
use Rattle.std.proofs.lemmas.List.{map_push, take-append-le, take_all}
use Rattle.std.proofs.lemmas.List.Elements.{All-head, All-push, All-tail, All-weaker}
use Rattle.std.proofs.Math.Seq.{take-append_seam}
use Rattle.stamp_core.specs.Call.{is_lock_call}
use Rattle.stamp_core.specs.declared.call.Call.{Call}
use Rattle.stamp_core.specs.declared.call.Call.TheVariants as call
use Rattle.stamp_core.specs.declared.reply.Reply.{Reply}
use Rattle.stamp_core.specs.declared.reply.Reply.TheVariants as reply
use Rattle.stamp_runs.specs.Names.{EachOfCall, EachOfEvent, EachOfReply, event_by}
use Rattle.stamp_runs.specs.declared.event.Event.{Event}
use Rattle.stamp_runs.specs.declared.event.Event.TheVariants.{Begins, Returns, Withdraws}
use Rattle.stamp_watch.specs.Names.{IsEventBy, IsGrown, IsNamed, IsWide}
use Rattle.stamp_watch.specs.Names.{StaysWide}
use Rattle.stamp_watch.specs.Names.{name_in}
use Rattle.stamp_watch.proofs.JudgingLate.{late_way, run_long}
use Rattle.stamp_watch.proofs.Named.{event_named_still, event_stays, names_differ, zeros_named}
use Rattle.stamped_watch.specs.declared.finding.Finding.{Finding}
use Rattle.stamped_watch.specs.declared.header.Header.{Header}
use Rattle.stamped_watch.specs.declared.run_judge.RunJudge.{RunJudge}
use Rattle.stamped_watch.specs.declared.stream_judge.StreamJudge.{StreamJudge}
use Rattle.stamped_watch.specs.EventBytes.{HasBytes, IsOfWidth, is_of_lock, size_of, words_of_call, words_of_reply}
use Rattle.stamped_watch.specs.Finding.{IsFoundOf}
use Rattle.stamped_watch.specs.Header.{IsHeader, StandsBehind}
use Rattle.stamped_watch.specs.Stream.{HaveBytes, IsRunBy, IsRunIn, IsStream, words_of_record}
use Rattle.stamped_watch.specs.StreamJudge.{HasTaken, IsFed, IsFresh, IsPart, IsUnderWay}

-- the first of bytes that begin with so many
pub first_of : (n : ℕ) (bytes more : List ℕ) → length bytes ≡ n → take n (bytes ++ more) ≡ bytes
first_of n bytes more many = ap (λ (m : ℕ). take m (bytes ++ more)) (sym many) ∙ take-append_seam bytes more

-- there are n, where the first n are as many
as_many : (n : ℕ) (bytes : List ℕ) → length (take n bytes) ≡ n → n ≤ length bytes
as_many n bytes many = let long = length-take n bytes in omega (arith, long, many)

-- one event more
bytes_more : (width : Option ℕ) (events : List Event) (units : List ℕ) (e : Event) (bytes : List ℕ) →
    HaveBytes width events units → HasBytes width e bytes → HaveBytes width (events ++ e ∷ []) (units ++ bytes)
bytes_more width [] units e bytes none has =
    subst (HaveBytes width (e ∷ [])) (ap (λ (xs : List ℕ). xs ++ bytes) (sym none)) (
      subst (HasBytes width e) (sym (take_all (size_of e) bytes (omega (arith, has.many)))) has,
      drop_all (size_of e) bytes (omega (arith, has.many)),
    )
bytes_more width (x ∷ events) units e bytes have has =
    let enough : size_of x ≤ length units = as_many (size_of x) units have.0.many in (
      subst (HasBytes width x) (sym (take-append-le (size_of x) units bytes enough)) have.0,
      subst (HaveBytes width (events ++ e ∷ [])) (sym (drop-append-le (size_of x) units bytes enough))
          (bytes_more width events (drop (size_of x) units) e bytes have.1 has),
    )

-- no call, reply or event has more than 32 words
call_short : (width : ℕ) (c : Call) → width ≤ 16 → EachOfCall (IsWide width) c → length (words_of_call c) ≤ 32
call_short width (call.Put words) few wide = omega (arith, few, wide)
call_short width (call.PutIf expected words) few wide =
    let long = length-append expected words in omega (arith, few, wide.0, wide.1, long)
call_short width call.TryWrite few wide = omega arith
call_short width call.TryRead few wide = omega arith
call_short width call.WriteLock few wide = omega arith
call_short width call.ReadLock few wide = omega arith
call_short width call.Optimistic few wide = omega arith
call_short width (call.Validate s) few wide = omega arith
call_short width (call.UnlockWrite s) few wide = omega arith
call_short width (call.UnlockRead s) few wide = omega arith
call_short width (call.Unlock s) few wide = omega arith
call_short width (call.ToWrite s) few wide = omega arith
call_short width (call.ToRead s) few wide = omega arith
call_short width (call.ToOptimistic s) few wide = omega arith
call_short width call.TryUnlockWrite few wide = omega arith
call_short width call.TryUnlockRead few wide = omega arith
call_short width call.IsWriteLocked few wide = omega arith
call_short width call.IsReadLocked few wide = omega arith
call_short width call.ReadCount few wide = omega arith
call_short width call.Get few wide = omega arith

reply_short : (width : ℕ) (r : Reply) → width ≤ 16 → EachOfReply (IsWide width) r → length (words_of_reply r) ≤ 32
reply_short width (reply.Content words) few wide = omega (arith, few, wide)
reply_short width (reply.Stamp s) few wide = omega arith
reply_short width reply.Yes few wide = omega arith
reply_short width reply.No few wide = omega arith
reply_short width reply.Done few wide = omega arith
reply_short width reply.Mismatch few wide = omega arith
reply_short width (reply.Count n) few wide = omega arith

event_short : (width : ℕ) (e : Event) → width ≤ 16 → EachOfEvent (IsWide width) e → size_of e ≤ 272
event_short width (Begins lane c) few wide = let short = call_short width c few wide in omega (arith, short)
event_short width (Returns lane r) few wide = let short = reply_short width r few wide in omega (arith, short)
event_short width (Withdraws lane) few wide = omega arith

-- a call of the lock has none
lock_call_wide : (c : Call) → is_lock_call c ≡ true → EachOfCall (IsWide 1) c
lock_call_wide (call.Put words) is = absurd (false≢true is)
lock_call_wide (call.PutIf expected words) is = absurd (false≢true is)
lock_call_wide call.Get is = tt
lock_call_wide call.TryWrite is = tt
lock_call_wide call.TryRead is = tt
lock_call_wide call.WriteLock is = tt
lock_call_wide call.ReadLock is = tt
lock_call_wide call.Optimistic is = tt
lock_call_wide (call.Validate s) is = tt
lock_call_wide (call.UnlockWrite s) is = tt
lock_call_wide (call.UnlockRead s) is = tt
lock_call_wide (call.Unlock s) is = tt
lock_call_wide (call.ToWrite s) is = tt
lock_call_wide (call.ToRead s) is = tt
lock_call_wide (call.ToOptimistic s) is = tt
lock_call_wide call.TryUnlockWrite is = tt
lock_call_wide call.TryUnlockRead is = tt
lock_call_wide call.IsWriteLocked is = tt
lock_call_wide call.IsReadLocked is = tt
lock_call_wide call.ReadCount is = tt

lock_wide : (e : Event) → is_of_lock e ≡ true → EachOfEvent (IsWide 1) e
lock_wide (Begins lane c) is = lock_call_wide c is
lock_wide (Returns lane (reply.Content words)) is = absurd (false≢true is)
lock_wide (Returns lane (reply.Stamp s)) is = tt
lock_wide (Returns lane reply.Yes) is = tt
lock_wide (Returns lane reply.No) is = tt
lock_wide (Returns lane reply.Done) is = tt
lock_wide (Returns lane reply.Mismatch) is = tt
lock_wide (Returns lane (reply.Count n)) is = tt
lock_wide (Withdraws lane) is = tt

pub of_width : (width : Option ℕ) (e : Event) → IsOfWidth width e → EachOfEvent (IsWide (words_of_record width)) e
of_width None e fits = lock_wide e fits
of_width (Some width) e fits = fits

record_narrow : (width : Option ℕ) (bytes : List ℕ) → StandsBehind width bytes → words_of_record width ≤ 16
record_narrow None bytes none = omega arith
record_narrow (Some width) bytes has = has.1.few

pub narrow : (header : Header) (bytes : List ℕ) → IsHeader header bytes → words_of_record header.width ≤ 16
narrow header bytes is = record_narrow header.width (drop 16 bytes) is.behind

behind_short : (width : Option ℕ) (bytes : List ℕ) → StandsBehind width bytes → length bytes ≤ 8
behind_short None bytes none = let long = ap length none in omega (arith, long)
behind_short (Some width) bytes has = let long = has.0 in omega (arith, long)

head_short : (header : Header) (bytes : List ℕ) → IsHeader header bytes → length bytes ≤ 24
head_short header bytes is =
    let long = length-drop 16 bytes in let short = behind_short header.width (drop 16 bytes) is.behind in
    omega (arith, long, short)

bytes_short : (width : Option ℕ) (events : List Event) (units : List ℕ) → words_of_record width ≤ 16 →
    HaveBytes width events units → length units ≤ 272 * length events
bytes_short width [] units few none = let long = ap length none in omega (arith, long)
bytes_short width (x ∷ events) units few have =
    let enough : size_of x ≤ length units = as_many (size_of x) units have.0.many in
    let others = bytes_short width events (drop (size_of x) units) few have.1 in
    let left = length-drop (size_of x) units in
    let short = event_short (words_of_record width) x few (of_width width x have.0.front.fits) in
    omega (arith, enough, others, left, short)

pub stream_first : (bytes : List ℕ) (header : Header) → IsHeader header bytes → IsStream bytes header [] []
stream_first bytes header is = record {
  head = bytes;
  units = [];
  parts = sym (append-nil bytes) ∙ sym (append-nil (bytes ++ []));
  header_is = is;
  events_are = refl;
}

parts_behind : (taken rest : List ℕ) (header : Header) (events : List Event) (stream : IsStream taken header events [])
    →
    taken ++ rest ≡ stream.head ++ stream.units ++ rest
parts_behind taken rest header events stream =
    ap (λ (xs : List ℕ). xs ++ rest) (stream.parts ∙ append-nil (stream.head ++ stream.units))

pub stream_behind : (taken rest : List ℕ) (header : Header) (events : List Event) →
    IsStream taken header events [] → IsStream (taken ++ rest) header events rest
stream_behind taken rest header events stream = record {
  head = stream.head;
  units = stream.units;
  parts = parts_behind taken rest header events stream;
  header_is = stream.header_is;
  events_are = stream.events_are;
}

-- with a longer rest
pub stream_longer : (bytes more : List ℕ) (header : Header) (events : List Event) (rest : List ℕ) →
    IsStream bytes header events rest → IsStream (bytes ++ more) header events (rest ++ more)
stream_longer bytes more header events rest stream = record {
  head = stream.head;
  units = stream.units;
  parts = ap (λ (xs : List ℕ). xs ++ more) stream.parts ∙ append_assoc (stream.head ++ stream.units) rest more;
  header_is = stream.header_is;
  events_are = stream.events_are;
}

pub stream_more : (taken : List ℕ) (header : Header) (events : List Event) (e : Event) (bytes : List ℕ) →
    IsStream taken header events [] → HasBytes header.width e bytes →
    IsStream (taken ++ bytes) header (events ++ e ∷ []) []
stream_more taken header events e bytes stream has = record {
  head = stream.head;
  units = stream.units ++ bytes;
  parts = parts_behind taken bytes header events stream ∙ append_assoc stream.head stream.units bytes ∙
      sym (append-nil (stream.head ++ (stream.units ++ bytes)));
  header_is = stream.header_is;
  events_are = bytes_more header.width events stream.units e bytes stream.events_are has;
}

-- how long a stream of so many events is
stream_long : (taken rest : List ℕ) (header : Header) (events : List Event) →
    IsStream taken header events rest → length taken ≤ 24 + 272 * length events + length rest
stream_long taken rest header events stream =
    let whole = ap length stream.parts ∙ length-append (stream.head ++ stream.units) rest in
    let front = length-append stream.head stream.units in
    let head = head_short header stream.head stream.header_is in
    let units = bytes_short header.width events stream.units (narrow header stream.head stream.header_is)
    stream.events_are in
    omega (arith, whole, front, head, units)

-- a run by numbers is one by other names
abbrev pub run_in : (contents : List (List ℕ)) (bytes : List ℕ) (header : Header) (run : List Event) (rest : List ℕ) →
    IsRunBy contents bytes header run rest → IsRunIn bytes header run rest
run_in contents bytes header run rest is = record {
  events = is.events;
  stream = is.stream;
  named = record {
    names = name_in contents;
    different = names_differ contents;
    first = zeros_named (words_of_record header.width) contents is.contents_are;
    run_is = is.run_is;
  };
}

module _ (contents : List (List ℕ)) (taken : List ℕ) (header : Header) (run : List Event) where
  pub run_behind : (rest : List ℕ) → IsRunBy contents taken header run [] →
      IsRunBy contents (taken ++ rest) header run rest
  run_behind rest is = record {
    events = is.events;
    stream = stream_behind taken rest header is.events is.stream;
    contents_are = is.contents_are;
    named = is.named;
    run_is = is.run_is;
  }

  pub run_longer : (more rest : List ℕ) → IsRunBy contents taken header run rest →
      IsRunBy contents (taken ++ more) header run (rest ++ more)
  run_longer more rest is = record {
    events = is.events;
    stream = stream_longer taken more header is.events rest is.stream;
    contents_are = is.contents_are;
    named = is.named;
    run_is = is.run_is;
  }

  pub run_more : (e small : Event) (bytes : List ℕ) → IsRunBy contents taken header run [] →
      HasBytes header.width e bytes → IsEventBy contents e small →
      IsRunBy contents (taken ++ bytes) header (run ++ small ∷ []) []
  run_more e small bytes is has by = record {
    events = is.events ++ e ∷ [];
    stream = stream_more taken header is.events e bytes is.stream has;
    contents_are = is.contents_are;
    named = All-push (EachOfEvent (IsNamed contents)) is.events e is.named by.named;
    run_is = ap (λ (xs : List Event). xs ++ small ∷ []) is.run_is ∙
        ap (λ (x : Event). map (event_by (name_in contents)) is.events ++ x ∷ []) by.small_is ∙
        sym (map_push (event_by (name_in contents)) is.events e);
  }

-- by more contents
events_stay : {old new : List (List ℕ)} → IsGrown old new → (events : List Event) →
    All (EachOfEvent (IsNamed old)) events → map (event_by (name_in old)) events ≡ map (event_by (name_in new)) events
events_stay grown [] named = refl
events_stay {old} {new} grown (e ∷ events) named =
    ap (λ (x : Event). x ∷ map (event_by (name_in old)) events)
    (sym (event_stays grown e (All-head (EachOfEvent (IsNamed old)) e events named))) ∙
    ap (λ (xs : List Event). event_by (name_in new) e ∷ xs)
    (events_stay grown events (All-tail (EachOfEvent (IsNamed old)) e events named))

pub run_grown : (old new : List (List ℕ)) (taken : List ℕ) (header : Header) (run : List Event) (rest : List ℕ) →
    IsGrown old new → StaysWide old new → IsRunBy old taken header run rest → IsRunBy new taken header run rest
run_grown old new taken header run rest grown wide is = record {
  events = is.events;
  stream = is.stream;
  contents_are = wide (words_of_record header.width) is.contents_are;
  named = All-weaker (EachOfEvent (IsNamed old)) (EachOfEvent (IsNamed new)) (λ e named. event_named_still grown e
      named)
      is.events is.named;
  run_is = is.run_is ∙ events_stay grown is.events is.named;
}

-- what is known where nothing was found
pub state_of : (most ahead : ℕ) (taken : List ℕ) (judge : StreamJudge) → HasTaken most ahead taken judge →
    judge.found ≡ None → MatchOption judge.judge (IsFresh taken judge.begun judge.withdrawn)
    (λ inner. IsUnderWay most ahead taken judge.begun judge.withdrawn inner)
state_of most ahead taken judge has none = subst (λ (o : Option Finding). MatchOption o (MatchOption judge.judge
    (IsFresh taken judge.begun judge.withdrawn)
    (λ inner. IsUnderWay most ahead taken judge.begun judge.withdrawn inner))
    (λ finding. IsFoundOf most ahead taken finding)) none has.state

-- where nothing was found, no more bytes were taken than those of as many events as can be numbered
module _ (most ahead : ℕ) (taken : List ℕ) (begun withdrawn : ℕ) where
  taken_short : (o : Option RunJudge) → MatchOption o (IsFresh taken begun withdrawn)
      (λ inner. IsUnderWay most ahead taken begun withdrawn inner) → length taken ≤ 24 + 272 * 2 ^ 64
  taken_short None fresh = let none = ap length fresh.nothing in omega (arith, none)
  taken_short (Some inner) way =
      let long = run_long way.header.limits most ahead way.run inner.judge way.judge_of way.none in
      let all = stream_long taken [] way.header way.stream.events way.stream.stream in
      let same = ap length way.stream.run_is ∙ length-map way.stream.events (event_by (name_in inner.names)) in
      let room : inner.judge.delay.passed + length inner.judge.delay.waiting.events.items < 2 ^ 64 =
      (late_way way.header.limits most ahead way.run inner.judge way.judge_of way.none).room in
      omega (arith, long, all, same, room)

  part_short : (o : Option RunJudge) → MatchOption o (IsFresh taken begun withdrawn)
      (λ inner. IsUnderWay most ahead taken begun withdrawn inner) → (later : List ℕ) → IsPart o later →
      length later < 272
  part_short None fresh later (inl few) = omega (arith, few)
  part_short None fresh later (inr few) = let less = few.0 in omega (arith, less)
  part_short (Some inner) way later (inl few) = omega (arith, few)
  part_short (Some inner) way later (inr part) =
      let less = part.longer part.event part.front in
      let narrow_one = narrow way.header way.stream.stream.head way.stream.stream.header_is in
      let fits : IsOfWidth way.header.width part.event =
      subst (λ (w : Option ℕ). IsOfWidth w part.event) way.width_is part.front.fits in
      let short = event_short (words_of_record way.header.width) part.event narrow_one
      (of_width way.header.width part.event fits) in
      omega (arith, less, short)

pub fed_short : (most ahead : ℕ) (fed : List ℕ) (judge : StreamJudge) → judge.found ≡ None →
    IsFed most ahead fed judge → length fed < 272 * 2 ^ 64 + 296
fed_short most ahead fed judge none is =
    let state = state_of most ahead is.taken judge is.has_taken none in
    let taken = taken_short most ahead is.taken judge.begun judge.withdrawn judge.judge state in
    let long = ap length is.parts ∙ length-append is.taken is.later in
    let short : length is.later < 272 = subst (λ (xs : List ℕ). length xs < 272) (is.keeps none)
    (part_short most ahead is.taken judge.begun judge.withdrawn judge.judge state judge.part.items is.part) in
    omega (arith, taken, long, short)
