-- Which replies of the call that ends where a stream is stuck are told, and why none are.
use Rattle.std.proofs.Common.{ℕ, ◌≡◌, ◌-◌, ◌<◌, ◌≤◌, Bool, true, false, List, Option, Some, None, take}
use Rattle.std.proofs.Common.{refl, sym, ◌∙◌, ap, subst, arith}
use Rattle.std.specs.Prelude.{MatchOption, Vec, ⊤, nat_le, nat_lt, slice_get, if◌then◌else◌}
use Rattle.std.specs.Prelude.{option_and_then, option_map}
use Rattle.std.specs.declared.alloc.Global.{Global}
use Rattle.std.proofs.lemmas.Bool.Decides.{nat_tests}
use Rattle.std.proofs.lemmas.Option.{none-some, same_Some}
use Rattle.stamp_core.specs.Limits.{Bounds}
use Rattle.stamp_core.specs.declared.call.Call.{Call}
use Rattle.stamp_core.specs.declared.call.Call.TheVariants as call
use Rattle.stamp_core.specs.declared.reply.Reply.{Reply}
use Rattle.stamp_runs.specs.Names.{Names, call_by, reply_by}
use Rattle.stamp_runs.specs.declared.event.Event.{Event}
use Rattle.stamp_runs.specs.declared.event.Event.TheVariants.{Begins, Returns, Withdraws}
use Rattle.stamp_sets.specs.declared.small_call.SmallReply.{SmallReply}
use Rattle.stamp_watch.specs.declared.ended_call.EndedCall.{EndedCall}
use Rattle.stamp_watch.specs.Course.{KeepsEnd}
use Rattle.stamp_watch.specs.EndedCall.{begun_in, ended, ended_at, ended_by, ended_from}
use Rattle.stamp_watch.specs.Names.{name_in}
use Rattle.stamp_watch.specs.Possible.{AreTooManyWith, plain_replies, items_in as replies_told}
use Rattle.stamp_watch.specs.PossibleLate.{IsToldLater, IsToldLaterOf}
use Rattle.stamp_watch.specs.Start.{BeganLateBy}
use Rattle.stamp_watch.specs.Verdict.{IsOpenFor}
use Rattle.stamped_watch.specs.declared.run_judge.RunJudge.{RunJudge}
use Rattle.stamped_watch.specs.Possible.{ArePossibleAt, AreToldOf, AreUntold, BeganLate, KeepsOf, items_in}
use Rattle.stamped_watch.specs.Possible.AreUntold.{given_stamps, withdrawn, began_late, too_many}
use Rattle.stamped_watch.specs.StreamJudge.{IsEndBy}
use Rattle.stamped_watch.proofs.Streaming.{run_in}

-- no replies are told
abbrev untold : Option (List Reply)
untold = None

-- the event at this place is a return
record IsReturned (items : List Event) (p : ℕ) : Type 0 where
  lane : ℕ
  own : Reply
  there : slice_get items p ≡ Some (Returns lane own)

-- a call that was withdrawn has no reply
no_reply : (lane : ℕ) (o : Option Call) (x : EndedCall) (r : Reply) → option_map (ended lane None) o ≡ Some x →
    x.reply ≡ Some r → ⊥
no_reply lane None x r none some = absurd (cc)
no_reply lane (Some call) x r is some =
    none-some r (ap (λ (e : EndedCall). e.reply) (same_Some (ended lane None call) x is) ∙ some)

returned_at : (items : List Event) (p : ℕ) (x : EndedCall) (r : Reply) → ended_at items p ≡ Some x →
    x.reply ≡ Some r → IsReturned items p
returned_at items p x r is some = by (slice_get items p) refl is
  where
    by : (o : Option Event) → slice_get items p ≡ o →
        option_and_then (λ (e : Event). ended_by e (take p items)) o ≡ Some x → IsReturned items p
    by None same none = absurd (cc)
    by (Some (Begins lane call)) same none = absurd (cc)
    by (Some (Returns lane own)) same here = record { lane = lane; own = own; there = same }
    by (Some (Withdraws lane)) same here = absurd (no_reply lane (begun_in lane (take p items)) x r here some)

kept_return : (first : ℕ) (items : List Event) (k : ℕ) (x : EndedCall) (r : Reply) →
    ended_from first items k ≡ Some x → x.reply ≡ Some r → IsReturned items (k - first)
kept_return first items k x r is some = by (nat_le first k) is
  where
    by : (t : Bool) → (if t then ended_at items (k - first) else None) ≡ Some x → IsReturned items (k - first)
    by true here = returned_at items (k - first) x r here some
    by false none = absurd (cc)

-- what the judge of the events tells of the event at which the stream is stuck is told of the stream
module _ (most ahead : ℕ) (fed : List ℕ) (inner : RunJudge) (keeps : KeepsOf most ahead fed inner) (k : ℕ) where
  long : (first : ℕ) → inner.judge.delay.first_late ≡ Some first → IsOpenFor keeps.run first (ahead - 64)
  long first same = subst (λ (n : ℕ). IsOpenFor keeps.run first n) keeps.window
      (subst (λ (o : Option ℕ). MatchOption o ⊤ (λ (f : ℕ). IsOpenFor keeps.run f inner.judge.delay.ahead)) same
      keeps.keeps.long)

  pub late_told : BeganLateBy inner.judge k → BeganLate ahead fed k
  late_told late = by inner.judge.delay.first_late refl late
    where
      by : (o : Option ℕ) → inner.judge.delay.first_late ≡ o → MatchOption o ⊥ (λ (first : ℕ). first ≤ k) →
          BeganLate ahead fed k
      by None same never = absurd never
      by (Some first) same before = record {
        header = keeps.header;
        run = keeps.run;
        rest = keeps.rest;
        stream = run_in inner.names fed keeps.header keeps.run keeps.rest keeps.stream;
        first = first;
        by = before;
        open_for = long first same;
      }

  module _ (x : EndedCall) (end : KeepsEnd inner.judge.delay.judge.course k)
      (is : ended_from inner.judge.delay.judge.course.first inner.judge.delay.judge.course.events.items k ≡ Some x)
    where
      plain_in : (o : Option (List SmallReply)) → plain_replies inner.judge.delay.judge.course.base.limits x.call ≡ o →
          plain_replies keeps.header.limits x.call ≡ o
      plain_in o same =
          ap (λ (l : Bounds). plain_replies l x.call) (sym keeps.keeps.keeps.from_base.judging.limits_are) ∙ same

      possible_of : (found : List Reply) (o : Option (List SmallReply)) →
          plain_replies inner.judge.delay.judge.course.base.limits x.call ≡ o →
          MatchOption o (Some found ≡ None) (λ tried. IsToldLater inner.judge k tried (Some found)) →
          ArePossibleAt fed k x.call found
      possible_of found None same none = absurd (cc)
      possible_of found (Some tried) same told = record {
        header = keeps.header;
        run = keeps.run;
        rest = keeps.rest;
        stream = run_in inner.names fed keeps.header keeps.run keeps.rest keeps.stream;
        tried = tried;
        are = plain_in (Some tried) same;
        among = told keeps.header.limits keeps.run keeps.keeps;
      }

      many : (tried : List SmallReply) → plain_replies inner.judge.delay.judge.course.base.limits x.call ≡ Some tried →
          IsToldLater inner.judge k tried None → (r : Reply) → x.reply ≡ Some r →
          MatchOption inner.judge.delay.first_late ⊤ (λ (first : ℕ). k < first) → AreUntold most ahead fed k x
      many tried same told r some before =
          let at = kept_return inner.judge.delay.judge.course.first inner.judge.delay.judge.course.events.items k x r is
          some in
          too_many (record {
            header = keeps.header;
            run = keeps.run;
            rest = keeps.rest;
            stream = run_in inner.names fed keeps.header keeps.run keeps.rest keeps.stream;
            tried = tried;
            are = plain_in (Some tried) same;
            too_many = subst (λ (n : ℕ). AreTooManyWith keeps.header.limits keeps.run k n tried) keeps.most_is
                (told (record {
                  can = record { seen = end.behind; lane = at.lane; own = at.own; there = at.there };
                  before = before;
                }) keeps.header.limits keeps.run keeps.keeps);
          })

      late_or_many : (tried : List SmallReply) →
          plain_replies inner.judge.delay.judge.course.base.limits x.call ≡ Some tried → IsToldLater inner.judge k tried
          None →
          (r : Reply) → x.reply ≡ Some r → (o : Option ℕ) → inner.judge.delay.first_late ≡ o → AreUntold most ahead fed
          k x
      late_or_many tried same told r some None never = many tried same told r some
          (subst (λ (o : Option ℕ). MatchOption o ⊤ (λ (first : ℕ). k < first)) (sym never) tt)
      late_or_many tried same told r some (Some first) late = by (nat_lt k first) refl
        where
          by : (t : Bool) → nat_lt k first ≡ t → AreUntold most ahead fed k x
          by true less = many tried same told r some
              (subst (λ (o : Option ℕ). MatchOption o ⊤ (λ (f : ℕ). k < f)) (sym late) (grind (arith, nat_tests)))
          by false not_less = began_late (late_told (subst (λ (o : Option ℕ). MatchOption o ⊥ (λ (f : ℕ). f ≤ k))
              (sym late) (grind (arith, nat_tests))))

      untold_of : (o : Option (List SmallReply)) → plain_replies inner.judge.delay.judge.course.base.limits x.call ≡ o →
          MatchOption o (untold ≡ None) (λ tried. IsToldLater inner.judge k tried untold) →
          (reply : Option Reply) → x.reply ≡ reply → AreUntold most ahead fed k x
      untold_of None same told reply of = given_stamps (record {
        header = keeps.header;
        run = keeps.run;
        rest = keeps.rest;
        stream = run_in inner.names fed keeps.header keeps.run keeps.rest keeps.stream;
        not_plain = plain_in None same;
      })
      untold_of (Some tried) same told None of = withdrawn of
      untold_of (Some tried) same told (Some r) of =
          late_or_many tried same told r of inner.judge.delay.first_late refl

      pub possible_told : (told : Option (Vec Reply Global)) → IsToldLaterOf inner.judge k x.call (replies_told told) →
          AreToldOf most ahead fed k x (items_in told)
      possible_told None is_told = untold_of (plain_replies inner.judge.delay.judge.course.base.limits x.call) refl
          is_told
          x.reply refl
      possible_told (Some found) is_told =
          possible_of found.items (plain_replies inner.judge.delay.judge.course.base.limits x.call) refl is_told

-- the replies of a call are the same by any names
plain_same : (limits : Bounds) (names : Names) (c : Call) →
    plain_replies limits (call_by names c) ≡ plain_replies limits c
plain_same limits names (call.Put words) = refl
plain_same limits names (call.PutIf expected words) = refl
plain_same limits names call.Get = refl
plain_same limits names call.TryWrite = refl
plain_same limits names call.TryRead = refl
plain_same limits names call.WriteLock = refl
plain_same limits names call.ReadLock = refl
plain_same limits names call.Optimistic = refl
plain_same limits names (call.Validate s) = refl
plain_same limits names (call.UnlockWrite s) = refl
plain_same limits names (call.UnlockRead s) = refl
plain_same limits names (call.Unlock s) = refl
plain_same limits names (call.ToWrite s) = refl
plain_same limits names (call.ToRead s) = refl
plain_same limits names (call.ToOptimistic s) = refl
plain_same limits names call.TryUnlockWrite = refl
plain_same limits names call.TryUnlockRead = refl
plain_same limits names call.IsWriteLocked = refl
plain_same limits names call.IsReadLocked = refl
plain_same limits names call.ReadCount = refl

none_back : (names : Names) (o : Option Reply) → option_map (reply_by names) o ≡ None → o ≡ None
none_back names None same = refl
none_back names (Some r) same = absurd (cc)

-- so what is told of it is told of the call in words
module _ (most ahead : ℕ) (bytes : List ℕ) (k : ℕ) (contents : List (List ℕ)) (told small : EndedCall)
    (by : IsEndBy contents told small) where
  plain_told : (limits : Bounds) → plain_replies limits small.call ≡ plain_replies limits told.call
  plain_told limits = ap (plain_replies limits) (sym by.call_is) ∙ plain_same limits (name_in contents) told.call

  untold_in_words : AreUntold most ahead bytes k small → AreUntold most ahead bytes k told
  untold_in_words (given_stamps is) = given_stamps (record {
    header = is.header;
    run = is.run;
    rest = is.rest;
    stream = is.stream;
    not_plain = sym (plain_told is.header.limits) ∙ is.not_plain;
  })
  untold_in_words (withdrawn is) = withdrawn (none_back (name_in contents) told.reply (by.reply_is ∙ is))
  untold_in_words (began_late is) = began_late is
  untold_in_words (too_many is) = too_many (record {
    header = is.header;
    run = is.run;
    rest = is.rest;
    stream = is.stream;
    tried = is.tried;
    are = sym (plain_told is.header.limits) ∙ is.are;
    too_many = is.too_many;
  })

  pub told_in_words : (o : Option (List Reply)) → AreToldOf most ahead bytes k small o →
      AreToldOf most ahead bytes k told o
  told_in_words None is = untold_in_words is
  told_in_words (Some found) is = record {
    header = is.header;
    run = is.run;
    rest = is.rest;
    stream = is.stream;
    tried = is.tried;
    are = sym (plain_told is.header.limits) ∙ is.are;
    among = is.among;
  }
