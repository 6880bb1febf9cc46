-- The replies of a legal history are those of program values, where its calls are.
use Rattle.std.proofs.Common.{◌≡◌, ◌≤◌, ◌+◌, ◌*◌, ◌++◌, ℕ, List, [], ◌∷◌, length, Bool, true, false, refl}
use Rattle.std.proofs.Common.{Option, Some, None, subst, sym, arith, lit<}
use Rattle.std.specs.Prelude.{◌==◌, ◌&&◌, nat_lt, IsTrue, if◌then◌else◌}
use Rattle.std.specs.Bool.{MatchBool}
use Rattle.std.specs.List.{All}
use Rattle.std.proofs.lemmas.Bool.Decides.{nat_tests}
use Rattle.std.proofs.lemmas.List.Elements.{All-nil, All-cons, All-head, All-tail}
use Rattle.stamp_core.specs.Call.{is_lock_call, call_suits}
use Rattle.stamp_core.specs.Content.{content_next, same_words, RecordReplies}
use Rattle.stamp_core.specs.History.{IsReply, IsLegalFrom, Replies, appended_by}
use Rattle.stamp_core.specs.IsWellFormed.{CountsAreWithin, IsWellFormed}
use Rattle.stamp_core.specs.Layout.{Units, units_of}
use Rattle.stamp_core.specs.Limits.{Bounds, units, AreInRange}
use Rattle.stamp_core.specs.Linearized.{history_of}
use Rattle.stamp_core.specs.LockEvent.{LockEvent, Counts, counts}
use Rattle.stamp_core.specs.Record.{HasFewWords}
use Rattle.stamp_core.specs.Stamp.{write_stamp, read_stamp, optimistic_stamp}
use Rattle.stamp_core.specs.Stamp.{is_held_write, is_held_read, is_valid}
use Rattle.stamp_core.specs.Transition.{Transition, row, transition, may_write, may_read}
use Rattle.stamp_core.specs.declared.layout.Layout.{Layout}
use Rattle.stamp_core.specs.declared.layout.Layout.TheVariants.{One, Two}
use Rattle.stamp_core.specs.declared.call.Call.{Call}
use Rattle.stamp_core.specs.declared.call.Call.TheVariants.{TryWrite, TryRead, WriteLock, ReadLock}
use Rattle.stamp_core.specs.declared.call.Call.TheVariants.{Optimistic, Validate, UnlockWrite}
use Rattle.stamp_core.specs.declared.call.Call.TheVariants.{UnlockRead, Unlock, ToWrite, ToRead}
use Rattle.stamp_core.specs.declared.call.Call.TheVariants.{ToOptimistic, TryUnlockWrite}
use Rattle.stamp_core.specs.declared.call.Call.TheVariants.{TryUnlockRead, IsWriteLocked}
use Rattle.stamp_core.specs.declared.call.Call.TheVariants.{IsReadLocked, ReadCount, Get, Put}
use Rattle.stamp_core.specs.declared.call.Call.TheVariants.{PutIf}
use Rattle.stamp_core.specs.declared.entry.Entry.{Entry}
use Rattle.stamp_core.specs.declared.reply.Reply.{Reply}
use Rattle.stamp_core.specs.declared.reply.Reply.TheVariants.{Stamp, Yes, No, Done, Mismatch}
use Rattle.stamp_core.proofs.StampValidity.{transition_counts}
use Rattle.stamp_core.proofs.WellFormedPush.{obeys_now}
use Rattle.stamp_history.specs.HistoryLaws.{IsU64, CallIsU64, ReplyIsU64}

-- a call and a reply of a program, whose record has this width
pub record IsProgramCall (width : ℕ) (call : Call) : Type 0 where
  pub numbers : CallIsU64 call
  pub suits : IsTrue (call_suits width call)

pub record IsProgramReply (reply : Reply) : Type 0 where
  pub numbers : ReplyIsU64 reply
  pub words : HasFewWords reply

-- and the content of that record
pub record IsProgramContent (width : ℕ) (content : List ℕ) : Type 0 where
  pub numbers : All IsU64 content
  pub each : length content ≡ width

-- the reply of a transition, if there is one
record RepliesProgram (found : Option Transition) : Type 0 where
  is : (t : Transition) → found ≡ Some t → IsProgramReply t.reply

with_reply : {t : Transition} → IsProgramReply t.reply → RepliesProgram (Some t)
with_reply {t} fits = record {
  is = λ u e. let same : t ≡ u = cc in subst (λ (x : Transition). IsProgramReply x.reply) same fits;
}

waits : RepliesProgram None
waits = record { is = λ t e. cc }

either : (b : Bool) {x y : Option Transition} → RepliesProgram x → RepliesProgram y →
    RepliesProgram (if b then x else y)
either true f g = f
either false f g = g

-- the numbers that a lock of these counts answers
record Issued (u : Units) (c : Counts) : Type 0 where
  write : IsU64 (write_stamp u (c.write_count + 1))
  read : IsU64 (read_stamp u c.write_count (c.readers + 1))
  first : IsU64 (read_stamp u c.write_count 1)
  optimistic : IsU64 (optimistic_stamp u c.write_count)
  readers : IsU64 c.readers

version_fits : (l : Layout) (k n : ℕ) → k ≤ (units_of l).versions → n ≤ (units_of l).readers + 1 →
    IsU64 ((units_of l).version * (k + 1) + n)
unfolding units_of
version_fits One k n room few = omega arith
version_fits Two k n room few = omega arith

writer_few : (l : Layout) → (units_of l).writer ≤ (units_of l).readers + 1
unfolding units_of
writer_few One = omega arith
writer_few Two = omega arith

issued : (limits : Bounds) (c : Counts) → AreInRange limits → CountsAreWithin limits c → Issued (units limits) c
issued limits c range within =
    let l = limits.layout in
    let room : c.write_count ≤ (units_of l).versions = omega (arith, within.versions, range.versions) in
    let few : c.readers ≤ (units_of l).readers = omega (arith, within.readers, range.readers) in
    let reading = version_fits l c.write_count (c.readers + 1) room (omega (arith, few)) in
    record {
      write = version_fits l c.write_count (units_of l).writer room (writer_few l);
      read = reading;
      first = version_fits l c.write_count 1 room (omega arith);
      optimistic = (let v = version_fits l c.write_count 0 room (omega arith) in omega (arith, v));
      readers = omega (arith, reading);
    }

stamp : (s : ℕ) → IsU64 s → IsProgramReply (Stamp s)
stamp s fits = record { numbers = fits; words = tt }

none : IsProgramReply (Stamp 0)
none = stamp 0 (lit< tt)

done : IsProgramReply Done
done = record { numbers = tt; words = tt }

mismatch : IsProgramReply Mismatch
mismatch = record { numbers = tt; words = tt }

yes_or_no : (b : Bool) → IsProgramReply (if b then Yes else No)
yes_or_no true = record { numbers = tt; words = tt }
yes_or_no false = record { numbers = tt; words = tt }

stamp_if : (b : Bool) (s : ℕ) → IsU64 s → IsProgramReply (Stamp (if b then s else 0))
stamp_if true s fits = stamp s fits
stamp_if false s fits = none

row_replies : (l : Bounds) (c : Counts) → Issued (units l) c → (call : Call) → CallIsU64 call →
    RepliesProgram (row l c call)
row_replies l c i TryWrite fits = either (may_write l c) (with_reply (stamp _ i.write)) (with_reply none)
row_replies l c i TryRead fits = either (may_read l c) (with_reply (stamp _ i.read)) (with_reply none)
row_replies l c i WriteLock fits =
    either (c.write_count == l.versions) (with_reply none)
    (either (may_write l c) (with_reply (stamp _ i.write)) waits)
row_replies l c i ReadLock fits = either (may_read l c) (with_reply (stamp _ i.read)) waits
row_replies l c i Optimistic fits = with_reply (stamp_if (c.writers == 0) _ i.optimistic)
row_replies l c i (Validate s) fits = with_reply (yes_or_no (is_valid (units l) c s))
row_replies l c i (UnlockWrite s) fits =
    either (is_held_write (units l) c s) (with_reply done) (with_reply mismatch)
row_replies l c i (UnlockRead s) fits =
    either (is_held_read (units l) c s) (with_reply done) (with_reply mismatch)
row_replies l c i (Unlock s) fits =
    either (is_held_write (units l) c s) (with_reply done)
    (either (is_held_read (units l) c s) (with_reply done) (with_reply mismatch))
row_replies l c i (ToWrite s) fits =
    either (is_held_write (units l) c s) (with_reply (stamp s fits))
    (either (is_held_read (units l) c s && (c.readers == 1) && nat_lt c.write_count l.versions)
    (with_reply (stamp _ i.write))
    (either ((s == optimistic_stamp (units l) c.write_count) && may_write l c) (with_reply (stamp _ i.write))
    (with_reply none)))
row_replies l c i (ToRead s) fits =
    either (is_held_write (units l) c s) (with_reply (stamp _ i.first))
    (either (is_held_read (units l) c s) (with_reply (stamp s fits))
    (either ((s == optimistic_stamp (units l) c.write_count) && may_read l c) (with_reply (stamp _ i.read))
    (with_reply none)))
row_replies l c i (ToOptimistic s) fits =
    either (is_held_write (units l) c s) (with_reply (stamp _ i.optimistic))
    (either (is_held_read (units l) c s) (with_reply (stamp _ i.optimistic))
    (either ((s == optimistic_stamp (units l) c.write_count) && (c.writers == 0)) (with_reply (stamp s fits))
    (with_reply none)))
row_replies l c i TryUnlockWrite fits =
    either (c.writers == 1) (with_reply (yes_or_no true)) (with_reply (yes_or_no false))
row_replies l c i TryUnlockRead fits =
    either (nat_lt 0 c.readers) (with_reply (yes_or_no true)) (with_reply (yes_or_no false))
row_replies l c i IsWriteLocked fits = with_reply (yes_or_no (c.writers == 1))
row_replies l c i IsReadLocked fits = with_reply (yes_or_no (nat_lt 0 c.readers))
row_replies l c i ReadCount fits = with_reply (record { numbers = i.readers; words = tt })
row_replies l c i Get fits = waits
row_replies l c i (Put words) fits = waits
row_replies l c i (PutIf expected words) fits = waits

some_width : (width : ℕ) → nat_lt 0 width ≡ true → 1 ≤ width
some_width width test = grind (arith, nat_tests)

record_reply : (width : ℕ) (content : List ℕ) (call : Call) (reply : Reply) → width ≤ 16 →
    IsProgramContent width content → IsProgramCall width call → RecordReplies content call reply →
    IsProgramReply reply
record_reply width content Get reply few held call is =
    subst IsProgramReply (sym is)
    (record {
      numbers = held.numbers;
      words = (let some = some_width width call.suits in let each = held.each in
          (omega (arith, each, some), omega (arith, each, few)));
    })
record_reply width content (Put words) reply few held call is = subst IsProgramReply (sym is) done
record_reply width content (PutIf expected words) reply few held call is =
    subst IsProgramReply (sym is) (yes_or_no (same_words content expected))
record_reply width content _ reply few held call is = absurd is

reply_is : (limits : Bounds) (width : ℕ) (events : List LockEvent) (content : List ℕ) (call : Call) (reply : Reply) →
    AreInRange limits → width ≤ 16 → IsWellFormed limits events → IsProgramContent width content →
    IsProgramCall width call → IsReply limits events content call reply → IsProgramReply reply
reply_is limits width events content call reply range few well_formed held is_call = by (is_lock_call call)
  where
    of_lock : (t : Option Transition) → RepliesProgram t → Replies t reply → IsProgramReply reply
    of_lock None fits is = absurd is
    of_lock (Some t) fits is = subst IsProgramReply is (fits.is t refl)

    by : (b : Bool) → MatchBool b (Replies (transition limits events call) reply)
        (RecordReplies content call reply) → IsProgramReply reply
    by true is = of_lock (transition limits events call)
        (row_replies limits (counts events)
        (issued limits (counts events) range (obeys_now limits events well_formed).within) call is_call.numbers) is
    by false is = record_reply width content call reply few held is_call is

put_width : (width n : ℕ) → (nat_lt 0 width && (n == width)) ≡ true → n ≡ width
put_width width n test = grind (arith, nat_tests)

put_if_width : (width m n : ℕ) → (nat_lt 0 width && (m == width) && (n == width)) ≡ true → n ≡ width
put_if_width width m n test = grind (arith, nat_tests)

next_held : (width : ℕ) (content : List ℕ) (call : Call) (reply : Reply) → IsProgramContent width content →
    IsProgramCall width call → IsProgramContent width (content_next content call reply)
next_held width content (Put words) reply held call =
    record { numbers = call.numbers; each = put_width width (length words) call.suits }
next_held width content (PutIf expected words) Yes held call =
    record { numbers = call.numbers.1; each = put_if_width width (length expected) (length words) call.suits }
next_held width content (PutIf expected words) _ held call = held
next_held width content _ reply held call = held

pub replies_are : (limits : Bounds) (width : ℕ) (events : List LockEvent) (content : List ℕ) (entries : List Entry) →
    AreInRange limits → width ≤ 16 → IsWellFormed limits events → IsProgramContent width content →
    All (λ (e : Entry). IsProgramCall width e.call) entries →
    IsLegalFrom limits events content (history_of entries) → All (λ (e : Entry). IsProgramReply e.reply) entries
replies_are limits width events content [] range few well_formed held calls legal =
    All-nil (λ (e : Entry). IsProgramReply e.reply)
replies_are limits width events content (e ∷ es) range few well_formed held calls legal =
    let here = All-head (λ (x : Entry). IsProgramCall width x.call) e es calls in
    All-cons (λ (x : Entry). IsProgramReply x.reply) e es
    (reply_is limits width events content e.call e.reply range few well_formed held here legal.0)
    (replies_are limits width (events ++ appended_by (transition limits events e.call))
    (content_next content e.call e.reply) es range few
    (transition_counts limits events e.call range well_formed).0
    (next_held width content e.call e.reply held here)
    (All-tail (λ (x : Entry). IsProgramCall width x.call) e es calls) legal.1)
