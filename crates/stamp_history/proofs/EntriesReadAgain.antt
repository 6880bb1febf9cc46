-- Entries and reports read again from their text.
use Rattle.std.proofs.Common.{◌≡◌, ℕ, List, [], ◌∷◌, map, refl, true, arith, codes}
use Rattle.std.specs.List.{All}
use Rattle.std.proofs.lemmas.List.Elements.{All-head, All-tail}
use Rattle.json.proofs.Printed.Utf8.{are_ascii}
use Rattle.serde_json.specs.Data.{Data, string, no_items, item, no_members, member}
use Rattle.serde_json.specs.View.{items_of}
use Rattle.stamp_core.specs.declared.call.Call.{Call}
use Rattle.stamp_core.specs.declared.call.Call.TheVariants.{TryWrite, TryRead, WriteLock, ReadLock}
use Rattle.stamp_core.specs.declared.call.Call.TheVariants.{Optimistic, Validate, UnlockWrite}
use Rattle.stamp_core.specs.declared.call.Call.TheVariants.{UnlockRead, Unlock, ToWrite, ToRead}
use Rattle.stamp_core.specs.declared.call.Call.TheVariants.{ToOptimistic, TryUnlockWrite}
use Rattle.stamp_core.specs.declared.call.Call.TheVariants.{TryUnlockRead, IsWriteLocked}
use Rattle.stamp_core.specs.declared.call.Call.TheVariants.{IsReadLocked, ReadCount, Get, Put}
use Rattle.stamp_core.specs.declared.call.Call.TheVariants.{PutIf}
use Rattle.stamp_core.specs.declared.entry.Entry.{Entry}
use Rattle.stamp_core.specs.declared.reply.Reply.{Reply}
use Rattle.stamp_core.specs.declared.reply.Reply.TheVariants.{Stamp, Yes, No, Done, Mismatch, Count, Content}
use Rattle.stamp_history.specs.HistoryLaws.{IsU64, CallIsU64, ReplyIsU64, EntryIsU64, PairIsU64}
use Rattle.stamp_history.specs.HistoryText.{call_name, arguments, call_data, entry_data, pair_data, report_data}
use Rattle.stamp_history.specs.ReplayText.{number_data, words_data, reply_data}
use Rattle.stamp_history.proofs.ReadAgain.{ReadsAgain, ItemsReadAgain, number_again, string_again}
use Rattle.stamp_history.proofs.ReadAgain.{no_items_again, item_again, array_again}
use Rattle.stamp_history.proofs.ReadAgain.{no_members_again, member_again, object_again}

numbers_again : (ns : List ℕ) → All IsU64 ns → ItemsReadAgain 0 (items_of (map number_data ns))
numbers_again [] fit = no_items_again 0
numbers_again (n ∷ ns) fit = item_again 0 0 (number_data n) (items_of (map number_data ns)) (omega arith)
    (number_again n (All-head IsU64 n ns fit)) (numbers_again ns (All-tail IsU64 n ns fit))

words_again : (ws : List ℕ) → All IsU64 ws → ReadsAgain 1 (words_data ws)
words_again ws fit = array_again 0 (items_of (map number_data ws)) (numbers_again ws fit)

name_again : (c : Call) → ReadsAgain 0 (string (call_name c))
name_again c = string_again (call_name c) (by c)
  where
    by : (c : Call) → are_ascii (call_name c) ≡ true
    by TryWrite = refl
    by TryRead = refl
    by WriteLock = refl
    by ReadLock = refl
    by Optimistic = refl
    by (Validate stamp) = refl
    by (UnlockWrite stamp) = refl
    by (UnlockRead stamp) = refl
    by (Unlock stamp) = refl
    by (ToWrite stamp) = refl
    by (ToRead stamp) = refl
    by (ToOptimistic stamp) = refl
    by TryUnlockWrite = refl
    by TryUnlockRead = refl
    by IsWriteLocked = refl
    by IsReadLocked = refl
    by ReadCount = refl
    by Get = refl
    by (Put words) = refl
    by (PutIf expected words) = refl

stamp_again : (stamp : ℕ) → IsU64 stamp → ItemsReadAgain 1 (item (number_data stamp) no_items)
stamp_again stamp fits = item_again 0 1 (number_data stamp) no_items (omega arith) (number_again stamp fits)
    (no_items_again 1)

arguments_again : (c : Call) → CallIsU64 c → ItemsReadAgain 1 (arguments c)
arguments_again (Validate stamp) fits = stamp_again stamp fits
arguments_again (UnlockWrite stamp) fits = stamp_again stamp fits
arguments_again (UnlockRead stamp) fits = stamp_again stamp fits
arguments_again (Unlock stamp) fits = stamp_again stamp fits
arguments_again (ToWrite stamp) fits = stamp_again stamp fits
arguments_again (ToRead stamp) fits = stamp_again stamp fits
arguments_again (ToOptimistic stamp) fits = stamp_again stamp fits
arguments_again (Put words) fits = item_again 1 1 (words_data words) no_items (omega arith) (words_again words fits)
    (no_items_again 1)
arguments_again (PutIf expected words) fits =
    item_again 1 1 (words_data expected) (item (words_data words) no_items) (omega arith) (words_again expected fits.0)
    (item_again 1 1 (words_data words) no_items (omega arith) (words_again words fits.1) (no_items_again 1))
arguments_again _ fits = no_items_again 1

pub call_again : (c : Call) → CallIsU64 c → ReadsAgain 2 (call_data c)
call_again c fits = array_again 1 (item (string (call_name c)) (arguments c))
    (item_again 0 1 (string (call_name c)) (arguments c) (omega arith) (name_again c) (arguments_again c fits))

shallow : (d : Data) → ReadsAgain 0 d → ReadsAgain 2 d
shallow d again = record {
  numbers = again.numbers;
  depth = omega (arith, again.depth);
  same = again.same;
  utf8 = again.utf8;
}

count_again : (n : ℕ) → IsU64 n → ReadsAgain 2 (reply_data (Count n))
count_again n fits =
    let number = number_again n fits in
    object_again 1 (member (codes "count") (number_data n) no_members)
    (member_again 0 1 (codes "count") (number_data n) no_members (omega arith) refl number (no_members_again 1))
    (rw number.same refl)

content_again : (ws : List ℕ) → All IsU64 ws → ReadsAgain 2 (words_data ws)
content_again ws fit =
    let again = words_again ws fit in
    record {
      numbers = again.numbers;
      depth = omega (arith, again.depth);
      same = again.same;
      utf8 = again.utf8;
    }

pub reply_again : (r : Reply) → ReplyIsU64 r → ReadsAgain 2 (reply_data r)
reply_again (Stamp n) fits = shallow (number_data n) (number_again n fits)
reply_again Yes fits = shallow (string (codes "yes")) (string_again (codes "yes") refl)
reply_again No fits = shallow (string (codes "no")) (string_again (codes "no") refl)
reply_again Done fits = shallow (string (codes "done")) (string_again (codes "done") refl)
reply_again Mismatch fits = shallow (string (codes "mismatch")) (string_again (codes "mismatch") refl)
reply_again (Count n) fits = count_again n fits
reply_again (Content ws) fits = content_again ws fits

pub entry_again : (e : Entry) → IsU64 e.thread → EntryIsU64 e → ReadsAgain 3 (entry_data e)
entry_again e thread_fits fits =
    let call = call_again e.call fits.call in
    let first = number_again e.first fits.first in
    let last = number_again e.last fits.last in
    let point = number_again e.point fits.point in
    let reply = reply_again e.reply fits.reply in
    let thread = number_again e.thread thread_fits in
    object_again 2 _
    (member_again 2 2 (codes "call") (call_data e.call) _ (omega arith) refl call
    (member_again 0 2 (codes "first") (number_data e.first) _ (omega arith) refl first
    (member_again 0 2 (codes "last") (number_data e.last) _ (omega arith) refl last
    (member_again 0 2 (codes "point") (number_data e.point) _ (omega arith) refl point
    (member_again 2 2 (codes "reply") (reply_data e.reply) _ (omega arith) refl reply
    (member_again 0 2 (codes "thread") (number_data e.thread) no_members (omega arith) refl thread
    (no_members_again 2)))))))
    (rw (call.same, first.same, last.same, point.same, reply.same, thread.same) refl)

pair_again : (p : ℕ × ℕ) → IsU64 p.0 → IsU64 p.1 → ReadsAgain 1 (pair_data p)
pair_again p own changes = array_again 0 (item (number_data p.0) (item (number_data p.1) no_items))
    (item_again 0 0 (number_data p.0) (item (number_data p.1) no_items) (omega arith) (number_again p.0 own)
    (item_again 0 0 (number_data p.1) no_items (omega arith) (number_again p.1 changes) (no_items_again 0)))

pairs_again : (ps : List (ℕ × ℕ)) → All PairIsU64 ps → ItemsReadAgain 1 (items_of (map pair_data ps))
pairs_again [] fit = no_items_again 1
pairs_again (p ∷ ps) fit =
    let head = All-head PairIsU64 p ps fit in
    item_again 1 1 (pair_data p) (items_of (map pair_data ps)) (omega arith) (pair_again p head.0 head.1)
    (pairs_again ps (All-tail PairIsU64 p ps fit))

pub report_again : (ps : List (ℕ × ℕ)) → All PairIsU64 ps → ReadsAgain 2 (report_data ps)
report_again ps fit = array_again 1 (items_of (map pair_data ps)) (pairs_again ps fit)
