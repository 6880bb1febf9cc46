-- A history that was read is one of program values.
use Rattle.std.proofs.Common.{◌≡◌, ◌⊎◌, ◌≤◌, ℕ, List, [], length, Bool, true, false, Option, Some, None, Ok}
use Rattle.std.proofs.Common.{refl, option_map, option_and_then}
use Rattle.std.specs.Prelude.{◌&&◌, ◌==◌, nat_le, codes, if◌then◌else◌}
use Rattle.std.specs.List.{All}
use Rattle.std.specs.Str.{bytes_eq}
use Rattle.std.proofs.lemmas.Bool.{and_parts, leb-true}
use Rattle.std.proofs.lemmas.List.Elements.{All-nil, All-weaker}
use Rattle.serde_json.specs.Data.{Data, null, boolean, number, string, array, object, Items, no_items, item}
use Rattle.serde_json.specs.Events.{items_len}
use Rattle.serde_json.specs.Find as find
use Rattle.stamp_core.specs.Call.{call_suits}
use Rattle.stamp_core.specs.Limits.{AreInRange}
use Rattle.stamp_core.specs.Record.{Recorded, EntrySuits, IsRecorded, HasFewWords, RepliesFit}
use Rattle.stamp_core.specs.declared.call.Call.TheVariants as call
use Rattle.stamp_core.specs.declared.entry.Entry.{Entry}
use Rattle.stamp_core.specs.declared.reply.Reply.{Reply}
use Rattle.stamp_core.specs.declared.reply.Reply.TheVariants.{Stamp, Count, Content}
use Rattle.stamp_machines.specs.declared.script.Arg.{Arg}
use Rattle.stamp_machines.specs.declared.script.Arg.TheVariants.{Number, Of}
use Rattle.stamp_machines.specs.declared.script.ScriptCall.{ScriptCall}
use Rattle.stamp_machines.specs.declared.script.ScriptCall.TheVariants.{Validate, UnlockWrite, UnlockRead}
use Rattle.stamp_machines.specs.declared.script.ScriptCall.TheVariants.{Unlock, ToWrite, ToRead, ToOptimistic}
use Rattle.stamp_machines.specs.declared.script.ScriptCall.TheVariants.{Put, PutIf}
use Rattle.stamp_history.specs.declared.read_error.ReadError.{ReadError}
use Rattle.stamp_history.specs.declared.text_kind.TextKind.TheVariants as text
use Rattle.stamp_history.specs.EntryValue as value
use Rattle.stamp_history.specs.History.{recorded_in, recorded_of}
use Rattle.stamp_history.specs.HistoryCall.{plain_number, as_call, history_call}
use Rattle.stamp_history.specs.HistoryFields.{top, format, width, suited, entry_at, listed_entries, entries}
use Rattle.stamp_history.specs.HistoryFields.{listed_pair, pair_at, counted, listed_report, reported, report}
use Rattle.stamp_history.specs.HistoryLaws.{IsU64, CallIsU64, ReplyIsU64, EntryIsU64, PairIsU64, AreU64}
use Rattle.stamp_history.specs.JsonReading.{◌>>=◌, json_of, ranged, each}
use Rattle.stamp_history.specs.JsonValue.{has_key, has_members, whole, whole_under, list_under}
use Rattle.stamp_history.specs.LimitFields as limit
use Rattle.stamp_history.specs.ReplyValue.{named_reply, reply}
use Rattle.stamp_history.specs.ScriptCallValue.{listed_call, script_call}
use Rattle.stamp_history.specs.WordsValue.{as_words, numbers, words}
use Rattle.stamp_history.proofs.KnownHistory.{ranged_ok, known_width, known_entries, known_report}
use Rattle.stamp_history.proofs.NumbersRead.{Finds, finds, finds_none, finds_mapped, finds_then, finds_either}
use Rattle.stamp_history.proofs.NumbersRead.{DataIsU64, ItemsAreU64, read_u64, get_u64, array_u64, list_u64, whole_u64}
use Rattle.stamp_history.proofs.RunReplies.{ArgIsU64, ScriptCallIsU64}
use Rattle.stamp_history.proofs.ScriptNumbers.{Reads, reads, reads_then, reads_any, reads_kind, reads_each}
use Rattle.stamp_history.proofs.ScriptNumbers.{words_u64, listed_u64, limits_in_range}

finds_both : {A : Type 0} {P Q : A → Type 0} {found : Option A} → Finds P found → Finds Q found →
    Finds (λ x. P x × Q x) found
finds_both {A} {P} {Q} {found} one other = record { is = λ x e. (one.is x e, other.is x e) }

-- of what is there, if both are
finds_next : {A B : Type 0} {P : A → Type 0} {Q : B → Type 0} (found : Option A) (f : A → Option B) →
    Finds P found → ((x : A) → P x → Finds Q (f x)) → Finds Q (value.◌>>=◌ found f)
finds_next None f first more = finds_none
finds_next (Some x) f first more = more x (first.is x refl)

under_u64 : (key : List ℕ) (d : Data) → DataIsU64 d → Finds IsU64 (whole_under key d)
under_u64 key d fits = finds_then whole (find.get key d) (get_u64 key d fits) whole_u64

-- ---- calls and replies

number_u64 : (a : Arg) → ArgIsU64 a → Finds IsU64 (plain_number a)
number_u64 (Number n) fits = finds fits
number_u64 (Of thread index) fits = finds_none

as_call_u64 : (c : ScriptCall) → ScriptCallIsU64 c → Finds CallIsU64 (as_call c)
as_call_u64 (Validate a) fits = finds_mapped call.Validate (plain_number a) (number_u64 a fits) (λ n is. is)
as_call_u64 (UnlockWrite a) fits = finds_mapped call.UnlockWrite (plain_number a) (number_u64 a fits) (λ n is. is)
as_call_u64 (UnlockRead a) fits = finds_mapped call.UnlockRead (plain_number a) (number_u64 a fits) (λ n is. is)
as_call_u64 (Unlock a) fits = finds_mapped call.Unlock (plain_number a) (number_u64 a fits) (λ n is. is)
as_call_u64 (ToWrite a) fits = finds_mapped call.ToWrite (plain_number a) (number_u64 a fits) (λ n is. is)
as_call_u64 (ToRead a) fits = finds_mapped call.ToRead (plain_number a) (number_u64 a fits) (λ n is. is)
as_call_u64 (ToOptimistic a) fits = finds_mapped call.ToOptimistic (plain_number a) (number_u64 a fits) (λ n is. is)
as_call_u64 (Put words) fits = finds fits
as_call_u64 (PutIf expected words) fits = finds fits
as_call_u64 _ fits = finds tt

call_u64 : (d : Data) → DataIsU64 d → Finds CallIsU64 (history_call d)
call_u64 d fits = finds_then as_call (script_call d)
    (finds_then listed_call (find.as_array d) (array_u64 d fits) listed_u64) as_call_u64

-- words are 1 to 16
few_words : (ns : List ℕ) → Finds (λ (ws : List ℕ). (1 ≤ length ws) × (length ws ≤ 16)) (as_words ns)
few_words ns = by (nat_le 1 (length ns) && nat_le (length ns) 16) refl
  where
    by : (b : Bool) → (nat_le 1 (length ns) && nat_le (length ns) 16) ≡ b →
        Finds (λ (ws : List ℕ). (1 ≤ length ws) × (length ws ≤ 16)) (if b then Some ns else None)
    by true e =
        let both = and_parts (nat_le 1 (length ns)) (nat_le (length ns) 16) e in
        finds (leb-true 1 (length ns) both.0, leb-true (length ns) 16 both.1)
    by false e = finds_none

words_few : (ds : Items) → Finds (λ (ws : List ℕ). (1 ≤ length ws) × (length ws ≤ 16)) (words (array ds))
words_few ds = by (numbers ds)
  where
    by : (found : Option (List ℕ)) → Finds (λ (ws : List ℕ). (1 ≤ length ws) × (length ws ≤ 16))
        (option_and_then as_words found)
    by None = finds_none
    by (Some ns) = few_words ns

-- a reply of program values
abbrev IsProgram : Reply → Type 0
IsProgram r = ReplyIsU64 r × HasFewWords r

named_program : (name : List ℕ) → Finds IsProgram (named_reply name)
named_program name =
    finds_either (bytes_eq name (codes "yes")) (finds (tt, tt))
    (finds_either (bytes_eq name (codes "no")) (finds (tt, tt))
    (finds_either (bytes_eq name (codes "done")) (finds (tt, tt))
    (finds_either (bytes_eq name (codes "mismatch")) (finds (tt, tt)) finds_none)))

reply_program : (d : Data) → DataIsU64 d → Finds IsProgram (reply d)
reply_program null fits = finds_none
reply_program (boolean b) fits = finds_none
reply_program (number n) fits = finds_mapped Stamp (find.as_u64 n) (whole_u64 (number n) fits) (λ s is. (is, tt))
reply_program (string name) fits = named_program name
reply_program (array ds) fits =
    finds_mapped Content (words (array ds)) (finds_both (words_u64 (array ds) fits) (words_few ds)) (λ ws is. is)
reply_program (object ms) fits =
    finds_either (has_members 1 (object ms)) (finds_mapped Count (whole_under (codes "count") (object ms))
    (under_u64 (codes "count") (object ms) fits) (λ n is. (is, tt))) finds_none

-- ---- entries and the report

record IsProgramEntry (e : Entry) : Type 0 where
  numbers : EntryIsU64 e
  words : HasFewWords e.reply

entry_program : (d : Data) → DataIsU64 d → Finds IsProgramEntry (value.entry d)
unfolding value.entry
entry_program d fits =
    finds_next (find.get (codes "call") d) _ (get_u64 (codes "call") d fits) (λ called c.
    finds_next (history_call called) _ (call_u64 called c) (λ done is_call.
    finds_next (whole_under (codes "first") d) _ (under_u64 (codes "first") d fits) (λ first f.
    finds_next (whole_under (codes "last") d) _ (under_u64 (codes "last") d fits) (λ last l.
    finds_next (whole_under (codes "point") d) _ (under_u64 (codes "point") d fits) (λ point p.
    finds_next (find.get (codes "reply") d) _ (get_u64 (codes "reply") d fits) (λ replied r.
    finds_next (reply replied) _ (reply_program replied r) (λ answer is_reply.
    finds_next (whole_under (codes "thread") d) _ (under_u64 (codes "thread") d fits) (λ thread t.
    finds_either (has_members 6 d) (finds (record {
      numbers = record { call = is_call; first = f; last = l; point = p; reply = is_reply.0 };
      words = is_reply.1;
    })) finds_none))))))))

reads_found : {A : Type 0} {P : A → Type 0} (mistake over : ReadError) (test : A → Bool) (found : Option A) →
    Finds P found → Reads P (ranged mistake over test found)
reads_found mistake over test found first = record {
  is = λ x e. first.is x (ranged_ok mistake over test found x e).0;
}

entry_read : (w i : ℕ) (d : Data) → DataIsU64 d → Reads IsProgramEntry (entry_at w i d)
entry_read w i d fits =
    reads_found _ _ _ _ (finds_then (suited w) (value.entry d) (entry_program d fits)
    (λ e is. finds_either (call_suits w e.call) (finds is) finds_none))

entries_read : (w : ℕ) (d : Data) → DataIsU64 d → Reads (All IsProgramEntry) (entries w d)
unfolding entries
entries_read w d fits =
    reads_then (listed_entries d) (each (entry_at w) 0)
    (reads_found _ _ _ _ (list_u64 (codes "entries") d fits))
    (λ ds items. reads_each (entry_at w) (entry_read w) 0 ds items)

listed_pair_u64 : (ds : Items) → ItemsAreU64 ds → Finds PairIsU64 (listed_pair ds)
listed_pair_u64 no_items fits = finds_none
listed_pair_u64 (item own no_items) fits = finds_none
listed_pair_u64 (item own (item changes no_items)) fits =
    finds_then (λ n. option_map (λ m. (n, m)) (whole changes)) (whole own) (whole_u64 own fits.0)
    (λ n is. finds_mapped (λ m. (n, m)) (whole changes) (whole_u64 changes fits.1.0) (λ m also. (is, also)))
listed_pair_u64 (item own (item changes (item further rest))) fits = finds_none

pair_read : (i : ℕ) (d : Data) → DataIsU64 d → Reads PairIsU64 (pair_at i d)
pair_read i d fits = reads_kind _ _ (finds_then listed_pair (find.as_array d) (array_u64 d fits) listed_pair_u64)

reported_read : (count : ℕ) (d : Data) → DataIsU64 d → Reads (All PairIsU64) (reported count d)
unfolding reported
reported_read count d fits =
    reads_then (listed_report count d) (each pair_at 0)
    (reads_kind _ _ (finds_then (counted count) (list_under (codes "report") d) (list_u64 (codes "report") d fits)
    (λ ds items. finds_either (items_len ds == count) (finds items) finds_none)))
    (λ ds items. reads_each pair_at pair_read 0 ds items)

report_read : (count : ℕ) (d : Data) → DataIsU64 d → Reads (All PairIsU64) (report count d)
report_read count d fits = by (has_key (codes "report") d)
  where
    by : (b : Bool) → Reads (All PairIsU64) (if b then reported count d else Ok [])
    by true = reported_read count d fits
    by false = reads (All-nil PairIsU64)

-- ---- the whole

entries_known : (w : ℕ) (d : Data) → DataIsU64 d → Reads (λ (es : List Entry). ((length es ≤ 640000) ×
    All (EntrySuits w) es) × All IsProgramEntry es) (entries w d)
entries_known w d fits = record { is = λ es e. (known_entries w d es e, (entries_read w d fits).is es e) }

report_known : (count : ℕ) (d : Data) → DataIsU64 d → Reads (λ (pairs : List (ℕ × ℕ)). ((length pairs ≡ 0) ⊎
    (length pairs ≡ count)) × All PairIsU64 pairs) (report count d)
report_known count d fits = record {
  is = λ pairs e. (known_report count d pairs e, (report_read count d fits).is pairs e);
}

-- what a program holds of a history, and what its text says of it
pub record IsProgramHistory (r : Recorded) : Type 0 where
  pub range : AreInRange r.limits
  pub known : IsRecorded r
  pub replies : RepliesFit r.entries
  pub numbers : AreU64 r

history_read : (d : Data) → DataIsU64 d → Reads IsProgramHistory (recorded_in d)
unfolding recorded_in
history_read d fits =
    reads_then (top d) _ (reads_any _) (λ _ _.
    reads_then (format d) _ (reads_any _) (λ _ _.
    reads_then (limit.limits text.History d) _ (limits_in_range text.History d) (λ limits range.
    reads_then (width d) _ (record { is = known_width d }) (λ w narrow.
    reads_then (entries w d) _ (entries_known w d fits) (λ es all.
    reads_then (report (length es) d) _ (report_known (length es) d fits) (λ pairs reported. reads (record {
      range = range;
      known = record { width = narrow; entries = all.0.0; report = reported.0; suit = all.0.1 };
      replies = All-weaker IsProgramEntry (λ (e : Entry). HasFewWords e.reply) (λ e is. is.words) es all.1;
      numbers = record {
        entries = All-weaker IsProgramEntry EntryIsU64 (λ e is. is.numbers) es all.1;
        report = reported.1;
      };
    })))))))

pub program_history : (bytes : List ℕ) (r : Recorded) → recorded_of bytes ≡ Ok r → IsProgramHistory r
unfolding recorded_of
program_history bytes r e = all.is r e
  where
    all : Reads IsProgramHistory (json_of bytes >>= λ d. recorded_in d)
    all = reads_then (json_of bytes) _ (reads_kind _ _ (read_u64 bytes)) history_read
