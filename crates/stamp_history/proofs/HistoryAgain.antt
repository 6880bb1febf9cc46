-- The value of a recorded history is read as that history, and so is its text.
use Rattle.std.proofs.Common.{◌≡◌, ◌∙◌, ◌≤◌, ◌==◌, ◌&&◌, ℕ, ◌+◌, List, [], ◌∷◌, length, map, refl}
use Rattle.std.proofs.Common.{ap, arith, true, Some, Ok}
use Rattle.std.specs.Prelude.{nat_lt}
use Rattle.std.specs.List.{All}
use Rattle.std.proofs.lemmas.Bool.{le-leb, lt-ltb}
use Rattle.std.proofs.lemmas.Bool.Decides.{nat_tests}
use Rattle.std.proofs.lemmas.List.Elements.{All-head, All-tail}
use Rattle.serde_json.specs.Data.{Data}
use Rattle.serde_json.specs.Events.{items_len}
use Rattle.serde_json.specs.View.{items_of}
use Rattle.stamp_core.specs.Call.{call_suits}
use Rattle.stamp_core.specs.Limits.{Bounds, AreInRange, bounds}
use Rattle.stamp_core.specs.Record.{Recorded, recorded, IsRecorded, EntrySuits, HasFewWords, RepliesFit}
use Rattle.stamp_core.specs.declared.layout.Layout.{Layout}
use Rattle.stamp_core.specs.declared.layout.Layout.TheVariants.{One, Two}
use Rattle.stamp_core.specs.declared.call.Call.{Call}
use Rattle.stamp_core.specs.declared.call.Call.TheVariants.{Put, PutIf}
use Rattle.stamp_core.specs.declared.entry.Entry.{Entry}
use Rattle.stamp_core.specs.declared.reply.Reply.{Reply}
use Rattle.stamp_core.specs.declared.reply.Reply.TheVariants.{Content}
use Rattle.stamp_history.specs.declared.text_kind.TextKind.TheVariants as text
use Rattle.stamp_history.specs.EntryValue as value
use Rattle.stamp_history.specs.History.{recorded_in}
use Rattle.stamp_history.specs.HistoryCall.{history_call}
use Rattle.stamp_history.specs.HistoryFields.{top, format, width, entry_at, entries, report}
use Rattle.stamp_history.specs.HistoryText.{call_data, entry_data, entries_data, with_entries, history_data}
use Rattle.stamp_history.specs.LimitFields as limit
use Rattle.stamp_history.specs.JsonReading.{◌>>=◌, each}
use Rattle.stamp_history.specs.ReplayText.{number_data, words_data, reply_data}
use Rattle.stamp_history.specs.ReplyValue.{reply}
use Rattle.stamp_history.specs.WordsValue.{numbers, words}
use Rattle.stamp_history.proofs.FieldsFound.{fields_found, listed_found, mapped_len, report_found}

numbers_found : (ws : List ℕ) → numbers (items_of (map number_data ws)) ≡ Some ws
numbers_found [] = refl
numbers_found (w ∷ ws) = rw (numbers_found ws) refl

words_found : (ws : List ℕ) → 1 ≤ length ws → length ws ≤ 16 → words (words_data ws) ≡ Some ws
words_found ws some few = rw (numbers_found ws, le-leb 1 (length ws) some, le-leb (length ws) 16 few) refl

of_width : (w : ℕ) (ws : List ℕ) → w ≤ 16 → (nat_lt 0 w && (length ws == w)) ≡ true →
    (1 ≤ length ws) × (length ws ≤ 16)
of_width w ws most t = (grind (arith, nat_tests), grind (arith, nat_tests))

of_width_both : (w : ℕ) (es ws : List ℕ) → w ≤ 16 → (nat_lt 0 w && (length es == w) && (length ws == w)) ≡ true →
    (1 ≤ length es) × (length es ≤ 16) × (1 ≤ length ws) × (length ws ≤ 16)
of_width_both w es ws most t = (
  grind (arith, nat_tests),
  grind (arith, nat_tests),
  grind (arith, nat_tests),
  grind (arith, nat_tests),
)

pub call_found : (w : ℕ) (c : Call) → w ≤ 16 → call_suits w c ≡ true → history_call (call_data c) ≡ Some c
call_found w (Put ws) most suits = let n = of_width w ws most suits in rw (words_found ws n.0 n.1) refl
call_found w (PutIf es ws) most suits = let n = of_width_both w es ws most suits in
    rw (words_found es n.0 n.1, words_found ws n.2 n.3) refl
call_found w _ most suits = refl

pub reply_found : (r : Reply) → HasFewWords r → reply (reply_data r) ≡ Some r
reply_found (Content ws) fits = rw (words_found ws fits.0 fits.1) refl
reply_found _ fits = refl

entry_found : (w : ℕ) (e : Entry) → w ≤ 16 → EntrySuits w e → HasFewWords e.reply → value.entry (entry_data e) ≡ Some e
unfolding value.entry
entry_found w e most suits fits = rw (call_found w e.call most suits.call, reply_found e.reply fits) refl

entries_found : (w i : ℕ) (es : List Entry) → w ≤ 16 → All (EntrySuits w) es → RepliesFit es →
    each (entry_at w) i (items_of (map entry_data es)) ≡ Ok es
entries_found w i [] most suit fit = refl
entries_found w i (e ∷ es) most suit fit =
    let s = All-head (EntrySuits w) e es suit in
    let t = s.call in
    rw (
      entry_found w e most s (All-head (λ (x : Entry). HasFewWords x.reply) e es fit),
      t,
      lt-ltb e.thread 64 s.thread,
      entries_found w (i + 1) es most (All-tail (EntrySuits w) e es suit)
          (All-tail (λ (x : Entry). HasFewWords x.reply) e es fit),
    ) refl

top_found : (l : Layout) (readers versions w : ℕ) (d : Data) (ps : List (ℕ × ℕ)) →
    top (with_entries d (bounds l readers versions) w ps) ≡ Ok tt
top_found One readers versions w d [] = refl
top_found One readers versions w d (p ∷ ps) = refl
top_found Two readers versions w d [] = refl
top_found Two readers versions w d (p ∷ ps) = refl

pub history_found : (r : Recorded) → AreInRange r.limits → IsRecorded r → RepliesFit r.entries →
    recorded_in (history_data r) ≡ Ok r
unfolding recorded_in entries
history_found r range known fits =
    let l = r.limits.layout in
    let readers = r.limits.readers in
    let versions = r.limits.versions in
    let d = entries_data r.entries in
    let ds = items_of (map entry_data r.entries) in
    let few : items_len ds ≤ 640000 = omega (arith, mapped_len entry_data r.entries, known.entries) in
    let written = history_data r in
    let reported = λ (es : List Entry). report (length es) written >>= λ ps. Ok (recorded r.limits r.width es ps) in
    let rest = λ (limits : Bounds) (w : ℕ).
    entries w written >>= λ es. report (length es) written >>= λ ps. Ok (recorded limits w es ps) in
    ap (λ found. found >>= λ _. format written >>= λ _. limit.limits text.History written >>= λ limits.
    width written >>= rest limits) (top_found l readers versions r.width d r.report)
    ∙ fields_found l readers versions r.width d r.report range known.width rest
    ∙ ap (λ found. found >>= reported) (listed_found (entry_at r.width) ds r.entries r.limits r.width r.report few
    (entries_found r.width 0 r.entries known.width known.suit fits))
    ∙ ap (λ found. found >>= λ ps. Ok (recorded r.limits r.width r.entries ps))
    (report_found l readers versions r.width d r.report (length r.entries) known.report)
