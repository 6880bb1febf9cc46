-- The text of a recorded history reads as that history, and so does its line.
use Rattle.std.proofs.Common.{◌∙◌, ℕ, List, [], ◌∷◌, map, ap, arith, lit<}
use Rattle.std.specs.List.{All}
use Rattle.std.proofs.lemmas.List.Elements.{All-head, All-tail}
use Rattle.serde_json.specs.View.{items_of}
use Rattle.stamp_core.specs.Limits.{AreInRange}
use Rattle.stamp_core.specs.Record.{Recorded, IsRecorded, EntrySuits}
use Rattle.stamp_core.specs.declared.entry.Entry.{Entry}
use Rattle.stamp_history.specs.History.{recorded_in, recorded_of}
use Rattle.stamp_history.specs.HistoryLaws.{EntryIsU64, AreU64, HistoriesReadAgain, LinesReadAgain}
use Rattle.stamp_history.specs.HistoryText.{entry_data, entries_data, history_data, history_text}
use Rattle.stamp_history.specs.JsonReading.{◌>>=◌}
use Rattle.stamp_history.proofs.EntriesReadAgain.{entry_again}
use Rattle.stamp_history.proofs.FieldsReadAgain.{small, fields_again}
use Rattle.stamp_history.proofs.HistoryAgain.{history_found}
use Rattle.stamp_history.proofs.ReadAgain.{ReadsAgain, ItemsReadAgain, no_items_again, item_again, array_again}
use Rattle.stamp_history.proofs.ReadAgain.{text_read, line_read}

items_again : (w : ℕ) (es : List Entry) → All (EntrySuits w) es → All EntryIsU64 es →
    ItemsReadAgain 3 (items_of (map entry_data es))
items_again w [] suit fit = no_items_again 3
items_again w (e ∷ es) suit fit =
    let thread = small e.thread 64 (omega (arith, (All-head (EntrySuits w) e es suit).thread)) (lit< tt) in
    item_again 3 3 (entry_data e) (items_of (map entry_data es)) (omega arith)
    (entry_again e thread (All-head EntryIsU64 e es fit))
    (items_again w es (All-tail (EntrySuits w) e es suit) (All-tail EntryIsU64 e es fit))

entries_again : (w : ℕ) (es : List Entry) → All (EntrySuits w) es → All EntryIsU64 es → ReadsAgain 4 (entries_data es)
entries_again w es suit fit = array_again 3 (items_of (map entry_data es)) (items_again w es suit fit)

written_again : (r : Recorded) → AreInRange r.limits → IsRecorded r → AreU64 r → ReadsAgain 127 (history_data r)
written_again r range known numbers =
    fields_again r.limits.layout r.limits.readers r.limits.versions r.width (entries_data r.entries) r.report range
    known.width (entries_again r.width r.entries known.suit numbers.entries) numbers.report

pub reads_again : HistoriesReadAgain
unfolding recorded_of history_text
reads_again r range known fits numbers =
    ap (λ found. found >>= λ d. recorded_in d) (text_read (history_data r) (written_again r range known numbers))
    ∙ history_found r range known fits

pub lines_read_again : LinesReadAgain
unfolding recorded_of history_text
lines_read_again r range known fits numbers =
    ap (λ found. found >>= λ d. recorded_in d) (line_read (history_data r) (written_again r range known numbers))
    ∙ history_found r range known fits
