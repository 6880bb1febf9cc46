-- The text of an observed history reads as that history.
use Rattle.std.proofs.Common.{◌≡◌, ◌≤◌, ◌<◌, ◌∙◌, ℕ, ◌+◌, List, [], ◌∷◌, map, refl, ap, true, arith, codes}
use Rattle.std.proofs.Common.{lit<, Option, Some, None, Ok}
use Rattle.std.specs.Prelude.{IsTrue, MatchOption}
use Rattle.std.specs.List.{All}
use Rattle.std.proofs.lemmas.Bool.{lt-ltb}
use Rattle.std.proofs.lemmas.List.Elements.{All-nil, All-head, All-tail}
use Rattle.serde_json.specs.Data.{Data, no_members}
use Rattle.serde_json.specs.Events.{items_len}
use Rattle.serde_json.specs.View.{items_of}
use Rattle.stamp_core.specs.Call.{call_suits}
use Rattle.stamp_core.specs.Limits.{Bounds, AreInRange, bounds}
use Rattle.stamp_core.specs.declared.call.Call.{Call}
use Rattle.stamp_core.specs.declared.layout.Layout.{Layout}
use Rattle.stamp_core.specs.declared.layout.Layout.TheVariants.{One, Two}
use Rattle.stamp_explain.specs.declared.observed.Observation.{Observation}
use Rattle.stamp_explain.specs.declared.observed.Returned.{Returned}
use Rattle.stamp_explain.specs.Observed.{ObservedHistory, observed_as, IsLow, IsSmall}
use Rattle.stamp_history.specs.declared.text_kind.TextKind.TheVariants as text
use Rattle.stamp_history.specs.HistoryFields.{format, width}
use Rattle.stamp_history.specs.HistoryLaws.{IsU64, CallIsU64, PairIsU64}
use Rattle.stamp_history.specs.HistoryText.{call_data, with_entries}
use Rattle.stamp_history.specs.LimitFields as limit
use Rattle.stamp_history.specs.JsonReading.{◌>>=◌, each}
use Rattle.stamp_history.specs.ReplayText.{number_data, reply_data}
use Rattle.stamp_history.proofs.EntriesReadAgain.{call_again, reply_again}
use Rattle.stamp_history.proofs.FieldsFound.{fields_found, listed_found, mapped_len}
use Rattle.stamp_history.proofs.FieldsReadAgain.{small, fields_again}
use Rattle.stamp_history.proofs.HistoryAgain.{call_found, reply_found}
use Rattle.stamp_history.proofs.ReadAgain.{ReadsAgain, ItemsReadAgain, number_again, no_items_again, item_again}
use Rattle.stamp_history.proofs.ReadAgain.{array_again, no_members_again, member_again, object_again, text_read}
use Rattle.stamp_observed.specs.inner.ProgramValue.{ReturnIsProgramValue, ObservationIsProgramValue}
use Rattle.stamp_observed.specs.ObservationValue as value
use Rattle.stamp_observed.specs.ObservedFields.{top, ends_in_range, entry_at, entries}
use Rattle.stamp_observed.specs.ObservedReading.{observed_in, observed_of}
use Rattle.stamp_observed.specs.ObservedText.{observation_data, observations_data, observed_data, observed_text}
use Rattle.stamp_observed.specs.Suited.{AreSuited}

-- a call of an observed history from its parts
abbrev made : ℕ → Call → ℕ → Option Returned → Observation
made thread call first returned = record { thread = thread; call = call; first = first; returned = returned }

parts_found : (w thread : ℕ) (call : Call) (first : ℕ) (returned : Option Returned) → w ≤ 16 → call_suits w call ≡
    true → MatchOption returned (Unit {0}) ReturnIsProgramValue →
    value.observation (observation_data (made thread call first returned)) ≡ Some (made thread call first returned)
unfolding value.observation value.returned
parts_found w thread call first None most suits is_value = rw (call_found w call most suits) refl
parts_found w thread call first (Some r) most suits is_value =
    rw (call_found w call most suits, reply_found r.reply is_value.words) refl

in_range : (returned : Option Returned) → MatchOption returned (Unit {0}) (λ (r : Returned). r.last <
    288230376151711744) → ends_in_range returned ≡ true
in_range None low = refl
in_range (Some r) low = lt-ltb r.last 288230376151711744 low

entries_found : (w i : ℕ) (es : List Observation) → w ≤ 16 → All (λ (e : Observation). e.thread < 64) es →
    All (λ (e : Observation). IsTrue (call_suits w e.call)) es → All IsLow es → All ObservationIsProgramValue es →
    each (entry_at w) i (items_of (map observation_data es)) ≡ Ok es
entries_found w i [] most threads suit low are_values = refl
entries_found w i (e ∷ es) most threads suit low are_values =
    let suits : call_suits w e.call ≡ true = All-head (λ (x : Observation). IsTrue (call_suits w x.call)) e es suit in
    let here = All-head IsLow e es low in
    let is_value = All-head ObservationIsProgramValue e es are_values in
    rw (
      parts_found w e.thread e.call e.first e.returned most suits is_value.returned,
      suits,
      lt-ltb e.thread 64 (All-head (λ (x : Observation). x.thread < 64) e es threads),
      lt-ltb e.first 288230376151711744 here.first,
      in_range e.returned here.last,
      entries_found w (i + 1) es most (All-tail (λ (x : Observation). x.thread < 64) e es threads)
          (All-tail (λ (x : Observation). IsTrue (call_suits w x.call)) e es suit) (All-tail IsLow e es low)
          (All-tail ObservationIsProgramValue e es are_values),
    ) refl

top_found : (l : Layout) (readers versions w : ℕ) (d : Data) → top (with_entries d (bounds l readers versions) w []) ≡
    Ok tt
top_found One readers versions w d = refl
top_found Two readers versions w d = refl

observed_found : (h : ObservedHistory) → AreInRange h.limits → IsSmall h → AreSuited h →
    All ObservationIsProgramValue h.entries → observed_in (observed_data h) ≡ Ok h
unfolding observed_in entries
observed_found h range known suited are_values =
    let l = h.limits.layout in
    let readers = h.limits.readers in
    let versions = h.limits.versions in
    let ds = items_of (map observation_data h.entries) in
    let few : items_len ds ≤ 640000 = omega (arith, mapped_len observation_data h.entries, known.entries) in
    let written = observed_data h in
    let rest = λ (limits : Bounds) (w : ℕ). entries w written >>= λ es. Ok (observed_as limits w es) in
    ap (λ found. found >>= λ _. format written >>= λ _. limit.limits text.History written >>= λ limits.
    width written >>= rest limits) (top_found l readers versions h.width (observations_data h.entries))
    ∙ fields_found l readers versions h.width (observations_data h.entries) [] range known.width rest
    ∙ ap (λ found. found >>= λ es. Ok (observed_as h.limits h.width es))
    (listed_found (entry_at h.width) ds h.entries h.limits h.width [] few
    (entries_found h.width 0 h.entries known.width suited.threads suited.suit known.positions are_values))

parts_again : (thread : ℕ) (call : Call) (first : ℕ) (returned : Option Returned) → IsU64 thread → CallIsU64 call →
    IsU64 first → MatchOption returned (Unit {0}) (λ (r : Returned). IsU64 r.last) →
    MatchOption returned (Unit {0}) ReturnIsProgramValue →
    ReadsAgain 3 (observation_data (made thread call first returned))
parts_again thread call first None thread_fits call_fits first_fits low is_value =
    let called = call_again call call_fits in
    let began = number_again first first_fits in
    let by = number_again thread thread_fits in
    object_again 2 _
    (member_again 2 2 (codes "call") (call_data call) _ (omega arith) refl called
    (member_again 0 2 (codes "first") (number_data first) _ (omega arith) refl began
    (member_again 0 2 (codes "thread") (number_data thread) no_members (omega arith) refl by (no_members_again 2))))
    (rw (called.same, began.same, by.same) refl)
parts_again thread call first (Some r) thread_fits call_fits first_fits low is_value =
    let called = call_again call call_fits in
    let began = number_again first first_fits in
    let last = number_again r.last low in
    let reply = reply_again r.reply is_value.numbers in
    let by = number_again thread thread_fits in
    object_again 2 _
    (member_again 2 2 (codes "call") (call_data call) _ (omega arith) refl called
    (member_again 0 2 (codes "first") (number_data first) _ (omega arith) refl began
    (member_again 0 2 (codes "last") (number_data r.last) _ (omega arith) refl last
    (member_again 2 2 (codes "reply") (reply_data r.reply) _ (omega arith) refl reply
    (member_again 0 2 (codes "thread") (number_data thread) no_members (omega arith) refl by (no_members_again 2))))))
    (rw (called.same, began.same, last.same, reply.same, by.same) refl)

low_fits : (n : ℕ) → n < 288230376151711744 → IsU64 n
low_fits n low = small n 288230376151711744 (omega (arith, low)) (lit< tt)

returns_fit : (returned : Option Returned) → MatchOption returned (Unit {0}) (λ (r : Returned). r.last <
    288230376151711744) → MatchOption returned (Unit {0}) (λ (r : Returned). IsU64 r.last)
returns_fit None low = tt
returns_fit (Some r) low = low_fits r.last low

items_again : (es : List Observation) → All (λ (e : Observation). e.thread < 64) es → All IsLow es →
    All ObservationIsProgramValue es → ItemsReadAgain 3 (items_of (map observation_data es))
items_again [] threads low are_values = no_items_again 3
items_again (e ∷ es) threads low are_values =
    let thread = small e.thread 64 (omega (arith, All-head (λ (x : Observation). x.thread < 64) e es threads))
    (lit< tt) in
    let here = All-head IsLow e es low in
    let is_value = All-head ObservationIsProgramValue e es are_values in
    item_again 3 3 (observation_data e) (items_of (map observation_data es)) (omega arith)
    (parts_again e.thread e.call e.first e.returned thread is_value.call (low_fits e.first here.first)
    (returns_fit e.returned here.last) is_value.returned)
    (items_again es (All-tail (λ (x : Observation). x.thread < 64) e es threads) (All-tail IsLow e es low)
    (All-tail ObservationIsProgramValue e es are_values))

pub reads_again : (h : ObservedHistory) → AreInRange h.limits → IsSmall h → AreSuited h →
    All ObservationIsProgramValue h.entries → observed_of (observed_text h) ≡ Ok h
unfolding observed_of observed_text
reads_again h range known suited are_values =
    ap (λ found. found >>= λ d. observed_in d)
    (text_read (observed_data h)
    (fields_again h.limits.layout h.limits.readers h.limits.versions h.width (observations_data h.entries) [] range
    known.width
    (array_again 3 (items_of (map observation_data h.entries))
    (items_again h.entries suited.threads known.positions are_values)) (All-nil PairIsU64)))
    ∙ observed_found h range known suited are_values
