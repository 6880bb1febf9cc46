-- A respelled history may be recorded where the history may, and its limits are in range.
use Rattle.std.proofs.Common.{◌≡◌, ◌⊎◌, ℕ, List, length, map, refl, sym, ◌∙◌, ap, subst, inl, inr, arith}
use Rattle.std.specs.Prelude.{min, IsTrue}
use Rattle.std.proofs.lemmas.List.{length-map}
use Rattle.std.proofs.lemmas.List.Elements.{All-map, All-weaker}
use Rattle.stamp_core.specs.Layout.{units_of}
use Rattle.stamp_core.specs.Limits.{Bounds, bounds, AreInRange}
use Rattle.stamp_core.specs.declared.layout.Layout.TheVariants.{Two}
use Rattle.stamp_core.specs.Call.{call_suits}
use Rattle.stamp_core.specs.Record.{Recorded, recorded, IsRecorded, EntrySuits}
use Rattle.stamp_core.specs.declared.call.Call.{Call}
use Rattle.stamp_core.specs.declared.call.Call.TheVariants.{Get}
use Rattle.stamp_core.specs.declared.entry.Entry.{Entry}
use Rattle.stamp_core.proofs.TwoLayouts.{either_layout}
use Rattle.stamp_check.specs.Migration.{respelled_call, respelled_entry, respelled_record, widened}

pub widened_in_range : (limits : Bounds) → AreInRange limits → AreInRange (widened limits)
unfolding units_of
widened_in_range limits range =
    let either = either_layout limits.layout in
    let readers = range.readers in
    record { some_reader = range.some_reader; readers = grind arith; versions = omega arith }

suits_alike : (width : ℕ) (call : Call) → call_suits width call ≡ call_suits width (respelled_call call)
suits_alike width Get = refl
suits_alike width _ = refl

pub respelled_recorded : (r : Recorded) → IsRecorded r → IsRecorded (respelled_record r)
respelled_recorded r known = record {
  width = known.width;
  entries = omega (arith, known.entries, length-map r.entries respelled_entry);
  report = report known.report;
  suit = All-map (EntrySuits r.width) respelled_entry r.entries
      (All-weaker (EntrySuits r.width) (λ (e : Entry). EntrySuits r.width (respelled_entry e))
      (λ e s. record { thread = s.thread; call = subst IsTrue (suits_alike r.width e.call) s.call }) r.entries
      known.suit);
}
  where
    report : (length r.report ≡ 0) ⊎ (length r.report ≡ length r.entries) → (length r.report ≡ 0) ⊎
        (length r.report ≡ length (map respelled_entry r.entries))
    report (inl none) = inl none
    report (inr each) = inr (each ∙ sym (length-map r.entries respelled_entry))

pub widened_by : (limits : Bounds) (readers versions most least : ℕ) → readers ≡ limits.readers → versions ≡
    limits.versions → most ≡ (units_of Two).versions → least ≡ min versions most → bounds Two readers least ≡
    widened limits
unfolding units_of
widened_by limits readers versions most least e f g h = cc

pub respelled_by : (r : Recorded) (limits wider : Bounds) (width : ℕ) (entries respelled : List Entry)
    (report : List (ℕ × ℕ)) → r ≡ recorded limits width entries report → wider ≡ widened limits → respelled ≡
    map respelled_entry entries → IsRecorded r → IsRecorded (recorded wider width respelled report)
respelled_by r limits wider width entries respelled report parts e f known =
    let same : recorded wider width respelled report ≡
    recorded (widened limits) width (map respelled_entry entries) report = cc in
    subst IsRecorded (ap respelled_record parts ∙ sym same) (respelled_recorded r known)
