-- The fields of a history, or of an observed one, are read again from the text that has them.
use Rattle.std.proofs.Common.{◌≡◌, ◌≤◌, ◌<◌, ◌^◌, ℕ, List, [], ◌∷◌, refl, arith, codes, lit<, Some}
use Rattle.std.specs.List.{All}
use Rattle.serde_json.specs.Data.{Data, Members, member, no_members}
use Rattle.serde_json.specs.Read.{of_json, of_members}
use Rattle.serde_json.specs.Written.{outline, members_outline}
use Rattle.stamp_core.specs.Layout.{units_of}
use Rattle.stamp_core.specs.Limits.{AreInRange, bounds}
use Rattle.stamp_core.specs.declared.layout.Layout.{Layout}
use Rattle.stamp_core.specs.declared.layout.Layout.TheVariants.{One, Two}
use Rattle.stamp_history.specs.HistoryLaws.{IsU64, PairIsU64}
use Rattle.stamp_history.specs.HistoryText.{report_data, format_of, with_layout, with_report, after_entries}
use Rattle.stamp_history.specs.HistoryText.{with_entries}
use Rattle.stamp_history.specs.ReplayText.{number_data}
use Rattle.stamp_history.proofs.EntriesReadAgain.{report_again}
use Rattle.stamp_history.proofs.ReadAgain.{ReadsAgain, MembersReadAgain, number_again, no_members_again, member_again}
use Rattle.stamp_history.proofs.ReadAgain.{object_again}

pub small : (n m : ℕ) → n ≤ m → m < 2 ^ 64 → IsU64 n
small n m le lt = omega arith

limits_fit : (l : Layout) (readers versions : ℕ) → AreInRange (bounds l readers versions) → IsU64 readers ×
    IsU64 versions
unfolding units_of
limits_fit One readers versions range = (
  small readers 127 range.readers (lit< tt),
  small versions 36028797018963966 range.versions (lit< tt),
)
limits_fit Two readers versions range = (
  small readers 65535 range.readers (lit< tt),
  small versions 70368744177662 range.versions (lit< tt),
)

format_again : (l : Layout) → ReadsAgain 0 (number_data (format_of l))
format_again One = number_again 1 (lit< tt)
format_again Two = number_again 2 (lit< tt)

layout_again : (l : Layout) (rest : Members) → MembersReadAgain 4 rest → MembersReadAgain 4 (with_layout l rest)
layout_again One rest again = again
layout_again Two rest again = member_again 0 4 (codes "layout") (number_data 2) rest (omega arith) refl
    (format_again Two) again

report_key_again : (ps : List (ℕ × ℕ)) (rest : Members) → ReadsAgain 2 (report_data ps) → MembersReadAgain 4 rest →
    MembersReadAgain 4 (with_report ps rest)
report_key_again [] rest report again = again
report_key_again (p ∷ ps) rest report again =
    member_again 2 4 (codes "report") (report_data (p ∷ ps)) rest (omega arith) refl report again

-- a value that its outline is read as
abbrev IsSame : Data → Type 0
IsSame d = of_json (outline d) ≡ Some d

-- the keys rise, so none of them is moved
in_order : (l : Layout) (readers versions w : ℕ) (d : Data) (ps : List (ℕ × ℕ)) → IsSame d → IsSame (report_data ps) →
    IsSame (number_data readers) → IsSame (number_data versions) → IsSame (number_data w) →
    of_members (members_outline (member (codes "entries") d (after_entries (bounds l readers versions) w ps)))
    no_members ≡ Some (member (codes "entries") d (after_entries (bounds l readers versions) w ps))
in_order One readers versions w d [] entries report r v width =
    rw (entries, (format_again One).same, r, v, width) refl
in_order One readers versions w d (p ∷ ps) entries report r v width =
    rw (entries, (format_again One).same, r, report, v, width) refl
in_order Two readers versions w d [] entries report r v width =
    rw (entries, (format_again Two).same, r, v, width) refl
in_order Two readers versions w d (p ∷ ps) entries report r v width =
    rw (entries, (format_again Two).same, r, report, v, width) refl

-- what is written of them reads again
pub fields_again : (l : Layout) (readers versions w : ℕ) (d : Data) (ps : List (ℕ × ℕ)) →
    AreInRange (bounds l readers versions) → w ≤ 16 → ReadsAgain 4 d → All PairIsU64 ps →
    ReadsAgain 127 (with_entries d (bounds l readers versions) w ps)
fields_again l readers versions w d ps range most entries fit =
    let limits = limits_fit l readers versions range in
    let report = report_again ps fit in
    let r = number_again readers limits.0 in
    let v = number_again versions limits.1 in
    let width = number_again w (small w 16 most (lit< tt)) in
    let again = object_again 4 _
    (member_again 4 4 (codes "entries") d _ (omega arith) refl entries
    (member_again 0 4 (codes "format") (number_data (format_of l)) _ (omega arith) refl (format_again l)
    (layout_again l _
    (member_again 0 4 (codes "readers") (number_data readers) _ (omega arith) refl r
    (report_key_again ps _ report
    (member_again 0 4 (codes "versions") (number_data versions) _ (omega arith) refl v
    (member_again 0 4 (codes "width") (number_data w) no_members (omega arith) refl width (no_members_again 4))))))))
    (in_order l readers versions w d ps entries.same report.same r.same v.same width.same) in
    record { numbers = again.numbers; depth = omega (arith, again.depth); same = again.same; utf8 = again.utf8 }
