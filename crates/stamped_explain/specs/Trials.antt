-- What the calls of a recorded history tried.
use Rattle.std.specs.Prelude.{ℕ, ◌+◌, ◌++◌, ◌&&◌, ◌||◌, ◌==◌, nat_le, Bool, true, false, if◌then◌else◌}
use Rattle.std.specs.Prelude.{List, [], ◌∷◌, length, count_by, codes, decimal}
use Rattle.std.specs.List.{list_any}
use Rattle.stamp_core.specs.declared.call.Call.{Call}
use Rattle.stamp_core.specs.declared.call.Call.TheVariants.{TryWrite, TryRead, Optimistic, Validate}
use Rattle.stamp_core.specs.declared.call.Call.TheVariants.{ToWrite, ToRead, ToOptimistic}
use Rattle.stamp_core.specs.declared.entry.Entry.{Entry}
use Rattle.stamp_core.specs.declared.reply.Reply.{Reply}
use Rattle.stamp_core.specs.declared.reply.Reply.TheVariants.{Stamp, No}

-- a call that took effect earlier had not returned when this one began, or one that took effect later began before
-- this one returned
abbrev pub overlaps : List Entry → Entry → List Entry → Bool
overlaps earlier e later =
    list_any (λ (d : Entry). nat_le e.first d.last) earlier || list_any (λ (d : Entry). nat_le d.first e.last) later

-- how many of the later calls overlap another, of these or of the earlier ones
abbrev pub overlapping_after : List Entry → List Entry → ℕ
overlapping_after earlier [] = 0
overlapping_after earlier (e ∷ later) =
    (if overlaps earlier e later then 1 else 0) + overlapping_after (earlier ++ e ∷ []) later

-- how many calls overlap another, listed as they took effect
abbrev pub overlapping : List Entry → ℕ
overlapping entries = overlapping_after [] entries

abbrev pub is_zero : Reply → Bool
is_zero (Stamp n) = n == 0
is_zero _ = false

abbrev pub is_no : Reply → Bool
is_no No = true
is_no _ = false

-- the call asks for a stamp, and doesn't wait for it
abbrev pub is_attempt : Call → Bool
is_attempt TryWrite = true
is_attempt TryRead = true
is_attempt Optimistic = true
is_attempt _ = false

abbrev pub is_validation : Call → Bool
is_validation (Validate n) = true
is_validation _ = false

abbrev pub is_conversion : Call → Bool
is_conversion (ToWrite n) = true
is_conversion (ToRead n) = true
is_conversion (ToOptimistic n) = true
is_conversion _ = false

abbrev pub failed_attempts : List Entry → ℕ
failed_attempts entries = count_by (λ (e : Entry). is_attempt e.call && is_zero e.reply) entries

abbrev pub failed_validations : List Entry → ℕ
failed_validations entries = count_by (λ (e : Entry). is_validation e.call && is_no e.reply) entries

abbrev pub failed_conversions : List Entry → ℕ
failed_conversions entries = count_by (λ (e : Entry). is_conversion e.call && is_zero e.reply) entries

abbrev pub overlap_text : ℕ → ℕ → List ℕ
overlap_text some all =
    codes "stamped_explain: " ++ (decimal some ++ (codes " of " ++ (decimal all ++ codes " calls overlapped another")))

abbrev pub failed_text : ℕ → ℕ → ℕ → List ℕ
failed_text attempts validations conversions =
    codes "; failed: attempts " ++ (decimal attempts ++ (codes ", validations " ++ (decimal validations ++
    (codes ", conversions " ++ decimal conversions))))

abbrev pub trials_text : List Entry → List ℕ
trials_text entries = overlap_text (overlapping entries) (length entries) ++
    failed_text (failed_attempts entries) (failed_validations entries) (failed_conversions entries)
