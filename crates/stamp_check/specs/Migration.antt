-- Recorded histories of layout 1, spelled anew in layout 2.
use Rattle.std.specs.Prelude.{ℕ, ◌≡◌, ◌≤◌, ◌⊎◌, ◌%◌, ◌&&◌, nat_le, min, Bool, List, take, map}
use Rattle.std.specs.Prelude.{slice_get, Some, if◌then◌else◌}
use Rattle.std.specs.List.{All}
use Rattle.stamp_core.specs.Layout.{narrow, wide}
use Rattle.stamp_core.specs.Limits.{Bounds, bounds}
use Rattle.stamp_core.specs.Word.{word_number}
use Rattle.stamp_core.specs.Decoded.{counts_of}
use Rattle.stamp_core.specs.Stamp.{IsStamp}
use Rattle.stamp_core.specs.StampKind.{OfSomeVersion}
use Rattle.stamp_core.specs.Record.{Recorded, recorded}
use Rattle.stamp_core.specs.declared.entry.Entry.{Entry}
use Rattle.stamp_core.specs.declared.layout.Layout.{Layout}
use Rattle.stamp_core.specs.declared.layout.Layout.TheVariants.{One, Two}
use Rattle.stamp_core.specs.declared.call.Call.{Call}
use Rattle.stamp_core.specs.declared.call.Call.TheVariants.{Validate, UnlockWrite, UnlockRead}
use Rattle.stamp_core.specs.declared.call.Call.TheVariants.{Unlock, ToWrite, ToRead, ToOptimistic}
use Rattle.stamp_core.specs.declared.reply.Reply.{Reply}
use Rattle.stamp_core.specs.declared.reply.Reply.TheVariants.{Stamp}

-- the number is a word of layout 1, and layout 2 has its version
abbrev pub fits_layout_two : ℕ → Bool
fits_layout_two s =
    nat_le narrow.version s && nat_le (s % narrow.version) narrow.writer &&
    nat_le (counts_of narrow s).write_count wide.versions

-- the number of the same counts in layout 2, or 0
-- (migration_laws.respelling_is_of_stamps: it is the stamp of the same kind, version and count)
unfoldable pub respelling : ℕ → ℕ
respelling s = if fits_layout_two s then word_number wide (counts_of narrow s) else 0

-- the call with its stamp respelled
abbrev pub respelled_call : Call → Call
respelled_call (Validate s) = Validate (respelling s)
respelled_call (UnlockWrite s) = UnlockWrite (respelling s)
respelled_call (UnlockRead s) = UnlockRead (respelling s)
respelled_call (Unlock s) = Unlock (respelling s)
respelled_call (ToWrite s) = ToWrite (respelling s)
respelled_call (ToRead s) = ToRead (respelling s)
respelled_call (ToOptimistic s) = ToOptimistic (respelling s)
respelled_call call = call

-- the reply with its stamp respelled
abbrev pub respelled_reply : Reply → Reply
respelled_reply (Stamp s) = Stamp (respelling s)
respelled_reply reply = reply

-- thread and positions stay
abbrev pub respelled_entry : Entry → Entry
respelled_entry e = record e { call = respelled_call e.call; reply = respelled_reply e.reply }

-- the limits of layout 2 with the same readers, and as many versions of these as it has
abbrev pub widened : Bounds → Bounds
widened limits = bounds Two limits.readers (min limits.versions wide.versions)

-- each entry respelled, under widened limits; width and report stay
abbrev pub respelled_record : Recorded → Recorded
respelled_record r =
    recorded (widened r.limits) r.width (map respelled_entry r.entries) r.report

abbrev pub migrated_from : Layout → Recorded → Recorded
migrated_from One r = respelled_record r
migrated_from Two r = r

-- the recorded history in layout 2; one that is of layout 2 stays
abbrev pub migrated : Recorded → Recorded
migrated r = migrated_from r.limits.layout r

-- a stamp reply is 0, or a stamp of layout 1 whose version layout 2 has
abbrev pub CanRespell : Reply → Type 0
CanRespell (Stamp s) = (s ≡ 0) ⊎ OfSomeVersion (λ k. (k ≤ wide.versions) × IsStamp narrow k s)
CanRespell _ = Unit {0}

abbrev pub AllCanRespell : List Entry → Type 0
AllCanRespell entries = All (λ (e : Entry). CanRespell e.reply) entries

-- of layout 2, or with no stamp reply that layout 2 has not
abbrev pub CanMigrate : Recorded → Type 0
CanMigrate r = r.limits.layout ≡ One → AllCanRespell r.entries

-- the entry is the first whose stamp reply layout 2 has not
pub record IsFirstForeign (entries : List Entry) (i : ℕ) : Type 0 where
  pub entry : Entry
  pub is_entry : slice_get entries i ≡ Some entry
  pub before : AllCanRespell (take i entries)
  pub foreign : ¬ CanRespell entry.reply

-- so it is of a recorded history of layout 1
pub record IsBadReply (r : Recorded) (i : ℕ) : Type 0 where
  pub layout : r.limits.layout ≡ One
  pub first : IsFirstForeign r.entries i
