-- Where the walk over a history is.
use Rattle.std.specs.Prelude.{ℕ, ◌≡◌, ◌≤◌, ◌<◌, ◌-◌, List, ◌∷◌, [], ◌++◌, length, slice_index_or}
use Rattle.std.specs.Prelude.{Option, None, Some, MatchOption}
use Rattle.std.specs.List.{All}
use Rattle.stamp_core.specs.Limits.{Bounds}
use Rattle.stamp_core.specs.Word.{Represents, word_at}
use Rattle.stamp_core.specs.History.{events_of, content_after}
use Rattle.stamp_core.specs.Record.{EntrySuits}
use Rattle.stamp_core.specs.Linearized.{history_of, AreLinearized}
use Rattle.stamp_core.specs.declared.entry.Entry.{Entry}
use Rattle.stamp_check.specs.declared.checking.Why.{Why}
use Rattle.stamp_check.specs.declared.walk.Walk.{Walk}
use Rattle.stamp_check.specs.FirstFault.{Breaks}

-- the number is above the one before, if there is one
abbrev pub IsAbove : Option ℕ → ℕ → Type 0
IsAbove before n = MatchOption before (Unit {0}) (λ b. b < n)

-- the last of these entries has this point
abbrev pub IsLastPoint : List Entry → Option ℕ → Type 0
IsLastPoint before None = length before ≡ 0
IsLastPoint before (Some p) = (0 < length before) ×
    ((d : Entry) → (slice_index_or before (length before - 1) d).point ≡ p)

-- where the thread was last: no entry of it ended later, and one ended there
abbrev pub IsLastOf : List Entry → ℕ → Option ℕ → Type 0
IsLastOf before thread None = All (λ (e : Entry). e.thread ≡ thread → ⊥) before
IsLastOf before thread (Some n) =
    All (λ (e : Entry). e.thread ≡ thread → e.last ≤ n) before ×
    ((k : ℕ) × (k < length before) × ((d : Entry) → ((slice_index_or before k d).thread ≡ thread) ×
    ((slice_index_or before k d).last ≡ n)))

-- the walk is behind these entries, which are linearized
pub record IsWalk (limits : Bounds) (width : ℕ) (before : List Entry) (walk : Walk) : Type 0 where
  pub linearized : AreLinearized limits width before
  pub word : Represents limits (word_at limits walk.bits) (events_of limits (history_of before))
  pub content : 0 < width → walk.content ≡ content_after width (history_of before)
  pub point : IsLastPoint before walk.point
  pub threads : length walk.lasts ≡ 64
  pub lasts : (thread : ℕ) (d : Option ℕ) → thread < 64 → IsLastOf before thread (slice_index_or walk.lasts thread d)

-- behind one entry more, or what it breaks first
pub record Advances (limits : Bounds) (e : Entry) (walk next : Walk) (found : Option Why) : Type 0 where
  pub behind : (width : ℕ) (before : List Entry) → IsWalk limits width before walk → EntrySuits width e →
      MatchOption found (IsWalk limits width (before ++ e ∷ []) next) (Breaks limits width before e)
