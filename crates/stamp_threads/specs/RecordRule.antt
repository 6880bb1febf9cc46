-- How a record begins.
use Rattle.std.specs.Prelude.{◌≡◌, ℕ, ◌≤◌, Bool, List, [], ◌∷◌, Option, Some, None}
use Rattle.stamp_core.specs.Limits.{Bounds}
use Rattle.stamp_core.specs.declared.call.Call.TheVariants.{Put}
use Rattle.stamp_core.specs.declared.reply.Reply.TheVariants.{Done}
use Rattle.stamp_threads.specs.declared.record_view.RecordEvent.{RecordEvent}
use Rattle.stamp_threads.specs.declared.record_view.RecordEvent.TheVariants.{Mark, Called}
use Rattle.stamp_threads.specs.PassView.{entry}
use Rattle.stamp_threads.specs.RecordLog.{RecordLog}
use Rattle.stamp_threads.specs.RecordPass.{RecordPassView, RecordView, RecordToken, IsConsistentWith, first_pass}

abbrev pub put_of : List ℕ → RecordEvent
put_of words = Called (Put words) Done

-- the log of a record whose first pass has put these words, if there are any, and that pass
abbrev pub opening_log : Option (List ℕ) → RecordLog
opening_log None = []
opening_log (Some words) =
    entry first_pass.name Mark ∷ entry first_pass.name (put_of words) ∷ []

abbrev pub opening_pass : Option (List ℕ) → RecordPassView
opening_pass None = first_pass
opening_pass (Some words) =
    record first_pass { known = opening_log (Some words); own = put_of words ∷ [] }

-- a record may begin with these words: they keep to its rule, and there is a version for their put
pub record MayBegin (P : List ℕ → Type 0) (limits : Bounds) (first : List ℕ) : Type 0 where
  pub version : 1 ≤ limits.versions
  pub rule : P first

-- a new record of this shape, and its first pass, which has put these words, if there are any
pub record IsNew (limits : Bounds) (width : ℕ) (enterable : Bool) (first : Option (List ℕ))
    (r : RecordView) (p : RecordToken) : Type 0 where
  pub has_shape : r.shape ≡ record { limits = limits; width = width }
  pub opens : r.enterable ≡ enterable
  pub table : p.table ≡ r.table
  pub view : p.view ≡ opening_pass first
  pub consistent : IsConsistentWith width p.view
