-- What a put_if has learned before it puts.
use Rattle.std.specs.Prelude.{ℕ, List, Option, Some, None}
use Rattle.stamp_core.specs.declared.call.Call.TheVariants.{PutIf}
use Rattle.stamp_core.specs.declared.reply.Reply.TheVariants.{No}
use Rattle.stamp_threads.specs.declared.record_view.RecordShape.{RecordShape}
use Rattle.stamp_threads.specs.RecordPass.{RecordPassView}
use Rattle.stamp_threads.specs.RecordCall.{MadeOnRecord, HasSeen}

-- the expected words were seen; or a put_if that expects them was made, which was answered no
abbrev pub SeenOrDenied : (List ℕ → Type 0) → RecordShape → List ℕ → List ℕ → Option ℕ → RecordPassView →
    RecordPassView → Type 0
SeenOrDenied P shape expected words (Some word) v w = HasSeen P shape word expected v w
SeenOrDenied P shape expected words None v w = MadeOnRecord shape (PutIf expected words) No v w
