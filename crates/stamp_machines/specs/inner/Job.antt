-- What a call of the guarded record leaves of the content, and its reply.
use Rattle.std.specs.Prelude.{ℕ, List, if◌then◌else◌}
use Rattle.stamp_core.specs.Content.{same_words}
use Rattle.stamp_core.specs.declared.reply.Reply.{Reply}
use Rattle.stamp_core.specs.declared.reply.Reply.TheVariants as reply
use Rattle.stamp_machines.specs.Job.{Job}
use Rattle.stamp_machines.specs.Job.Job.{Getting, Putting, PuttingIf}

abbrev pub content_with : List ℕ → Job → List ℕ
content_with content Getting = content
content_with content (Putting words) = words
content_with content (PuttingIf expected words) =
    if same_words content expected then words else content

abbrev pub reply_to : List ℕ → Job → Reply
reply_to content Getting = reply.Content content
reply_to content (Putting words) = reply.Done
reply_to content (PuttingIf expected words) =
    if same_words content expected then reply.Yes else reply.No
