-- Replies out of JSON values.
use Rattle.std.specs.Prelude.{ℕ, List, Option, Some, None, option_map, if◌then◌else◌, codes}
use Rattle.std.specs.Str.{bytes_eq}
use Rattle.serde_json.specs.Data.{Data, null, boolean, number, string, array, object}
use Rattle.serde_json.specs.Find as find
use Rattle.stamp_core.specs.declared.reply.Reply.{Reply}
use Rattle.stamp_core.specs.declared.reply.Reply.TheVariants.{Stamp, Yes, No, Done, Mismatch, Count, Content}
use Rattle.stamp_history.specs.JsonValue.{has_members, whole_under}
use Rattle.stamp_history.specs.WordsValue.{words}

abbrev pub named_reply : List ℕ → Option Reply
named_reply name =
    if bytes_eq name (codes "yes") then Some Yes
    else if bytes_eq name (codes "no") then Some No
    else if bytes_eq name (codes "done") then Some Done
    else if bytes_eq name (codes "mismatch") then Some Mismatch
    else None

-- an object of the one key `count`
abbrev pub count_reply : Data → Option Reply
count_reply d = if has_members 1 d then option_map Count (whole_under (codes "count") d) else None

abbrev pub reply : Data → Option Reply
reply null = None
reply (boolean b) = None
reply (number n) = option_map Stamp (find.as_u64 n)
reply (string name) = named_reply name
reply (array ds) = option_map Content (words (array ds))
reply (object ms) = count_reply (object ms)
