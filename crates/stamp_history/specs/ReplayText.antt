-- The JSON value that the replies and the word of a replay are written as, and its text.
use Rattle.std.specs.Prelude.{ℕ, List, map, codes}
use Rattle.serde_json.specs.Data.{Data, unsigned, number, string, array, object, no_members, member}
use Rattle.serde_json.specs.Written.{compact_text}
use Rattle.serde_json.specs.View.{items_of}
use Rattle.stamp_core.specs.declared.reply.Reply.{Reply}
use Rattle.stamp_core.specs.declared.reply.Reply.TheVariants.{Stamp, Yes, No, Done, Mismatch, Count, Content}

abbrev pub number_data : ℕ → Data
number_data n = number (unsigned n)

abbrev pub words_data : List ℕ → Data
words_data words = array (items_of (map number_data words))

abbrev pub reply_data : Reply → Data
reply_data (Stamp n) = number_data n
reply_data Yes = string (codes "yes")
reply_data No = string (codes "no")
reply_data Done = string (codes "done")
reply_data Mismatch = string (codes "mismatch")
reply_data (Count n) = object (member (codes "count") (number_data n) no_members)
reply_data (Content words) = words_data words

abbrev pub replies_data : List Reply → Data
replies_data replies = array (items_of (map reply_data replies))

-- the keys in the order of their bytes
abbrev pub replayed_data : List Reply → ℕ → Data
replayed_data replies word =
    object (member (codes "replies") (replies_data replies)
    (member (codes "word") (number_data word) no_members))

-- without spaces
unfoldable pub replayed_text : List Reply → ℕ → List ℕ
replayed_text replies word = compact_text (replayed_data replies word)
