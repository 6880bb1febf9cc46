-- The text of what a replay answered, from its parts.
use Rattle.std.proofs.Common.{◌≡◌, ◌++◌, List, ℕ, true, codes}
use Rattle.serde_json.specs.Data.{no_members, member}
use Rattle.serde_json.specs.Written.{compact_text, members_text}
use Rattle.serde_json.proofs.OnLiterals.{serde_json_on_literals}
use Rattle.stamp_core.specs.declared.reply.Reply.{Reply}
use Rattle.stamp_history.specs.ReplayText.{number_data, replies_data, replayed_data}
use Rattle.stamp_history.proofs.Appending.{onto}

pub parts_written : (old opened listed ended : List ℕ) (replies : List Reply) (word : ℕ) →
    opened ≡ old ++ codes "{\"replies\":" → listed ≡ opened ++ compact_text (replies_data replies) →
    ended ≡ listed ++ members_text true (member (codes "word") (number_data word) no_members) →
    ended ≡ old ++ compact_text (replayed_data replies word)
unfolding serde_json_on_literals
parts_written old opened listed ended replies word opens lists ends =
    let list = compact_text (replies_data replies) in
    let rest = members_text true (member (codes "word") (number_data word) no_members) in
    onto old (codes "{\"replies\":") (list ++ rest) opens (onto opened list rest lists ends)
