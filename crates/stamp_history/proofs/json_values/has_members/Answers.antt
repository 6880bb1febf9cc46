use Rattle.serde_json.proofs.Views.{members_len-members_view}
use Rattle.stamp_history.proofs.json_values.has_members.Goals as goal

pub returns-in-Some : goal.returns-in-Some
returns-in-Some c = rw (← c.in-Some.ensures, members_len-members_view, c.len.ensures.len)
