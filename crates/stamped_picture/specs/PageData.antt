-- The data of a page, as JSON.
use Rattle.std.specs.Prelude.{ℕ, List, [], ◌++◌, Option, None, Some, Result, Ok, Err, Vec, codes}
use Rattle.std.specs.declared.alloc.Global.{Global}
use Rattle.serde_json.specs.Written.{compact_text}
use Rattle.stamp_core.specs.Record.{Recorded}
use Rattle.stamp_core.specs.declared.reply.Reply.{Reply}
use Rattle.stamp_history.specs.HistoryText.{history_text}
use Rattle.stamp_history.specs.ReplayText.{number_data, reply_data, replies_data}
use Rattle.stamp_explain.specs.Observed.{ObservedHistory}
use Rattle.stamp_observed.specs.ObservedText.{observed_text}
use Rattle.stamp_observed.specs.declared.judging.ObservedWhy.{ObservedWhy}
use Rattle.stamp_observed.specs.declared.judging.ObservedWhy.TheVariants.{Interval, Overlap}
use Rattle.stamp_cli.specs.CheckText.{why_text}
use Rattle.stamp_picture.specs.declared.picture.Fault.{Fault}
use Rattle.stamped_picture.specs.declared.explanation.StuckReturn.{StuckReturn}
use Rattle.stamped_picture.specs.declared.explanation.Explanation.{Explanation}
use Rattle.stamped_picture.specs.declared.explanation.Explanation.TheVariants.{Faulty, Explained, Stuck}
use Rattle.stamped_picture.specs.declared.explanation.Explanation.TheVariants.{StuckWithin, Undecided}

abbrev pub number_text : ℕ → List ℕ
number_text n = compact_text (number_data n)

-- the number of an entry and what it breaks, and the end of the object
abbrev pub place_text : ℕ → List ℕ → List ℕ
place_text i why =
    (codes "\"entry\":" ++ number_text i) ++ (codes ",\"why\":\"" ++ (why ++ codes "\"}"))

-- the reply that was due, or null where the call would have waited
abbrev pub due_text : Option Reply → List ℕ
due_text None = codes "null"
due_text (Some r) = compact_text (reply_data r)

-- the first fault of a recorded history, and what was due to it
abbrev pub fault_text : Fault → List ℕ
fault_text fault =
    codes ",\"wrong\":{\"due\":" ++
    (due_text fault.due ++ (codes "," ++ place_text fault.bad.entry (why_text fault.bad.why)))

abbrev pub wrong_text : Result ℕ Fault → List ℕ
wrong_text (Ok n) = []
wrong_text (Err fault) = fault_text fault

-- a recorded history with its verdict
abbrev pub recorded_text : Recorded → Result ℕ Fault → List ℕ
recorded_text r verdict = (codes "{\"recorded\":" ++ history_text r) ++ (wrong_text verdict ++ codes "}")

abbrev pub observed_why_text : ObservedWhy → List ℕ
observed_why_text Interval = codes "interval"
observed_why_text Overlap = codes "overlap"

-- the replies that were possible, or null where that is undecided
abbrev pub possible_text : Option (Vec Reply Global) → List ℕ
possible_text None = codes "null"
possible_text (Some replies) = compact_text (replies_data replies.items)

-- what explains a history up to a return, if that is known
abbrev pub order_text : Option Recorded → List ℕ
order_text None = []
order_text (Some order) = codes ",\"order\":" ++ history_text order

abbrev pub stuck_text : StuckReturn → List ℕ
stuck_text stuck =
    order_text stuck.order ++
    (codes ",\"possible\":" ++ (possible_text stuck.possible ++ (codes ",\"stuck\":" ++ number_text stuck.entry)))

abbrev pub explanation_text : Explanation → List ℕ
explanation_text (Faulty fault) = codes ",\"wrong\":{" ++ place_text fault.entry (observed_why_text fault.why)
explanation_text (Explained order) = codes ",\"order\":" ++ history_text order
explanation_text (Stuck stuck) = stuck_text stuck
explanation_text (StuckWithin i j) = codes ",\"unexplained\":" ++ number_text i
explanation_text (Undecided i) = codes ",\"undecided\":" ++ number_text i

-- an observed history with what explains it
abbrev pub observed_data_text : ObservedHistory → Explanation → List ℕ
observed_data_text h found = codes "{\"observed\":" ++ (observed_text h ++ (explanation_text found ++ codes "}"))
