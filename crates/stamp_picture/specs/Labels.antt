-- The labels of a picture: its states and verdicts as texts.
use Rattle.std.specs.Prelude.{ℕ, ◌-◌, ◌==◌, nat_le, List, [], ◌++◌, Option, Some, None, Result, Ok, Err}
use Rattle.std.specs.Prelude.{codes, decimal, length, take, if◌then◌else◌}
use Rattle.stamp_core.specs.Call.{is_lock_call}
use Rattle.stamp_core.specs.Texts.{call_text, reply_text, words_text}
use Rattle.stamp_core.specs.declared.call.Call.{Call}
use Rattle.stamp_core.specs.declared.reply.Reply.{Reply}
use Rattle.stamp_check.specs.declared.checking.Why.{Why}
use Rattle.stamp_check.specs.declared.checking.Why.TheVariants as why
use Rattle.stamp_picture.specs.declared.bar.Bar.{Bar}
use Rattle.stamp_picture.specs.declared.picture.Fault.{Fault}
use Rattle.stamp_picture.specs.declared.state.Mode.{Mode}
use Rattle.stamp_picture.specs.declared.state.Mode.TheVariants.{Free, Reading, Writing}
use Rattle.stamp_picture.specs.declared.state.State.{State}

-- a call and its reply
abbrev pub answered_text : Bar → List ℕ
answered_text bar = call_text bar.call ++ (codes " = " ++ reply_text bar.reply)

-- who holds the lock
abbrev pub mode_text : Mode → List ℕ
mode_text Free = codes "free"
mode_text (Reading n) = if n == 1 then codes "1 reader" else decimal n ++ codes " readers"
mode_text Writing = codes "writing"

-- the same in a narrow box
abbrev pub short_mode_text : Mode → List ℕ
short_mode_text Free = codes "free"
short_mode_text (Reading n) = decimal n ++ codes " rd"
short_mode_text Writing = codes "write"

-- what the record holds; nothing where there is no record
abbrev pub content_text : Option (List ℕ) → List ℕ
content_text None = []
content_text (Some words) = words_text words

abbrev pub record_text : Option (List ℕ) → List ℕ
record_text None = []
record_text (Some words) = codes ", record " ++ words_text words

abbrev pub behind_text : Option (List ℕ) → List ℕ
behind_text None = []
behind_text (Some words) = codes " " ++ words_text words

-- what lock and record are
abbrev pub state_text : State → List ℕ
state_text s = mode_text s.mode ++ (codes ", version " ++ (decimal s.version ++ record_text s.content))

-- the same in few characters
abbrev pub brief_text : State → List ℕ
brief_text s = short_mode_text s.mode ++ (codes " v " ++ (decimal s.version ++ behind_text s.content))

-- what was due instead of a wrong reply
abbrev pub due_text : Option Reply → List ℕ
due_text None = codes "it would wait here"
due_text (Some r) = codes "due here: " ++ reply_text r

-- whose call it is
abbrev pub callee_text : Call → List ℕ
callee_text call = if is_lock_call call then codes "the lock" else codes "the record"

-- what an entry with this call breaks, and of a wrong reply what was due
abbrev pub reason_text : Call → Option Reply → Why → List ℕ
reason_text call due why.Interval = codes "its point is not between its first and last"
reason_text call due why.Order = codes "its point is not above the one before"
reason_text call due why.Overlap = codes "it began before its thread's last call ended"
reason_text call due why.Reply =
    callee_text call ++ (codes " would have answered otherwise (" ++ (due_text due ++ codes ")"))

-- how many entries there are, or the first fault with its reason
abbrev pub verdict_text : Result ℕ Fault → List ℕ
verdict_text (Ok n) = decimal n ++ codes " entries, in order"
verdict_text (Err fault) =
    codes "entry " ++ (decimal fault.bad.entry ++ (codes ": " ++ reason_text fault.call fault.due fault.bad.why))

-- a line; one that is longer than the width is cut off there, and ends in a sign of it
abbrev pub shortened : ℕ → List ℕ → List ℕ
shortened width line =
    if nat_le (length line) width then line
    else if width == 0 then [] else take (width - 1) line ++ codes ">"
