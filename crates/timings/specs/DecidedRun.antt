-- A run of calls, each decided on the word that the calls before it left.
use Rattle.std.specs.Prelude.{ℕ, zero, suc, ◌+◌, ◌*◌, ◌%◌, ◌^◌, [], Option, Some, None, slice_get}
use Rattle.stamp_core.specs.LockEvent.{counts}
use Rattle.stamp_core.specs.Limits.{Bounds, units}
use Rattle.stamp_core.specs.Word.{word_number}
use Rattle.stamp_core.specs.CountedDecision.{decision}
use Rattle.stamp_core.specs.declared.call.Call.{Call}
use Rattle.stamp_core.specs.declared.reply.Reply.{Reply}
use Rattle.stamp_core.specs.declared.reply.Reply.TheVariants.{Stamp, Yes, No, Done, Mismatch, Count, Content}
use Rattle.stamp_core.specs.declared.decision.Decision.{Decision}
use Rattle.stamp_core.specs.declared.decision.Decision.TheVariants.{Answer, Change, Wait}
use Rattle.timings.specs.declared.decide.run.Run.{Run}
use Rattle.timings.specs.declared.cycle.TheConstants.{CYCLE}
use Rattle.timings.specs.Cycle.{cycle}

-- a reply as one number
abbrev pub reply_number : Reply → ℕ
reply_number (Stamp s) = s
reply_number Yes = 1
reply_number No = 2
reply_number Done = 3
reply_number Mismatch = 4
reply_number (Count n) = (n + 5) % 2 ^ 64
reply_number (Content words) = 0

-- the stamp answered last, of those before and a reply
abbrev pub last_stamp : ℕ → Reply → ℕ
last_stamp before (Stamp s) = s
last_stamp before _ = before

-- the run once a call left the word of this number and had this reply
abbrev pub answered : Run → ℕ → Reply → Run
answered run number reply = record {
  number = number;
  stamp = last_stamp run.stamp reply;
  sum = ((run.sum * 31) % 2 ^ 64 + reply_number reply) % 2 ^ 64;
}

-- the run once a call was decided; one that waits is passed over
abbrev pub taken : Run → Decision → Run
taken run (Answer reply) = answered run run.number reply
taken run (Change word reply) = answered run word.bits reply
taken run Wait = run

-- before the first call: a word for which nothing has happened
abbrev pub run_start : Bounds → Run
run_start limits = record { number = word_number (units limits) (counts []); stamp = 0; sum = 0 }

-- the run after one more call, where there is one
abbrev pub next_run : Bounds → Run → Option Call → Run
next_run limits run (Some call) = taken run (decision limits run.number call)
next_run limits run None = run

-- after this many calls
unfoldable pub run_after : Bounds → ℕ → Run
run_after limits zero = run_start limits
run_after limits (suc n) = let run = run_after limits n in next_run limits run
    (slice_get (cycle run.stamp) (n % CYCLE))
