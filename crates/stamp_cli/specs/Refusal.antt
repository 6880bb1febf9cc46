-- The refusals of a reading and of an answer, as the command's.
use Rattle.stamp_history.specs.declared.answer_error.AnswerError.{AnswerError}
use Rattle.stamp_history.specs.declared.answer_error.AnswerError.TheVariants as answer
use Rattle.stamp_history.specs.declared.read_error.ReadError.{ReadError}
use Rattle.stamp_history.specs.declared.read_error.ReadError.TheVariants as read
use Rattle.stamp_cli.specs.declared.faults.ServeFault.{ServeFault}
use Rattle.stamp_cli.specs.declared.faults.ServeFault.TheVariants.{Refused, Waits, Memory}

-- want of memory is one fault, wherever it came
abbrev pub refusal : ReadError → ServeFault
refusal read.NotJson = Refused read.NotJson
refusal (read.NotHistory field) = Refused (read.NotHistory field)
refusal (read.Limit field) = Refused (read.Limit field)
refusal read.Memory = Memory
refusal (read.NotScript field) = Refused (read.NotScript field)
refusal (read.BadScript e) = Refused (read.BadScript e)

abbrev pub unanswered : AnswerError → ServeFault
unanswered (answer.Refused e) = refusal e
unanswered (answer.Waits i) = Waits i
