-- No refusal of a reading or of an answer is one of an end.
use Rattle.std.proofs.Common.{◌≡◌, false, refl}
use Rattle.stamp_history.specs.declared.answer_error.AnswerError.{AnswerError}
use Rattle.stamp_history.specs.declared.answer_error.AnswerError.TheVariants as answer
use Rattle.stamp_history.specs.declared.read_error.ReadError.{ReadError}
use Rattle.stamp_history.specs.declared.read_error.ReadError.TheVariants.{NotJson, NotHistory}
use Rattle.stamp_history.specs.declared.read_error.ReadError.TheVariants.{Limit, Memory, NotScript}
use Rattle.stamp_history.specs.declared.read_error.ReadError.TheVariants.{BadScript}
use Rattle.stamp_cli.specs.Refusal.{refusal, unanswered}
use Rattle.stamp_cli.specs.inner.Refusal.{is_of_end}

pub is_of_end-refusal : (e : ReadError) → is_of_end (refusal e) ≡ false
is_of_end-refusal NotJson = refl
is_of_end-refusal (NotHistory field) = refl
is_of_end-refusal (Limit field) = refl
is_of_end-refusal Memory = refl
is_of_end-refusal (NotScript field) = refl
is_of_end-refusal (BadScript e) = refl

pub is_of_end-unanswered : (e : AnswerError) → is_of_end (unanswered e) ≡ false
is_of_end-unanswered (answer.Refused e) = is_of_end-refusal e
is_of_end-unanswered (answer.Waits i) = refl

pub ruleset inner = (is_of_end-refusal, is_of_end-unanswered)
