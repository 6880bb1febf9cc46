use Rattle.std.proofs.lemmas.Result.{IfOk-weaker}
use Rattle.stamped_watch.proofs.note.stuck_note.Goals as goal

pub returns : goal.returns
returns c = IfOk-weaker c.stuck_text.result _ _ (λ text says most ahead fed keeps ends. record {
  end = c.in_ok-ended.field-0;
  is = c.in_ok-ended.ensures most ahead fed keeps ends;
  says = says;
}) c.stuck_text.ensures
