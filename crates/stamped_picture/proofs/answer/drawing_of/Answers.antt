use Rattle.std.proofs.Common.{◌∙◌, ap}
use Rattle.stamped_picture.specs.Answer.{verdict_in}
use Rattle.stamped_picture.proofs.answer.drawing_of.Goals as goal

pub returns-clause-drawn : goal.returns-clause-drawn
returns-clause-drawn c = record {
  picture = c.in_ok-picture.picture;
  is_picture = c.in_ok-picture.ensures.ok;
  drawn = c.in_ok-drawn_as.ensures;
  verdict = c.verdict_of.ensures ∙ ap verdict_in c.verdict.ensures;
}
