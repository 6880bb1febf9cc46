use Rattle.stamped_picture.proofs.answer.svg_drawn.Goals as goal

pub returns : goal.returns
returns c = record {
  sheet = c.in_ok-sheet.sheet;
  is_sheet = c.in_ok-sheet.ensures.sheet;
  is = c.in_ok-text.ensures.text;
  document = c.in_ok-text.ensures.document;
}
