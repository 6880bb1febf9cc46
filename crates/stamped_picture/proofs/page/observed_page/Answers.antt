use Rattle.stamped_picture.specs.PageData.{observed_data_text}
use Rattle.stamped_picture.proofs.PageText.{page_text}
use Rattle.stamped_picture.proofs.page.observed_page.Goals as goal

pub returns-clause-page : goal.returns-clause-page
returns-clause-page c = record {
  found = c.in_ok-found.found;
  is = c.in_ok-found.ensures;
  text = page_text c.args.head.now (observed_data_text c.args.observed.now c.in_ok-found.found) c.args.tail.now
      c.new-text.ensures.items c.in_ok-push_text.ensures c.in_ok-push_observed.ensures.text
      c.in_ok-push_text-2.ensures;
  says = c.explanation_verdict.ensures;
}
