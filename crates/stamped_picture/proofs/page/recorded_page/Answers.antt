use Rattle.stamped_picture.specs.PageData.{recorded_text}
use Rattle.stamped_picture.proofs.PageText.{page_text}
use Rattle.stamped_picture.proofs.page.recorded_page.Goals as goal

pub returns-clause-page : goal.returns-clause-page
returns-clause-page c = record {
  verdict = c.judged-verdict.result;
  judged = c.judged-verdict.ensures.judged;
  text = page_text c.args.head.now (recorded_text c.args.history.now c.judged-verdict.result) c.args.tail.now
      c.new-text.ensures.items c.in_ok-push_text.ensures c.in_ok-push_recorded.ensures.text
      c.in_ok-push_text-2.ensures;
  says = c.verdict_of.ensures;
}
