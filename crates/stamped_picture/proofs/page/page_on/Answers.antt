use Rattle.std.proofs.Common.{◌≡◌, sym, ◌∙◌, ap}
use Rattle.stamp_history.specs.History.{recorded_of}
use Rattle.stamp_observed.specs.ObservedReading.{observed_of}
use Rattle.stamped_picture.proofs.PageAnswers.{IsNoRecord, memory_is_inner, observed_answer, recorded_answer}
use Rattle.stamped_picture.proofs.page.page_on.Goals as goal
use Rattle.stamped_picture.proofs.page.page_on.Goals.{In-Err}

no_record : (c : In-Err) → IsNoRecord c.args.input.now c.in-Err.error
no_record c = record {
  within = c.in_ok-input.ensures.ok.1;
  refused = λ not. ap recorded_of (sym c.in_ok-input.ensures.ok.0) ∙ c.in-Err.ensures.read not;
}

pub returns-in-Ok-clause-answer : goal.returns-in-Ok-clause-answer
returns-in-Ok-clause-answer c = recorded_answer c.args.most c.args.head.now c.args.tail.now c.args.input.now
    c.in-Ok.history c.recorded_page.result c.in_ok-input.ensures.ok.1
    (ap recorded_of (sym c.in_ok-input.ensures.ok.0) ∙ c.in-Ok.ensures.read) c.recorded_page.ensures.page
    c.recorded_page.ensures.memory

pub returns-in-Ok-clause-inner : goal.returns-in-Ok-clause-inner
returns-in-Ok-clause-inner c = memory_is_inner c.recorded_page.result c.recorded_page.ensures.memory

pub returns-clause-answer : goal.returns-clause-answer
returns-clause-answer c = observed_answer c.args.most c.args.head.now c.args.tail.now c.args.input.now
    c.in-Err.error c.in_ok-observed.observed c.observed_page.result (no_record (goal.at.returns-clause-answer c).In-Err)
    (sym c.is_at_first_entry.ensures ∙ c.if-not-is_at_first_entry.false)
    (ap observed_of (sym c.in_ok-input.ensures.ok.0) ∙ c.in_ok-observed.ensures.read) c.observed_page.ensures.page
    c.observed_page.ensures.memory

pub returns-clause-inner : goal.returns-clause-inner
returns-clause-inner c = memory_is_inner c.observed_page.result c.observed_page.ensures.memory
