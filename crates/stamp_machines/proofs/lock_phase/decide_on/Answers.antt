use Rattle.std.proofs.Common.{◌≢◌, Some, sym}
use Rattle.stamp_core.specs.Decision.{Decides}
use Rattle.stamp_core.specs.LockDecision.{reply_as}
use Rattle.stamp_core.specs.Word.{word_at}
use Rattle.stamp_core.specs.declared.decision.Decision.TheVariants.{Change, Wait}
use Rattle.stamp_machines.specs.PhaseState.{PhaseState}
use Rattle.stamp_machines.proofs.LockCallSteps.{won, lost, not_seen}
use Rattle.stamp_machines.proofs.CommonWords.{won-word}
use Rattle.stamp_machines.proofs.lock_phase.decide_on.Goals as goal

pub returns-then-is_seen-clause-leads : goal.returns-then-is_seen-clause-leads
returns-then-is_seen-clause-leads c = λ at.
    let p : PhaseState =
    record { at = at; limits = c.args.limits; call = c.args.call.now; seen = c.args.seen } in
    let says : Decides p.limits (word_at p.limits c.args.found) p.call
    (Change c.in-Change.new (reply_as c.in-Change.lock_reply)) =
    rw c.word.ensures at c.in-Change.ensures.decides in
    rw c.as_reply-then-is_seen.ensures (won p c.args.found c.in-Change.new (reply_as c.in-Change.lock_reply)
    (c.is_seen.ensures.0 c.if-is_seen.true)
    says)

pub returns-else-is_seen-clause-leads : goal.returns-else-is_seen-clause-leads
returns-else-is_seen-clause-leads c = λ at.
    let p : PhaseState =
    record { at = at; limits = c.args.limits; call = c.args.call.now; seen = c.args.seen } in
    let says : Decides p.limits (word_at p.limits c.args.found) p.call
    (Change c.in-Change.new (reply_as c.in-Change.lock_reply)) =
    rw c.word.ensures at c.in-Change.ensures.decides in
    let other : c.args.seen ≢ Some c.args.found = λ e. let yes = c.is_seen.ensures.1 e in let no =
    c.if-is_seen.false in cc in
    lost p c.args.found (Change c.in-Change.new (reply_as c.in-Change.lock_reply)) c.layout.ensures.in_range
    c.requires.phase.0 c.requires.word other says

pub returns-in-Wait-clause-leads : goal.returns-in-Wait-clause-leads
returns-in-Wait-clause-leads c = λ at.
    let p : PhaseState =
    record { at = at; limits = c.args.limits; call = c.args.call.now; seen = c.args.seen } in
    let says : Decides p.limits (word_at p.limits c.args.found) p.call Wait =
    rw c.word.ensures at c.in-Wait.ensures.decides in
    lost p c.args.found Wait c.layout.ensures.in_range c.requires.phase.0 c.requires.word
    (not_seen p.limits p.call c.args.seen c.args.found c.requires.phase.1
    (rw c.word.ensures at c.in-Wait.ensures.number)) says

pub returns-else-is_seen-clause-changing : goal.returns-else-is_seen-clause-changing
returns-else-is_seen-clause-changing c = record {
  admitted = c.requires.word;
  new = c.in-Change.new;
  reply = reply_as c.in-Change.lock_reply;
  decided = sym (rw c.word.ensures at c.in-Change.ensures.number);
}

pub returns-then-is_seen-clause-word : goal.returns-then-is_seen-clause-word
returns-then-is_seen-clause-word c =
    rw c.bits.ensures.bits
    (won-word c.args.limits c.args.call.now c.args.seen c.args.found c.in-Change.new
    (reply_as c.in-Change.lock_reply) (c.is_seen.ensures.0 c.if-is_seen.true)
    (sym (rw c.word.ensures at c.in-Change.ensures.number)))
