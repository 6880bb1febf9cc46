use Rattle.std.proofs.Common.{◌≡◌, ◌==◌, false, ◌∙◌, ap, sym, inr}
use Rattle.stamp_core.specs.LockDecision.{reply_as}
use Rattle.stamp_machines.proofs.LockCallSteps.{by_number}
use Rattle.stamp_threads.specs.LockPass.{LockView, LockToken, first_of}
use Rattle.stamp_threads.specs.inner.LockRule.{Loaded, Won}
use Rattle.stamp_threads.specs.inner.GoesAsMachine.{IsToDecide}
use Rattle.stamp_threads.proofs.CallSteps.{exchange_won, exchange_lost, never_waits}
use Rattle.stamp_threads.proofs.GoingAsMachine.{begins, is_made_by_answer, ends_by_answer, is_made_by_change}
use Rattle.stamp_threads.proofs.GoingAsMachine.{ends_by_change, loses_exchange, goes_to_change}
use Rattle.stamp_threads.proofs.Replying.{may_reply}
use Rattle.stamp_threads.proofs.TwoAccesses.{twice_by_win, twice_by_answer, loses}
use Rattle.stamp_threads.proofs.running_lock.RunningLock.once_in.Given.{Over}
use Rattle.stamp_threads.proofs.running_lock.RunningLock.once_in.Goals as goal
use Rattle.stamp_threads.proofs.running_lock.RunningLock.once_in.Goals.{in-Answer-decide, in-Change-decide}

pub exchange-found-requires-clause-changes : goal.exchange-found-requires-clause-changes
exchange-found-requires-clause-changes g c =
    let limits = c.self.invariant.0 ∙ ap (λ (l : LockView). l.limits) c.self.view_is in
    rw (c.bits.ensures.bits, limits)
    (reply_as c.in-Change.reply, by_number _ _ _ _ _ c.in-Change.ensures.decides)

pub returns-in-Answer-clause-machine : goal.returns-in-Answer-clause-machine
returns-in-Answer-clause-machine g c =
    let limits = c.self.invariant.0 ∙ ap (λ (l : LockView). l.limits) c.self.view_is in
    let view = ap (λ (p : LockToken). p.view) c.pass.view_is in
    let learned = rw (limits, view) at c.load-loaded.ensures.learned in
    let begun = begins _ _ _ _ _ (c.try_form-call.ensures.lock_call c.requires.lock_call) learned in
    rw (← c.try_form-call.ensures.form, c.as_reply.ensures)
    (ends_by_answer _ _ _ _ _ begun _ c.in-Answer.ensures.number)

pub returns-in-Answer-clause-ok : goal.returns-in-Answer-clause-ok
returns-in-Answer-clause-ok g c =
    let limits = c.self.invariant.0 ∙ ap (λ (l : LockView). l.limits) c.self.view_is in
    let view = ap (λ (p : LockToken). p.view) c.pass.view_is in
    let learned = rw (limits, view) at c.load-loaded.ensures.learned in
    let lock = c.try_form-call.ensures.lock_call c.requires.lock_call in
    rw (← c.try_form-call.ensures.form, c.as_reply.ensures)
    (is_made_by_answer _ _ _ _ _ (begins _ _ _ _ _ lock learned) _ c.in-Answer.ensures.decides)

pub returns-in-Answer-clause-reply : goal.returns-in-Answer-clause-reply
returns-in-Answer-clause-reply g c =
    let limits = c.self.invariant.0 ∙ ap (λ (l : LockView). l.limits) c.self.view_is in
    let view = ap (λ (p : LockToken). p.view) c.pass.view_is in
    let learned = rw (limits, view) at c.load-loaded.ensures.learned in
    let lock = c.try_form-call.ensures.lock_call c.requires.lock_call in
    rw (← c.try_form-call.ensures.form, c.as_reply.ensures)
    (may_reply _ _ _ _ _ lock
    (is_made_by_answer _ _ _ _ _ (begins _ _ _ _ _ lock learned) _ c.in-Answer.ensures.decides))

-- the exchange found the word loaded
module _ (g : Over) (c : goal.After-as_reply-then-found-loaded g) where
  loaded : Loaded c.args.self.now.limits c.try_form-call.result c.args.pass.now.view
      c.load-loaded.result (first_of c.load-loaded.new.seat.me.0)
  loaded =
      let limits = c.self.invariant.0 ∙ ap (λ (l : LockView). l.limits) c.self.view_is in
      let view = ap (λ (p : LockToken). p.view) c.pass.view_is in
      rw (limits, view) at c.load-loaded.ensures.learned

  begun : IsToDecide c.args.self.now.limits c.try_form-call.result c.args.pass.now.view
      c.load-loaded.result (first_of c.load-loaded.new.seat.me.0)
  begun = begins _ _ _ _ _ (c.try_form-call.ensures.lock_call c.requires.lock_call) loaded

  won : Won c.args.self.now.limits c.try_form-call.result (first_of c.load-loaded.new.seat.me.0)
      c.load-loaded.result (first_of c.exchange-found.new.seat.me.0)
  won =
      let limits = c.self.invariant.0 ∙ ap (λ (l : LockView). l.limits) c.self.view_is in
      exchange_won _ _ _ _ _ _ c.if-found-loaded.true (rw limits at c.exchange-found.ensures.learned)

pub returns-then-found-loaded-clause-ok : goal.returns-then-found-loaded-clause-ok
returns-then-found-loaded-clause-ok g c =
    rw (← c.try_form-call.ensures.form, c.as_reply-then-found-loaded.ensures)
    (is_made_by_change _ _ _ _ _ (begun g c) _ _ c.in-Change.ensures.decides c.in-Change.ensures.number _ (won g c))

pub returns-then-found-loaded-clause-reply : goal.returns-then-found-loaded-clause-reply
returns-then-found-loaded-clause-reply g c =
    rw (← c.try_form-call.ensures.form, c.as_reply-then-found-loaded.ensures)
    (may_reply _ _ _ _ _ (c.try_form-call.ensures.lock_call c.requires.lock_call)
    (is_made_by_change _ _ _ _ _ (begun g c) _ _ c.in-Change.ensures.decides c.in-Change.ensures.number _
    (won g c)))

pub returns-then-found-loaded-clause-accesses : goal.returns-then-found-loaded-clause-accesses
returns-then-found-loaded-clause-accesses g c =
    inr (twice_by_win _ _ _ _ _ _ _ (loaded g c) c.in-Change.ensures.decides _ (won g c))

pub returns-then-found-loaded-clause-machine : goal.returns-then-found-loaded-clause-machine
returns-then-found-loaded-clause-machine g c =
    rw (← c.try_form-call.ensures.form, c.as_reply-then-found-loaded.ensures)
    (ends_by_change _ _ _ _ _ (begun g c) _ _ c.in-Change.ensures.decides c.in-Change.ensures.number _
    (won g c))

pub unreachable-requires : goal.unreachable-requires
unreachable-requires g c =
    let limits = c.self.invariant.0 ∙ ap (λ (l : LockView). l.limits) c.self.view_is in
    let learned = rw limits at c.exchange-found.ensures.learned in
    let lost = exchange_lost _ _ _ _ _ _ c.if-found-loaded.false learned in
    never_waits _ _ _ _ _ (c.try_form-call.ensures.lock_call c.requires.lock_call)
    c.try_form-call.ensures.never lost.1 c.in-Wait-decide.ensures.decides

pub unreachable-requires-in-Wait : goal.unreachable-requires-in-Wait
unreachable-requires-in-Wait g c =
    let limits = c.self.invariant.0 ∙ ap (λ (l : LockView). l.limits) c.self.view_is in
    let view = ap (λ (p : LockToken). p.view) c.pass.view_is in
    let learned = rw (limits, view) at c.load-loaded.ensures.learned in
    never_waits _ _ _ _ _ (c.try_form-call.ensures.lock_call c.requires.lock_call)
    c.try_form-call.ensures.never learned c.in-Wait.ensures.decides

-- the exchange found another word, so the pass has learned what it would by a load: the call is still under way
module _ (g : Over) (c : goal.Joined-decide-2 g) where
  learned : Loaded c.args.self.now.limits c.try_form-call.result c.args.pass.now.view
      c.load-loaded.result (first_of c.load-loaded.new.seat.me.0)
  learned =
      let limits = c.self.invariant.0 ∙ ap (λ (l : LockView). l.limits) c.self.view_is in
      let view = ap (λ (p : LockToken). p.view) c.pass.view_is in
      rw (limits, view) at c.load-loaded.ensures.learned

  lost : ((c.exchange-found.result == c.load-loaded.result) ≡ false) × Loaded c.args.self.now.limits
      c.try_form-call.result (first_of c.load-loaded.new.seat.me.0) c.exchange-found.result
      (first_of c.exchange-found.new.seat.me.0)
  lost =
      let limits = c.self.invariant.0 ∙ ap (λ (l : LockView). l.limits) c.self.view_is in
      exchange_lost _ _ _ _ _ _ c.if-found-loaded.false (rw limits at c.exchange-found.ensures.learned)

  to_decide : IsToDecide c.args.self.now.limits c.try_form-call.result c.args.pass.now.view
      c.exchange-found.result (first_of c.exchange-found.new.seat.me.0)
  to_decide =
      let begun = begins _ _ _ _ _ (c.try_form-call.ensures.lock_call c.requires.lock_call) learned in
      loses_exchange _ _ _ _ _ begun _ _ c.in-Change.ensures.decides c.in-Change.ensures.number _ _
      lost.0 lost.1

pub returns-after-decide-2-clause-ok : goal.returns-after-decide-2-clause-ok
returns-after-decide-2-clause-ok g c = elim c.match-decide-2.branch [
  | in-Answer-decide w ↦ rw (w.result-is, ← c.try_form-call.ensures.form, w.as_reply-in-Answer-decide.ensures)
      (is_made_by_answer _ _ _ _ _ (to_decide g c) _ w.in-Answer-decide.ensures.decides)
  | in-Change-decide w ↦ rw w.result-is tt
]

pub returns-after-decide-2-clause-reply : goal.returns-after-decide-2-clause-reply
returns-after-decide-2-clause-reply g c = elim c.match-decide-2.branch [
  | in-Answer-decide w ↦ rw (w.result-is, ← c.try_form-call.ensures.form, w.as_reply-in-Answer-decide.ensures)
      (may_reply _ _ _ _ _ (c.try_form-call.ensures.lock_call c.requires.lock_call)
      (is_made_by_answer _ _ _ _ _ (to_decide g c) _ w.in-Answer-decide.ensures.decides))
  | in-Change-decide w ↦ rw w.result-is tt
]

pub returns-after-decide-2-clause-accesses : goal.returns-after-decide-2-clause-accesses
returns-after-decide-2-clause-accesses g c = elim c.match-decide-2.branch [
  | in-Answer-decide w ↦ rw w.result-is
      (inr (twice_by_answer _ _ _ _ _ _ _ (learned g c) c.in-Change.ensures.decides _ _ _ (lost g c).1
      w.in-Answer-decide.ensures.decides))
  | in-Change-decide w ↦ rw w.result-is tt
]

pub returns-after-decide-2-clause-lost : goal.returns-after-decide-2-clause-lost
returns-after-decide-2-clause-lost g c = elim c.match-decide-2.branch [
  | in-Answer-decide w ↦ rw w.result-is tt
  | in-Change-decide w ↦ rw (w.result-is, ← c.try_form-call.ensures.form)
      (loses _ _ _ _ _ _ _ (learned g c) c.in-Change.ensures.decides _ _ _ _
      (λ e. c.if-found-loaded.false (sym e)) (lost g c).1 w.in-Change-decide.ensures.decides)
]

pub returns-after-decide-2-clause-machine : goal.returns-after-decide-2-clause-machine
returns-after-decide-2-clause-machine g c = elim c.match-decide-2.branch [
  | in-Answer-decide w ↦ rw (w.result-is, ← c.try_form-call.ensures.form, w.as_reply-in-Answer-decide.ensures)
      (ends_by_answer _ _ _ _ _ (to_decide g c) _ w.in-Answer-decide.ensures.number)
  | in-Change-decide w ↦ rw (w.result-is, ← c.try_form-call.ensures.form)
      (goes_to_change _ _ _ _ _ _ _ (to_decide g c) w.in-Change-decide.ensures.number)
]
