use Rattle.std.proofs.Common.{sym, ◌∙◌, ap, [], ◌∷◌}
use Rattle.std.proofs.lemmas.Bool.{false≢true}
use Rattle.stamp_core.specs.declared.call.Call.TheVariants.{Get, Put, PutIf}
use Rattle.stamp_core.specs.declared.lock_decision.LockReply.TheVariants.{Done, Yes, No}
use Rattle.stamp_sets.specs.declared.small_call.SmallCall.{SmallCall}
use Rattle.stamp_sets.specs.declared.small_call.SmallReply.TheVariants.{OfLock, Content}
use Rattle.stamp_sets.specs.Judged.{guarded, left_by, may_be_done}
use Rattle.stamp_sets.specs.SmallCall.{call_of}
use Rattle.stamp_sets.proofs.Answers.{not_returned, not_taken, returned, taken}
use Rattle.stamp_sets.proofs.RecordEffects.{get_answered, get_stays, put_answered, put_if_no, put_if_stays, put_if_yes}
use Rattle.stamp_sets.proofs.object.record_after.Goals as goal

pub returns-then-is_return : goal.returns-then-is_return
returns-then-is_return c = returned guarded c.args.state c.args.state c.args.begun.now Get (Content c.args.state)
    (ap call_of c.in-Get.is) (get_answered c.args.state) (c.is_return.ensures.0 c.if-is_return.true)

pub returns-else-is_return : goal.returns-else-is_return
returns-else-is_return c = not_returned guarded c.args.state c.args.state c.args.begun.now Get (Content c.args.state)
    (ap call_of c.in-Get.is) (get_answered c.args.state) (get_stays c.args.state)
    (ap (λ (k : SmallCall). left_by k (may_be_done c.args.begun.now.ends)) c.in-Get.is)
    (λ is. false≢true (sym c.if-is_return.false ∙ c.is_return.ensures.1 is))

pub returns-then-may_get : goal.returns-then-may_get
returns-then-may_get c = taken guarded c.args.state c.in-Put.next c.args.begun.now (Put (c.in-Put.next ∷ []))
    (OfLock Done) (ap call_of c.in-Put.is) (put_answered c.args.state c.in-Put.next)
    (c.may_get.ensures.0 c.if-may_get.true)

pub returns-else-may_get : goal.returns-else-may_get
returns-else-may_get c = not_taken guarded c.args.state c.in-Put.next c.args.begun.now (Put (c.in-Put.next ∷ []))
    (OfLock Done) (ap call_of c.in-Put.is) (put_answered c.args.state c.in-Put.next)
    (λ may. false≢true (sym c.if-may_get.false ∙ c.may_get.ensures.1 may))

pub returns-then-may_get-2 : goal.returns-then-may_get-2
returns-then-may_get-2 c = taken guarded c.args.state c.in-PutIf.number c.args.begun.now
    (PutIf (c.in-PutIf.expected ∷ []) (c.in-PutIf.number ∷ [])) (OfLock Yes) (ap call_of c.in-PutIf.is)
    (put_if_yes c.args.state c.in-PutIf.expected c.in-PutIf.number c.if-expected-state.true)
    (c.may_get-then-expected-state.ensures.0 c.if-may_get-2.true)

pub returns-else-may_get-2 : goal.returns-else-may_get-2
returns-else-may_get-2 c = not_taken guarded c.args.state c.in-PutIf.number c.args.begun.now
    (PutIf (c.in-PutIf.expected ∷ []) (c.in-PutIf.number ∷ [])) (OfLock Yes) (ap call_of c.in-PutIf.is)
    (put_if_yes c.args.state c.in-PutIf.expected c.in-PutIf.number c.if-expected-state.true)
    (λ may. false≢true (sym c.if-may_get-2.false ∙ c.may_get-then-expected-state.ensures.1 may))

pub returns-then-is_return-2 : goal.returns-then-is_return-2
returns-then-is_return-2 c = returned guarded c.args.state c.args.state c.args.begun.now
    (PutIf (c.in-PutIf.expected ∷ []) (c.in-PutIf.number ∷ [])) (OfLock No) (ap call_of c.in-PutIf.is)
    (put_if_no c.args.state c.in-PutIf.expected c.in-PutIf.number c.if-expected-state.false)
    (c.is_return-else-expected-state.ensures.0 c.if-is_return-2.true)

pub returns-else-is_return-2 : goal.returns-else-is_return-2
returns-else-is_return-2 c = not_returned guarded c.args.state c.args.state c.args.begun.now
    (PutIf (c.in-PutIf.expected ∷ []) (c.in-PutIf.number ∷ [])) (OfLock No) (ap call_of c.in-PutIf.is)
    (put_if_no c.args.state c.in-PutIf.expected c.in-PutIf.number c.if-expected-state.false)
    (put_if_stays c.args.state c.in-PutIf.expected c.in-PutIf.number c.if-expected-state.false)
    (ap (λ (k : SmallCall). left_by k (may_be_done c.args.begun.now.ends)) c.in-PutIf.is)
    (λ is. false≢true (sym c.if-is_return-2.false ∙ c.is_return-else-expected-state.ensures.1 is))
