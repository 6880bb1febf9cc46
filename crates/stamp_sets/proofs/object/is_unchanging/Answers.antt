use Rattle.std.proofs.Common.{sym, ◌∙◌, subst}
use Rattle.stamp_sets.specs.declared.small_call.SmallCall.{SmallCall}
use Rattle.stamp_sets.specs.declared.small_call.SmallCall.TheVariants.{OfLock, PutIf}
use Rattle.stamp_sets.specs.declared.small_call.SmallReply.{SmallReply}
use Rattle.stamp_sets.specs.Judged.{judged}
use Rattle.stamp_sets.specs.inner.Effect.{ChangesNothing}
use Rattle.stamp_sets.proofs.Judging.{get_changes_nothing, put_if_changes_nothing, unchanging_of_lock}
use Rattle.stamp_sets.proofs.object.is_unchanging.Goals as goal

pub returns-in-OfLock-reply-clause-unchanging : goal.returns-in-OfLock-reply-clause-unchanging
returns-in-OfLock-reply-clause-unchanging c is object =
    subst (λ (k : SmallCall). ChangesNothing (judged object) k c.args.reply) (sym c.in-OfLock.is)
    (subst (λ (r : SmallReply). ChangesNothing (judged object) (OfLock c.in-OfLock.call) r) (sym c.in-OfLock-reply.is)
    (unchanging_of_lock c.in-OfLock.call c.in-OfLock-reply.reply (sym c.is_unchanging.ensures ∙ is) object))

pub returns-in-Get-clause-unchanging : goal.returns-in-Get-clause-unchanging
returns-in-Get-clause-unchanging c is object = subst (λ (k : SmallCall). ChangesNothing (judged object) k c.args.reply)
    (sym c.in-Get.is)
    (get_changes_nothing c.args.reply object)

pub returns-in-PutIf-clause-unchanging : goal.returns-in-PutIf-clause-unchanging
returns-in-PutIf-clause-unchanging c is object =
    subst (λ (k : SmallCall). ChangesNothing (judged object) k c.args.reply) (sym c.in-PutIf.is)
    (subst (λ (r : SmallReply). ChangesNothing (judged object) (PutIf c.in-PutIf.field-0 c.in-PutIf.field-1) r)
    (sym (c.is_same_reply.ensures.0 is))
    (put_if_changes_nothing c.in-PutIf.field-0 c.in-PutIf.field-1 object))
