use Rattle.std.proofs.Common.{◌≡◌, sym, ◌∙◌, ap, subst}
use Rattle.std.specs.Prelude.{map}
use Rattle.std.specs.List.{Contains}
use Rattle.stamp_core.specs.declared.call.Call.{Call}
use Rattle.stamp_core.specs.declared.call.Call.TheVariants.{Get}
use Rattle.stamp_sets.specs.SmallCall.{call_of, reply_of}
use Rattle.stamp_watch.specs.Possible.{plain_replies}
use Rattle.stamp_watch.specs.inner.Candidates.{MayBeGiven, stamps_given}
use Rattle.stamp_watch.specs.inner.Possible.{replies_in}
use Rattle.stamp_watch.proofs.Giving.{reads_content}
use Rattle.stamp_watch.proofs.PlainReplies.{plain_differ}
use Rattle.stamp_watch.proofs.RepliedNext.{given_stamp, is_open, plain_among, read_content}
use Rattle.stamp_watch.proofs.candidates.candidates.Goals as goal

pub returns-in_default-clause-whole : goal.returns-in_default-clause-whole
returns-in_default-clause-whole c reply explained = absurd (is_open c.args.limits c.layout.ensures.in_range
    c.args.events.now c.args.lane reply explained c.in_default.ensures)

pub returns-in-Some-2-clause-whole : goal.returns-in-Some-2-clause-whole
returns-in-Some-2-clause-whole c reply explained = plain_among c.args.limits c.layout.ensures.in_range
    c.args.events.now c.args.lane reply explained c.in-Some.begun c.in-Some.ensures c.in-Some-2.replies.items
    (ap (plain_replies c.args.limits) c.as_call-call.ensures ∙ sym c.in_ok-replies.ensures ∙
    ap replies_in c.in-Some-2.is)

pub returns-in-Some-2-clause-once : goal.returns-in-Some-2-clause-once
returns-in-Some-2-clause-once c = plain_differ c.args.limits c.as_call-call.result c.in-Some-2.replies.items
    (sym c.in_ok-replies.ensures ∙ ap replies_in c.in-Some-2.is)

pub returns-in-Some-stamps_given-clause-whole : goal.returns-in-Some-stamps_given-clause-whole
returns-in-Some-stamps_given-clause-whole c reply explained =
    let found = given_stamp c.args.limits c.layout.ensures.in_range c.args.events.now c.args.lane reply explained
    c.in-Some.begun c.in-Some.ensures c.in-Some-stamps_given.kind
    (ap stamps_given c.as_call-call.ensures ∙ sym c.in-Some-stamps_given.ensures) in
    subst (Contains (map reply_of c.in_ok-stamps.stamps.items)) (sym found.is_stamp)
    (c.in_ok-stamps.ensures.whole found.old found.version found.stamp found.there
    (subst (λ (call : Call). MayBeGiven c.args.limits call found.old found.version found.stamp) c.as_call-call.ensures
    found.may))

pub returns-clause-whole : goal.returns-clause-whole
returns-clause-whole c reply explained =
    let get : call_of c.in-Some.begun.call ≡ Get = reads_content c.args.limits (call_of c.in-Some.begun.call)
    (ap (plain_replies c.args.limits) c.as_call-call.ensures ∙ sym c.in_ok-replies.ensures ∙
    ap replies_in c.in_default-2.is)
    (ap stamps_given c.as_call-call.ensures ∙ sym c.in_default-stamps_given.ensures) in
    let found = read_content c.args.limits c.layout.ensures.in_range c.args.events.now c.args.lane reply explained
    c.in-Some.begun c.in-Some.ensures get in
    subst (Contains (map reply_of c.in_ok-contents.contents.items)) (sym found.is_content)
    (c.in_ok-contents.ensures.whole found.content found.readable)
