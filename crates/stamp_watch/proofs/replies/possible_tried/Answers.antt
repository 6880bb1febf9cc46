use Rattle.std.proofs.Common.{◌≡◌, ◌+◌, ◌++◌, ◌∷◌, [], ◌∙◌, List, Option, Vec, Global, ap, arith, subst, sym}
use Rattle.std.specs.Prelude.{take}
use Rattle.std.proofs.lemmas.List.{take_all}
use Rattle.stamp_core.specs.declared.reply.Reply.{Reply}
use Rattle.stamp_sets.specs.declared.small_call.SmallReply.{SmallReply}
use Rattle.stamp_watch.specs.inner.Trial.{AreFound, IsFoundOrNone}
use Rattle.stamp_watch.proofs.Reading.{up_to}
use Rattle.stamp_watch.proofs.AllFound.{none_found, none_found_more, one_found_more}
use Rattle.stamp_watch.proofs.replies.possible_tried.Goals as goal
use Rattle.stamp_watch.proofs.replies.possible_tried.Goals.{in-Some+in_ok-push, in_default}

pub loop-k-init : goal.loop-k-init
loop-k-init c i most is = subst (AreFound c.args.observed.now i c.args.names.now []) (sym c.new-found.ensures.items)
    (none_found c.args.observed.now i c.args.names.now)

pub loop-k-preserved : goal.loop-k-preserved
loop-k-preserved c i most is =
    let small : SmallReply = c.reply_at-small.result in
    let tried : List SmallReply = take c.loop-k.k c.args.tried.now in
    let found : List Reply = c.loop-k.found.items in
    let so_far = c.loop-k.invariant i most is in
    let answer = c.in_ok-reply.ensures.found i most is in
    let more : take (c.loop-k.k + 1) c.args.tried.now ≡ tried ++ small ∷ [] =
    up_to c.args.tried.now c.loop-k.k small c.reply_at-small.ensures in
    subst (λ (ts : List SmallReply). AreFound c.args.observed.now i c.args.names.now ts c.match-branch-2.found.items)
    (sym more) (elim c.match-branch-2.branch [
      | in-Some+in_ok-push w ↦ subst (AreFound c.args.observed.now i c.args.names.now (tried ++ small ∷ []))
          (sym (ap (λ (v : Vec Reply Global). v.items) w.found-is ∙ w.in_ok-push.ensures))
          (one_found_more c.args.observed.now i c.args.names.now tried found small so_far w.in-Some.reply
          (subst (λ (o : Option Reply). IsFoundOrNone c.args.observed.now i c.args.names.now small o) w.in-Some.is
          answer))
      | in_default w ↦ subst (AreFound c.args.observed.now i c.args.names.now (tried ++ small ∷ []))
          (sym (ap (λ (v : Vec Reply Global). v.items) w.found-is))
          (none_found_more c.args.observed.now i c.args.names.now tried found small so_far
          (subst (λ (o : Option Reply). IsFoundOrNone c.args.observed.now i c.args.names.now small o) w.in_default.is
          answer))
    ])

pub returns-clause-found : goal.returns-clause-found
returns-clause-found c i most is =
    subst (λ (ts : List SmallReply). AreFound c.args.observed.now i c.args.names.now ts c.loop-k.found.items)
    (take_all c.loop-k.k c.args.tried.now (omega (arith, c.loop-k-test.false))) (c.loop-k.invariant i most is)
