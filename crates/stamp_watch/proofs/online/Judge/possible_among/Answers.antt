use Rattle.std.proofs.Common.{◌≡◌, ◌+◌, ◌∷◌, [], ◌++◌, Bool, List, Option, Vec, Global, sym, ◌∙◌, ap, subst, arith}
use Rattle.std.specs.Prelude.{map, take}
use Rattle.std.proofs.lemmas.Bool.{false≢true}
use Rattle.std.proofs.lemmas.List.{map-append, take_all}
use Rattle.stamp_sets.specs.SmallCall.{reply_of}
use Rattle.stamp_sets.specs.declared.small_call.SmallReply.{SmallReply}
use Rattle.stamp_core.specs.declared.reply.Reply.{Reply}
use Rattle.stamp_explain.proofs.Lists.{contains_at}
use Rattle.stamp_explain.proofs.Choosing.{AreChosen, chosen, none_more_chosen, one_chosen}
use Rattle.stamp_watch.specs.Possible.{IsPossibleReply}
use Rattle.stamp_watch.specs.inner.Possible.{IsPossibleSo}
use Rattle.stamp_watch.proofs.Reading.{up_to}
use Rattle.stamp_watch.proofs.online.Judge.possible_among.Goals as goal
use Rattle.stamp_watch.proofs.online.Judge.possible_among.Goals.{then-is_possible+in_ok-push, else-is_possible}

pub loop-k-preserved : goal.loop-k-preserved
loop-k-preserved c limits run keeps =
    let P : Reply → Type 0 = IsPossibleReply limits run c.args.number in
    let own : SmallReply = c.reply_at-reply.result in
    let reply : Reply = reply_of own in
    let tried : List Reply = map reply_of (take c.loop-k.k c.args.replies.now) in
    let found : List Reply = c.loop-k.found.items in
    let so_far = c.loop-k.invariant limits run keeps in
    let answer = subst (λ (o : Option Bool). IsPossibleSo c.args.self.now c.args.number own o) c.in-Some-2.is
    c.in_ok-is_possible.ensures limits run keeps in
    let more : map reply_of (take (c.loop-k.k + 1) c.args.replies.now) ≡ tried ++ reply ∷ [] =
    ap (map reply_of) (up_to c.args.replies.now c.loop-k.k own c.reply_at-reply.ensures) ∙
    map-append reply_of (take c.loop-k.k c.args.replies.now) (own ∷ []) in
    subst (λ (rs : List Reply). AreChosen P rs c.if-is_possible.found.items) (sym more) (elim c.if-is_possible.branch [
      | then-is_possible+in_ok-push w ↦ subst (AreChosen P (tried ++ reply ∷ []))
          (sym (ap (λ (v : Vec Reply Global). v.items) w.found-is ∙ w.in_ok-push.ensures.items ∙
          ap (λ (r : Reply). found ++ r ∷ []) (sym w.as_reply.ensures)))
          (one_chosen P tried found reply so_far (answer.0 w.if-is_possible.true))
      | else-is_possible w ↦ subst (AreChosen P (tried ++ reply ∷ []))
          (sym (ap (λ (v : Vec Reply Global). v.items) w.found-is))
          (none_more_chosen P tried found reply so_far
          (λ is. false≢true (sym w.if-is_possible.false ∙ answer.1 is)))
    ])

pub returns : goal.returns
returns c limits run keeps =
    let P : Reply → Type 0 = IsPossibleReply limits run c.args.number in
    let are : AreChosen P (map reply_of c.args.replies.now) c.loop-k.found.items =
    subst (λ (rs : List SmallReply). AreChosen P (map reply_of rs) c.loop-k.found.items)
    (take_all c.loop-k.k c.args.replies.now (omega (arith, c.loop-k-test.false)))
    (c.loop-k.invariant limits run keeps) in
    record { each = chosen P (map reply_of c.args.replies.now) c.loop-k.found.items are; once = are.once }

pub returns-in_default-2 : goal.returns-in_default-2
returns-in_default-2 c can limits run keeps = (
  c.reply_at-reply.result,
  contains_at c.args.replies.now c.loop-k.k c.reply_at-reply.result c.reply_at-reply.ensures,
  subst (λ (o : Option Bool). IsPossibleSo c.args.self.now c.args.number c.reply_at-reply.result o) c.in_default-2.is
      c.in_ok-is_possible.ensures limits run keeps,
)
