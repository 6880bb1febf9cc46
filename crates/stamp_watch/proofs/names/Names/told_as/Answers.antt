use Rattle.std.proofs.Common.{ℕ, List, ◌≡◌, ◌∙◌, Some, ap, rules, subst, sym}
use Rattle.std.specs.Prelude.{position, slice_get}
use Rattle.std.proofs.lemmas.Option.{none-some, same_Some}
use Rattle.stamp_core.specs.Content.{same_words}
use Rattle.stamp_core.specs.declared.reply.Reply.{Reply}
use Rattle.stamp_sets.specs.declared.small_call.SmallReply.{SmallReply}
use Rattle.stamp_watch.specs.inner.Names.{IsReplyBy}
use Rattle.stamp_watch.proofs.Named.{content_told, number_there, position_there}
use Rattle.stamp_watch.proofs.names.Names.told_as.Goals as goal
use Rattle.stamp_watch.proofs.names.Names.told_as.Goals.{In_default, in_default-via-in-Some+else-found-number}
use Rattle.stamp_watch.proofs.names.Names.told_as.Goals.{in_default-via-in_default}

-- where a reply has this number its content is found there
found_there : (c : In_default) (told : Reply) → IsReplyBy c.args.self.now told c.args.reply →
    c.find.result ≡ Some c.in-Content.number
found_there c told is =
    let its = content_told c.args.self.now told c.in-Content.number
    (subst (λ (r : SmallReply). IsReplyBy c.args.self.now told r) c.in-Content.is is) in
    let there : slice_get c.args.self.now c.in-Content.number ≡ Some c.in_ok-words-in-Content.words = search rules in
    let same : c.in_ok-words-in-Content.words ≡ its.0 = same_Some c.in_ok-words-in-Content.words its.0
    (sym there ∙ number_there c.args.self.now its.0 c.in-Content.number its.1.1) in
    c.find.ensures ∙
    ap (λ (ws : List ℕ). position (same_words ws) c.args.self.now) (c.as_slice.ensures ∙ same) ∙
    position_there c.args.self.now its.0 c.in-Content.number its.1.1

pub returns-in_default : goal.returns-in_default
returns-in_default c told is =
    let found = found_there (goal.at.returns-in_default c).In_default told is in
    elim c.in_default.branch [
      | in_default-via-in-Some+else-found-number w ↦
          w.if-found-number.false (same_Some w.in-Some.found c.in-Content.number (sym w.in-Some.is ∙ found))
      | in_default-via-in_default w ↦ none-some c.in-Content.number (sym w.in_default.is ∙ found)
    ]
