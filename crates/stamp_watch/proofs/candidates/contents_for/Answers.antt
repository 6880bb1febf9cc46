use Rattle.std.proofs.Common.{◌≡◌, ◌∷◌, [], ℕ, List, sym, ◌∙◌, ap, subst}
use Rattle.std.specs.Prelude.{map}
use Rattle.std.specs.List.{Contains}
use Rattle.stamp_core.specs.declared.reply.Reply.TheVariants.{Content}
use Rattle.stamp_sets.specs.SmallCall.{reply_of}
use Rattle.stamp_watch.specs.inner.Candidates.{as_content}
use Rattle.stamp_watch.proofs.Gathering.{content_replied, contents_differ}
use Rattle.stamp_watch.proofs.candidates.contents_for.Goals as goal

pub returns-clause-whole : goal.returns-clause-whole
returns-clause-whole c content left = by (c.in_ok-numbers.ensures content left)
  where
    by : (n : ℕ) × (content ≡ n ∷ []) × Contains c.in_ok-numbers.numbers.items n →
        Contains (map reply_of c.in_ok-replies.replies.items) (Content content)
    by one = subst (λ (words : List ℕ). Contains (map reply_of c.in_ok-replies.replies.items) (Content words))
        (sym one.1) (content_replied c.once.new.numbers.items c.in_ok-replies.replies.items one.0
        (c.in_ok-replies.ensures ∙ ap (map as_content) c.as_slice.ensures.value) (c.once.ensures.keeps one.0 one.2))

pub returns-clause-once : goal.returns-clause-once
returns-clause-once c = contents_differ c.once.new.numbers.items c.in_ok-replies.replies.items
    (c.in_ok-replies.ensures ∙ ap (map as_content) c.as_slice.ensures.value) c.once.ensures.rises
