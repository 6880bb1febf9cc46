use Rattle.std.proofs.Common.{◌∙◌}
use Rattle.stamp_watch.proofs.Named.{content_back}
use Rattle.stamp_watch.proofs.names.Names.reply_in_words.Goals as goal

pub returns-in-Content-clause-told : goal.returns-in-Content-clause-told
returns-in-Content-clause-told c told named same = content_back c.args.self.now told c.in-Content.words
    c.named.result named (same ∙ c.in-Content.is) c.named.ensures.named
