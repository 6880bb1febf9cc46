use Rattle.std.proofs.Common.{◌∙◌}
use Rattle.stamp_watch.proofs.Named.{put_back, put_if_back}
use Rattle.stamp_watch.proofs.names.Names.call_in_words.Goals as goal

pub returns-in-Put-clause-told : goal.returns-in-Put-clause-told
returns-in-Put-clause-told c told named same = put_back c.args.self.now told c.in-Put.words c.named.result named
    (same ∙ c.in-Put.is) c.named.ensures.named

pub returns-in-PutIf-clause-told : goal.returns-in-PutIf-clause-told
returns-in-PutIf-clause-told c told named same = put_if_back c.args.self.now told c.in-PutIf.expected c.in-PutIf.words
    c.named-in-PutIf.result c.named-in-PutIf-2.result named (same ∙ c.in-PutIf.is) c.named-in-PutIf.ensures.named
    c.named-in-PutIf-2.ensures.named
