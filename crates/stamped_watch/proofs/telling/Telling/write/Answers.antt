use Rattle.std.proofs.Common.{ℕ, ◌≡◌, ◌∙◌, List, ap, rules, subst}
use Rattle.std.specs.Prelude.{is_ok, not}
use Rattle.stamped_watch.specs.inner.Progress.{IsWrittenSo}
use Rattle.stamped_watch.proofs.LinesTold.{line_written, not_ok}
use Rattle.stamped_watch.proofs.telling.Telling.write.Goals as goal

pub returns-then-self-clause-once : goal.returns-then-self-clause-once
returns-then-self-clause-once g c =
    let same : c.as_bytes.result.now ≡ c.args.line.now = search rules in
    let fine : c.is_ok-self.result ≡ is_ok c.write_text.result = search rules in
    rw c.if-self.true (subst (λ (xs : List ℕ). IsWrittenSo xs (g.T.Sink.sent c.args.told.now)
    (g.T.Sink.sent c.write_text.new.sink) (g.T.Sink.writes c.args.told.now) (g.T.Sink.writes c.write_text.new.sink)
    c.is_ok-self.result) same (line_written c.as_bytes.result.now _ _ _ _ c.write_text.result _ _
    c.is_ok-self.result c.write_text.ensures.ok c.write_text.ensures.front c.write_text.ensures.writes
    c.write_text.ensures.failed (ap not fine ∙ not_ok c.write_text.result)))
