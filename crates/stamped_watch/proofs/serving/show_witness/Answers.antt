use Rattle.std.proofs.Common.{ℕ, ◌≡◌, List, Ok, true, refl, rules, subst, sym}
use Rattle.stamp_cli.specs.Shell.{SinkView}
use Rattle.stamped_watch.specs.declared.finding.Finding.{Finding}
use Rattle.stamped_watch.specs.declared.finding.Finding.TheVariants.{Stuck}
use Rattle.stamped_watch.specs.declared.witness.Shown.TheVariants.{Given}
use Rattle.stamped_watch.specs.Progress.{IsWritten}
use Rattle.stamped_watch.specs.StreamJudge.{EndsInStream}
use Rattle.stamped_watch.specs.Witness.{HasShown, IsTextIn}
use Rattle.stamped_watch.proofs.Showing.{shown_at, text_written}
use Rattle.stamped_watch.proofs.serving.show_witness.Goals as goal

pub returns : goal.returns
returns g c fed keeps ends =
    let on : c.args.asked.witness ≡ true = search rules in
    let stuck : c.args.finding.now ≡ Stuck c.in-Stuck.event = search rules in
    let same : c.deref.result.now ≡ c.in_ok-text.text.items = search rules in
    let old : SinkView =
    record { sent = g.W.Sink.sent c.args.witness.now; writes = g.W.Sink.writes c.args.witness.now } in
    let new : SinkView =
    record { sent = g.W.Sink.sent c.write_text.new.sink; writes = g.W.Sink.writes c.write_text.new.sink } in
    let there : EndsInStream fed c.args.judge.now.judge (Stuck c.in-Stuck.event) =
    subst (λ (f : Finding). EndsInStream fed c.args.judge.now.judge f) stuck ends in
    let is : IsTextIn fed c.in-Stuck.event c.in_ok-text.text.items =
    c.in_ok-text.ensures c.args.asked fed refl keeps there in
    subst (λ (f : Finding). HasShown c.args.asked fed f old new (Ok Given)) (sym stuck)
    (shown_at c.args.asked fed c.in-Stuck.event old new (Ok Given) on (record {
      text = c.in_ok-text.text.items;
      is = is;
      written = subst (λ (xs : List ℕ). IsWritten xs (g.W.Sink.sent c.args.witness.now)
          (g.W.Sink.sent c.write_text.new.sink) (g.W.Sink.writes c.args.witness.now)
          (g.W.Sink.writes c.write_text.new.sink)) same (text_written c.deref.result.now _ _ _ _ c.write_text.result
          _ _ c.write_text.ensures.ok c.write_text.ensures.front c.write_text.ensures.writes
          c.write_text.ensures.failed);
    }))
