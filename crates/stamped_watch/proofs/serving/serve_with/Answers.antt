use Rattle.std.proofs.Common.{◌≡◌, ◌⊎◌, true, rules, subst}
use Rattle.std.specs.Prelude.{IsErrAnd}
use Rattle.stamp_cli.specs.declared.faults.ServeFault.{ServeFault}
use Rattle.stamp_cli.specs.declared.faults.ServeFault.TheVariants.{Memory, ReadFault, WriteFault}
use Rattle.stamped_watch.proofs.ReadingOn.{reads_none, writes_none, writes_not}
use Rattle.stamped_watch.proofs.LinesTold.{told_nothing, told_of_answer}
use Rattle.stamp_cli.specs.Results.{any_since}
use Rattle.stamp_cli.specs.TakesNone.{takes_none}
use Rattle.stamped_watch.proofs.Showing.{written_badly}
use Rattle.stamped_watch.proofs.serving.serve_with.Goals as goal

pub returns-in_err-chunk-clause-reads : goal.returns-in_err-chunk-clause-reads
returns-in_err-chunk-clause-reads g c = reads_none (g.S.Source.left c.args.source.now)
    (g.S.Source.reads c.args.source.now) c.from_residual.result c.from_residual.ensures.1

pub returns-in_err-chunk-clause-told : goal.returns-in_err-chunk-clause-told
returns-in_err-chunk-clause-told g c = told_nothing _ c.args.asked (g.S.Source.left c.args.source.now)
    (g.S.Source.reads c.args.source.now) (g.T.Sink.sent c.args.told.now) (g.T.Sink.writes c.args.told.now)
    c.from_residual.result c.from_residual.ensures.1

pub returns-in_err-chunk-clause-writes : goal.returns-in_err-chunk-clause-writes
returns-in_err-chunk-clause-writes g c = writes_none (g.K.Sink.sent c.args.sink.now) (g.K.Sink.writes c.args.sink.now)
    c.from_residual.result c.from_residual.ensures.1

pub returns-in_err-finding-clause-writes : goal.returns-in_err-finding-clause-writes
returns-in_err-finding-clause-writes g c =
    let is : IsErrAnd c.from_residual-in_err-finding.result (λ (e : ServeFault). (e ≡ ReadFault) ⊎ (e ≡ Memory)) =
    search rules in
    writes_not (g.K.Sink.sent c.args.sink.now) (g.K.Sink.writes c.args.sink.now)
    c.from_residual-in_err-finding.result is

pub returns-clause-told : goal.returns-clause-told
returns-clause-told g c = told_of_answer c.args.asked _ _ _ _ _ _ _ _ c.in_ok-finding.finding _
    (rw c.in_ok-finding.was at c.fed_from.ensures.told)

pub returns-in_err-text-clause-writes : goal.returns-in_err-text-clause-writes
returns-in_err-text-clause-writes g c =
    let is : IsErrAnd c.from_residual-in_err-text.result (λ (e : ServeFault). e ≡ Memory) = grind rules in
    writes_none (g.K.Sink.sent c.args.sink.now) (g.K.Sink.writes c.args.sink.now) c.from_residual-in_err-text.result is

pub returns-in_err-push-clause-writes : goal.returns-in_err-push-clause-writes
returns-in_err-push-clause-writes g c =
    let is : IsErrAnd c.from_residual-in_err-push.result (λ (e : ServeFault). e ≡ Memory) = search rules in
    writes_none (g.K.Sink.sent c.args.sink.now) (g.K.Sink.writes c.args.sink.now) c.from_residual-in_err-push.result is

pub returns-clause-ok : goal.returns-clause-ok
returns-clause-ok g c =
    let all = c.in_ok-finding.ensures.keeps in (
      c.in_ok-finding.finding,
      c.in_ok-finding.ensures.found,
      record {
        verdict = search rules;
        bytes = all.bytes;
        took = all.took;
        count = all.count;
        note = c.note_of-note.ensures all.bytes all.keeps all.there;
        witness = c.show_witness-shown.ensures all.bytes all.keeps all.there;
      },
      search rules,
      search rules,
    )

pub returns-in_err-write_text-clause-writes : goal.returns-in_err-write_text-clause-writes
returns-in_err-write_text-clause-writes g c =
    let wrong : c.in_err-write_text.field-0.0 ≡ WriteFault = search rules in
    let is : IsErrAnd c.from_residual-in_err-write_text.result (λ (e : ServeFault). e ≡ WriteFault) =
    subst (λ (w : ServeFault). IsErrAnd c.from_residual-in_err-write_text.result (λ (e : ServeFault). e ≡ w)) wrong
    c.from_residual-in_err-write_text.ensures.1 in
    let any : any_since takes_none (g.K.Sink.writes c.args.sink.now) (g.K.Sink.writes c.write_text.new.sink) ≡ true =
    search rules in
    written_badly (g.K.Sink.sent c.args.sink.now) (g.K.Sink.sent c.write_text.new.sink)
    (g.K.Sink.writes c.args.sink.now) (g.K.Sink.writes c.write_text.new.sink) c.from_residual-in_err-write_text.result
    is any
