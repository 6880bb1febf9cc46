use Rattle.std.proofs.Common.{arith, sym, subst, ◌≡◌, ◌⊎◌, ℕ, length}
use Rattle.std.proofs.lemmas.Grind.{common_steps}
use Rattle.serde_json.specs.View.{view}
use Rattle.stamp_history.proofs.KnownHistory.{known_width, known_entries, known_report}
use Rattle.stamp_history.proofs.history_reading.recorded_in.Goals as goal

pub recorded_from-requires : goal.recorded_from-requires
recorded_from-requires c =
    let d = view c.args.value.now in
    let es = known_entries c.in_ok-width.width d c.in_ok-entries.entries.items c.in_ok-entries.ensures in
    let count : c.len.result ≡ length c.in_ok-entries.entries.items = grind (arith, common_steps) in
    record {
      width = known_width d c.in_ok-width.width (sym c.in_ok-width.ensures);
      entries = es.0;
      report = subst (λ (n : ℕ). (length c.in_ok-report.report.items ≡ 0) ⊎
          (length c.in_ok-report.report.items ≡ n)) count
          (known_report c.len.result d c.in_ok-report.report.items c.in_ok-report.ensures);
      suit = es.1;
    }
