use Rattle.std.proofs.Common.{sym, subst}
use Rattle.serde_json.specs.View.{view}
use Rattle.stamp_history.proofs.KnownHistory.{known_width}
use Rattle.stamp_observed.specs.Suited.{AreSuited}
use Rattle.stamp_observed.proofs.Known.{known_entries}
use Rattle.stamp_observed.proofs.observed_reading.observed_in.Goals as goal

pub observed_from-requires : goal.observed_from-requires
observed_from-requires c =
    let d = view c.args.value.now in
    let es = known_entries c.in_ok-width.width d c.in_ok-entries.entries.items c.in_ok-entries.ensures in
    record {
      width = known_width d c.in_ok-width.width (sym c.in_ok-width.ensures);
      entries = es.0;
      positions = λ k e lt. (es.1 k e lt).low;
    }

pub returns-clause-suited : goal.returns-clause-suited
returns-clause-suited c =
    let es = known_entries c.in_ok-width.width (view c.args.value.now) c.in_ok-entries.entries.items
    c.in_ok-entries.ensures in
    subst AreSuited (sym c.observed_from.ensures)
    (record { threads = λ k e lt. (es.1 k e lt).thread; suit = λ k e lt. (es.1 k e lt).suits })
