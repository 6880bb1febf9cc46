use Rattle.std.proofs.Common.{◌≡◌, ◌∙◌, List, length, ap, take, arith, sym, subst, ◌<◌}
use Rattle.std.specs.List.{All}
use Rattle.std.proofs.lemmas.List.Elements.{All-take}
use Rattle.stamp_core.specs.Record.{EntrySuits}
use Rattle.stamp_core.specs.declared.entry.Entry.{Entry}
use Rattle.stamp_picture.proofs.EachInTurn.{few_lanes}
use Rattle.std.specs.Prelude.{count_by}
use Rattle.stamp_picture.specs.declared.bar.Bar.{Bar}
use Rattle.stamp_picture.specs.Window.{meets}
use Rattle.stamp_picture.proofs.OnePicture.{counted}
use Rattle.stamp_picture.proofs.picture.picture_of.Goals as goal

pub returns-clause-few : goal.returns-clause-few
returns-clause-few c =
    let xs = take c.counts_of-right.result.1 c.entries-entries.result.now in
    let bars : length c.in_ok-bars.bars.items ≡ count_by (meets c.args.window) xs =
    ap (λ (bars : List Bar). length bars) (c.in_ok-bars.ensures) ∙ counted c.args.window 0 xs in
    omega (arith, bars, c.shown_in-shown.ensures, c.if-shown-gt-MOST_BARS.false)

pub returns-clause-lanes : goal.returns-clause-lanes
returns-clause-lanes c =
    let r = c.args.history.now in
    let n = c.counts_of-right.result.1 in
    let suit : All (EntrySuits r.width) c.entries-entries.result.now = subst
    (λ (xs : List Entry). All (EntrySuits r.width) xs) (sym c.entries-entries.ensures.entries)
    c.entries-entries.ensures.known.suit in
    let few = few_lanes r.width c.args.window 0 (take n c.entries-entries.result.now)
    (All-take (EntrySuits r.width) n c.entries-entries.result.now suit) in
    subst (λ (bars : List Bar). All (λ (b : Bar). b.lane < 64) bars) (sym c.in_ok-bars.ensures) few
