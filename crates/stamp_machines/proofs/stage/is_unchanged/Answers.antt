use Rattle.std.proofs.Common.{◌≡◌, ◌==◌, refl, true, false, sym, ◌∙◌, ap}
use Rattle.std.specs.Prelude.{not}
use Rattle.stamp_machines.specs.LockNumber.{counts_at}
use Rattle.stamp_machines.proofs.WordTests.{writers_told, writes_at}
use Rattle.stamp_machines.proofs.stage.is_unchanged.Goals as goal

pub returns-then-not-is_writing : goal.returns-then-not-is_writing
returns-then-not-is_writing c =
    let limits = c.args.limits in
    let range = c.layout.ensures.in_range in
    let free : not c.is_writing.result ≡ ((counts_at limits c.args.found).writers == 0) =
    rw c.word-now.ensures at
    (writers_told limits c.word-now.result c.is_writing.result range
    (rw c.word-now.ensures c.requires.word) c.is_writing.ensures) in
    let now : c.writes.result ≡ (counts_at limits c.args.found).write_count =
    rw c.word-now.ensures at
    (writes_at limits c.word-now.result c.writes.result range
    (rw c.word-now.ensures c.requires.word) c.writes.ensures) in
    let before : c.writes-then-not-is_writing.result ≡ (counts_at limits c.args.at_first).write_count =
    rw c.word.ensures at
    (writes_at limits c.word.result c.writes-then-not-is_writing.result range
    (rw c.word.ensures c.requires.at_first) c.writes-then-not-is_writing.ensures) in
    let yes : ((counts_at limits c.args.found).writers == 0) ≡ true =
    sym free ∙ ap not c.if-not-is_writing.true in
    rw (yes, now, before) refl

pub returns-else-not-is_writing : goal.returns-else-not-is_writing
returns-else-not-is_writing c =
    let limits = c.args.limits in
    let range = c.layout.ensures.in_range in
    let free : not c.is_writing.result ≡ ((counts_at limits c.args.found).writers == 0) =
    rw c.word-now.ensures at
    (writers_told limits c.word-now.result c.is_writing.result range
    (rw c.word-now.ensures c.requires.word) c.is_writing.ensures) in
    let no : ((counts_at limits c.args.found).writers == 0) ≡ false =
    sym free ∙ ap not c.if-not-is_writing.false in
    rw (no, c.if-not-is_writing.false) refl
