use Rattle.std.specs.Prelude.{◌≡◌, ◌-◌, ◌*◌, ◌++◌, length, take}
use Rattle.stamped_watch.specs.EventBytes.{words_in}
use Rattle.stamped_watch.proofs.event_bytes.words_in.Given as goal

abbrev pub invariant-loop-i : goal.invariant-loop-i
invariant-loop-i l = (length l.rest ≡ 8 * (l.len - l.i)) ×
    (take l.i l.words ++ words_in (l.len - l.i) l.rest ≡ words_in l.len l.bytes) × (length l.words ≡ 16)
