-- The value of a recorded history from its parts.
use Rattle.std.proofs.Common.{◌≡◌, ℕ, List, refl}
use Rattle.stamp_core.specs.Record.{Recorded}
use Rattle.stamp_core.specs.Limits.{Bounds, bounds}
use Rattle.stamp_core.specs.declared.entry.Entry.{Entry}
use Rattle.stamp_core.specs.declared.layout.Layout.{Layout}

pub same_limits : (limits : Bounds) (l : Layout) (readers versions : ℕ) → l ≡ limits.layout → readers ≡
    limits.readers → versions ≡ limits.versions → bounds l readers versions ≡ limits
same_limits limits l readers versions e1 e2 e3 = rw (e1, e2, e3) refl

pub same_record : (r : Recorded) (limits : Bounds) (width : ℕ) (entries : List Entry) (report : List (ℕ × ℕ)) →
    limits ≡ r.limits → width ≡ r.width → entries ≡ r.entries → report ≡ r.report →
    record { limits = limits; width = width; entries = entries; report = report } ≡ r
same_record r limits width entries report e1 e2 e3 e4 = rw (e1, e2, e3, e4) refl
