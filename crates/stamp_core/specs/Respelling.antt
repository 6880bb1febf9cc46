-- Stamps of layout 1, spelled anew in layout 2.
use Rattle.std.specs.Prelude.{ℕ, ◌≡◌, nat_le, if◌then◌else◌}
use Rattle.stamp_core.specs.Layout.{narrow, wide}
use Rattle.stamp_core.specs.Stamp.{write_stamp, read_stamp, optimistic_stamp}
use Rattle.stamp_core.specs.StampKind.{HasKind}
use Rattle.stamp_core.specs.declared.stamps.StampKind.{StampKind}
use Rattle.stamp_core.specs.declared.stamps.StampKind.TheVariants.{Write, Read, Optimistic, Neither}

-- the number, or 0 where layout 2 has no such version
abbrev pub if_version : ℕ → ℕ → ℕ
if_version k s = if nat_le k wide.versions then s else 0

-- the same kind, version and count in layout 2
abbrev pub respelled : StampKind → ℕ
respelled (Write k) = if_version k (write_stamp wide k)
respelled (Read k c) = if_version k (read_stamp wide k c)
respelled (Optimistic k) = if_version k (optimistic_stamp wide k)
respelled Neither = 0

-- whatever the number is as a stamp of layout 1, the other is that in layout 2
abbrev pub IsRespelled : ℕ → ℕ → Type 0
IsRespelled s t = (kind : StampKind) → HasKind narrow s kind → t ≡ respelled kind
