-- The positions that a watch keeps: the lock's word and the record's content in each, and the open calls that are not
-- in effect there. A position of the lock with one of the record is a place from which the run can go on.
use Rattle.std.specs.Prelude.{ℕ, ◌&&◌, ◌==◌, Option, None, option_map, option_and_then}
use Rattle.std.specs.Prelude.{nat_lt, slice_get, if◌then◌else◌}
use Rattle.std.specs.Int.{bit_at}
use Rattle.std.specs.Option.{option_or}
use Rattle.stamp_sets.specs.declared.half.Half.{Half}
use Rattle.stamp_sets.specs.declared.open_call.OpenCall.{OpenCall}
use Rattle.stamp_sets.specs.declared.position.Position.{Position}
use Rattle.stamp_sets.specs.declared.small_call.SmallCall.{SmallCall}
use Rattle.stamp_sets.specs.declared.watch.Watch.{Watch}
use Rattle.stamp_sets.specs.Told.{open_at}

abbrev pub position_of : Half → ℕ → Option Position
position_of half place = slice_get half.positions.items place

abbrev pub state_of : Half → ℕ → Option ℕ
state_of half place = option_map (λ (p : Position). p.state) (position_of half place)

-- the number of the lock's word, and of the record's content, in the position of this place
abbrev pub word_of : Watch → ℕ → Option ℕ
word_of watch place = state_of watch.lock place

abbrev pub content_of : Watch → ℕ → Option ℕ
content_of watch place = state_of watch.record place

-- the open call of a lane that is not in effect in the position
abbrev pub waiting_in : Half → ℕ → Position → Option SmallCall
waiting_in half lane p =
    if nat_lt lane 64 && (bit_at p.in_effect lane == 0)
    then option_map (λ (begun : OpenCall). begun.asks) (open_at half.table.items lane)
    else None

-- so it is in the half's position of this place
abbrev pub waiting_at : Half → ℕ → ℕ → Option SmallCall
waiting_at half place lane = option_and_then (waiting_in half lane) (position_of half place)

-- and in both halves' positions of these places: the lock's call, or else the record's
abbrev pub waiting_of : Watch → ℕ → ℕ → ℕ → Option SmallCall
waiting_of watch word content lane =
    option_or (waiting_at watch.lock word lane) (waiting_at watch.record content lane)
