-- Replies that were told of a call.
use Rattle.std.specs.Prelude.{◌≡◌}
use Rattle.stamp_sets.specs.declared.ending.Ending.{Ending}
use Rattle.stamp_sets.specs.declared.ending.Ending.TheVariants.{Returns, Withdraws, Never}
use Rattle.stamp_sets.specs.declared.small_call.SmallReply.{SmallReply}

-- it returns, with this reply
abbrev pub IsReturn : Ending → SmallReply → Type 0
IsReturn (Returns told place) reply = told ≡ reply
IsReturn Withdraws reply = ⊥
IsReturn Never reply = ⊥
