-- The end of a call as it is told ahead.
use Rattle.stamp_sets.specs.declared.ending.Ending.{Ending}
use Rattle.stamp_sets.specs.declared.ending.Ending.TheVariants.{Returns, Withdraws, Never}
use Rattle.stamp_sets.specs.SmallCall.{reply_of}
use Rattle.stamp_watch.specs.AsObserved as observed
use Rattle.stamp_watch.specs.AsObserved.Ending.{StaysOpen, EndsReturned, EndsWithdrawn}

-- as its entry tells it
abbrev pub told_as : Ending → observed.Ending
told_as (Returns told place) = EndsReturned (record { last = place; reply = reply_of told })
told_as Withdraws = EndsWithdrawn
told_as Never = StaysOpen
