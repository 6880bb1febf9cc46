-- What was read so far, and the judge was fed.
use Rattle.std.specs.Prelude.{ℕ, ◌≡◌, ◌<◌, ◌≤◌, List, length, Option, None}
use Rattle.std.specs.Io.KnownBytes.{Consumes}
use Rattle.stamp_cli.specs.Results.{Makes, Results, taken_since}
use Rattle.stamped_watch.specs.declared.finding.Finding.{Finding}
use Rattle.stamped_watch.specs.declared.orders.Watching.{Watching}
use Rattle.stamped_watch.specs.declared.stream_judge.StreamJudge.{StreamJudge}
use Rattle.stamped_watch.specs.declared.telling.Telling.{Telling}
use Rattle.stamped_watch.specs.StreamJudge.{EndsInStream, IsFed, KeepsFed}
use Rattle.stamped_watch.specs.Progress.{HasToldSoFar}

-- each read took a byte, the judge was fed all that they took, and it has found nothing
pub record IsFedSoFar (asked : Watching) (left left' : Option (List ℕ)) (old new : Results) (judge : StreamJudge)
    (chunk : List ℕ) : Type 0 where
  pub bytes : List ℕ
  pub took : Consumes left left' bytes
  pub reads : Makes old new (length bytes)
  pub fed : IsFed asked.most asked.ahead bytes judge
  pub none : judge.found ≡ None
  pub room : 0 < length chunk

-- and it was told how far
pub record IsFedAndTold (asked : Watching) (left left' : Option (List ℕ)) (old new : Results) (judge : StreamJudge)
    (chunk : List ℕ) (telling : Telling) (sent sent' : Option (List ℕ)) (writes writes' : Results) : Type 0 where
  pub fed_so : IsFedSoFar asked left left' old new judge chunk
  pub few : length chunk ≤ 65536
  pub told : HasToldSoFar asked fed_so.bytes telling sent sent' writes writes'

-- what the judge keeps is of all that the reads took, and so is the call that ends where that was found stuck
pub record KeepsAll (most ahead : ℕ) (left left' : Option (List ℕ)) (old new : Results) (judge : StreamJudge)
    (finding : Finding) : Type 0 where
  pub bytes : List ℕ
  pub took : Consumes left left' bytes
  pub count : length bytes ≡ taken_since old new
  pub keeps : KeepsFed most ahead bytes judge
  pub there : EndsInStream bytes judge.judge finding
