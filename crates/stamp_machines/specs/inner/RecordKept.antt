-- Where a record call may stand while the lock has these counts, the content is this, and the words
-- are these.
use Rattle.std.specs.Prelude.{◌≡◌, ◌⊎◌, ℕ, ◌+◌, ◌<◌, ◌≤◌, true, false, List, ◌++◌, length, take}
use Rattle.std.specs.Prelude.{drop, Option, Some, None, slice_index_or}
use Rattle.std.specs.List.{sum_by}
use Rattle.stamp_core.specs.Limits.{Bounds, units, AreInRange}
use Rattle.stamp_core.specs.Stamp.{write_stamp, read_stamp}
use Rattle.stamp_machines.specs.LockNumber.{IsAdmittedAt, counts_at}
use Rattle.stamp_machines.specs.Job.{Job, new_words, expects, is_get}
use Rattle.stamp_machines.specs.inner.Job.{content_with, reply_to}
use Rattle.stamp_machines.specs.RecordStage.{Going, Done, RecordStage, LoadingLock, Copying, Locking}
use Rattle.stamp_machines.specs.RecordStage.{Reading, Checking, Storing, Releasing, Share}
use Rattle.stamp_machines.specs.RecordStage.{Leave, Refuse, Upgrade, ReleaseFirst, Claim}
use Rattle.stamp_machines.specs.RecordStage.{RecordStageTurn}

-- how many read and write locks a call at this stage holds
abbrev pub read_by : RecordStage → ℕ
read_by LoadingLock = 0
read_by (Copying at_first loaded) = 0
read_by (Locking Share seen) = 0
read_by (Locking (Leave s loaded) seen) = 1
read_by (Locking (Refuse s) seen) = 1
read_by (Locking (Upgrade s) seen) = 1
read_by (Locking (ReleaseFirst s) seen) = 1
read_by (Locking Claim seen) = 0
read_by (Reading s loaded) = 1
read_by (Checking s loaded) = 0
read_by (Storing s i) = 0
read_by (Releasing s a) = 0

abbrev pub written_by : RecordStage → ℕ
written_by LoadingLock = 0
written_by (Copying at_first loaded) = 0
written_by (Locking e seen) = 0
written_by (Reading s loaded) = 0
written_by (Checking s loaded) = 1
written_by (Storing s i) = 1
written_by (Releasing s a) = 1

-- the words loaded so far are the first of the content
abbrev pub Begins : List ℕ → List ℕ → Type 0
Begins loaded content = (length loaded ≤ length content) × (loaded ≡ take (length loaded) content)

-- a read stamp of this version
abbrev pub IsRead : Bounds → ℕ → ℕ → Type 0
IsRead limits k s =
    (read_stamp (units limits) k 1 ≤ s) × (s ≤ read_stamp (units limits) k (units limits).readers)

abbrev pub FitsRecordStage : Bounds → ℕ → ℕ → List ℕ → List ℕ → Job → RecordStage → Type 0
FitsRecordStage limits k w content record_words job LoadingLock = is_get job ≡ true
FitsRecordStage limits k w content record_words job (Copying at_first loaded) =
    (is_get job ≡ true) × ((counts_at limits at_first).write_count ≤ k)
    × (length loaded ≤ length content)
    × ((counts_at limits at_first).write_count ≡ k → (w ≡ 0) × (loaded ≡ take (length loaded) content))
FitsRecordStage limits k w content record_words job (Locking Share seen) = Unit {0}
FitsRecordStage limits k w content record_words job (Locking (Leave s loaded) seen) =
    (is_get job ≡ true) × IsRead limits k s × (loaded ≡ content)
FitsRecordStage limits k w content record_words job (Locking (Refuse s) seen) =
    (is_get job ≡ false) × IsRead limits k s × (expects job content ≡ false)
FitsRecordStage limits k w content record_words job (Locking (Upgrade s) seen) =
    (is_get job ≡ false) × IsRead limits k s × (expects job content ≡ true)
FitsRecordStage limits k w content record_words job (Locking (ReleaseFirst s) seen) =
    (is_get job ≡ false) × IsRead limits k s
FitsRecordStage limits k w content record_words job (Locking Claim seen) = is_get job ≡ false
FitsRecordStage limits k w content record_words job (Reading s loaded) =
    IsRead limits k s × Begins loaded content × (length loaded < length content)
FitsRecordStage limits k w content record_words job (Checking s loaded) =
    (is_get job ≡ false) × (s ≡ write_stamp (units limits) k) × (record_words ≡ content)
    × Begins loaded content × (length loaded < length content)
FitsRecordStage limits k w content record_words job (Storing s i) =
    (is_get job ≡ false) × (s ≡ write_stamp (units limits) k) × (expects job content ≡ true)
    × (i < length content)
    × (record_words ≡ take i (new_words job) ++ drop i content)
FitsRecordStage limits k w content record_words job (Releasing s a) =
    (s ≡ write_stamp (units limits) k) × (a ≡ reply_to content job)
    × (record_words ≡ content_with content job)

-- a call of the record, as `OnRecord job stage` says where it stands
pub record RecordCallAt : Type 0 where
  pub job : Job
  pub stage : RecordStage

abbrev pub read_in : Option RecordCallAt → ℕ
read_in None = 0
read_in (Some d) = read_by d.stage

abbrev pub written_in : Option RecordCallAt → ℕ
written_in None = 0
written_in (Some d) = written_by d.stage

abbrev pub FitsIn : Bounds → ℕ → ℕ → List ℕ → List ℕ → Option RecordCallAt → Type 0
FitsIn limits k w content record_words None = Unit {0}
FitsIn limits k w content record_words (Some d) =
    (0 < length content) × ((is_get d.job ≡ true) ⊎ (length (new_words d.job) ≡ length content))
    × FitsRecordStage limits k w content record_words d.job d.stage

-- what holds of the record after every step, by the content that the finished calls leave
pub record RecordKept (limits : Bounds) (lock : ℕ) (record_words : List ℕ) (content : List ℕ)
    (under_way : List (Option RecordCallAt)) : Type 0 where
  pub admitted : IsAdmittedAt limits lock
  pub writers : sum_by written_in under_way ≡ (counts_at limits lock).writers
  pub readers : sum_by read_in under_way ≡ (counts_at limits lock).readers
  pub width : length record_words ≡ length content
  pub free : (counts_at limits lock).writers ≡ 0 → record_words ≡ content
  pub fits : (t : ℕ) →
      FitsIn limits (counts_at limits lock).write_count (counts_at limits lock).writers content
      record_words (slice_index_or under_way t None)

abbrev pub SameFor : Bounds → ℕ → List ℕ → List ℕ → ℕ → List ℕ → List ℕ → Type 0
SameFor limits lock record_words content lock' record_words' content' =
    ((counts_at limits lock').write_count ≡ (counts_at limits lock).write_count)
    × ((counts_at limits lock').writers ≡ (counts_at limits lock).writers)
    × (content' ≡ content) × (record_words' ≡ record_words)

abbrev pub AloneFor : Bounds → RecordStage → ℕ → ℕ → Type 0
AloneFor limits before lock lock' =
    ((counts_at limits lock).writers ≡ written_by before)
    × ((counts_at limits lock).readers ≡ read_by before)
    × (((counts_at limits lock').write_count ≡ (counts_at limits lock).write_count + 1)
    ⊎ (((counts_at limits lock).writers ≡ 1)
    × ((counts_at limits lock').write_count ≡ (counts_at limits lock).write_count)))

-- what the access of one thread, whose call stood at `before`, makes of the record
pub record Moved (limits : Bounds) (before : RecordStage) (lock : ℕ) (record_words : List ℕ) (content : List ℕ)
    (lock' : ℕ) (record_words' : List ℕ) (content' : List ℕ) (now : Option RecordCallAt) : Type 0 where
  pub admitted : IsAdmittedAt limits lock'
  pub writers : (counts_at limits lock').writers + written_by before
      ≡ (counts_at limits lock).writers + written_in now
  pub readers : (counts_at limits lock').readers + read_by before ≡ (counts_at limits lock).readers
      + read_in now
  pub width : length record_words' ≡ length content'
  pub same_width : length content' ≡ length content
  pub free : (counts_at limits lock').writers ≡ 0 → record_words' ≡ content'
  pub fits : FitsIn limits (counts_at limits lock').write_count (counts_at limits lock').writers
      content' record_words' now
  -- either nothing changed that another call relies on, or no other call holds anything
  pub effect : SameFor limits lock record_words content lock' record_words' content'
      ⊎ AloneFor limits before lock lock'

-- the call after an access, the content after it, and that what it answered is right
abbrev pub now_of : Job → RecordStageTurn → Option RecordCallAt
now_of job (Going stage) = Some (record { job = job; stage = stage })
now_of job (Done a) = None

abbrev pub content_of : List ℕ → Job → RecordStageTurn → List ℕ
content_of content job (Going stage) = content
content_of content job (Done a) = content_with content job

abbrev pub RightIn : List ℕ → Job → RecordStageTurn → Type 0
RightIn content job (Going stage) = Unit {0}
RightIn content job (Done a) = a ≡ reply_to content job

abbrev pub MovedRightly : Bounds → Job → RecordStage → ℕ → List ℕ → List ℕ → ℕ → List ℕ → RecordStageTurn → Type 0
MovedRightly limits job stage lock record_words content lock' record_words' turned =
    Moved limits stage lock record_words content lock' record_words' (content_of content job turned)
    (now_of job turned) × RightIn content job turned

-- what a call may rely on as it steps
pub record Stands (limits : Bounds) (job : Job) (stage : RecordStage) (lock : ℕ) (record_words : List ℕ)
    (content : List ℕ) : Type 0 where
  pub range : AreInRange limits
  pub admitted : IsAdmittedAt limits lock
  pub room : (counts_at limits lock).write_count < limits.versions
  pub width : length record_words ≡ length content
  pub some : 0 < length content
  pub free : (counts_at limits lock).writers ≡ 0 → record_words ≡ content
  pub reads : read_by stage ≤ (counts_at limits lock).readers
  pub writes : written_by stage ≤ (counts_at limits lock).writers
  pub words : (is_get job ≡ true) ⊎ (length (new_words job) ≡ length content)
  pub fits : FitsRecordStage limits (counts_at limits lock).write_count (counts_at limits lock).writers content
      record_words job stage
