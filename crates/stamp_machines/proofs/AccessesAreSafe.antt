-- What a step needs of the world: its access is to one of its words, and what it finds as a lock's
-- word is one that the limits admit, at the record's lock with a version left.
use Rattle.std.proofs.Common.{◌≡◌, ℕ, ◌+◌, ◌<◌, ◌≤◌, Bool, true, false, List, length, Option, Some}
use Rattle.std.proofs.Common.{None, if◌then◌else◌, refl, sym, subst, arith, nat_lt}
use Rattle.std.specs.Prelude.{slice_index}
use Rattle.std.proofs.lemmas.Bool.Decides.{nat_tests}
use Rattle.stamp_core.specs.Limits.{Bounds}
use Rattle.stamp_core.specs.declared.call.Call.{Call}
use Rattle.stamp_core.specs.declared.decision.Decision.{Decision}
use Rattle.stamp_core.specs.declared.decision.Decision.TheVariants.{Answer, Change, Wait}
use Rattle.stamp_machines.specs.Access.{index_of, found_by}
use Rattle.stamp_machines.specs.LockNumber.{IsAdmittedAt}
use Rattle.stamp_core.specs.CountedDecision.{decision}
use Rattle.stamp_machines.specs.Job.{Job}
use Rattle.stamp_machines.specs.RecordStage as on_record
use Rattle.stamp_machines.specs.RecordStage.{RecordStage, OwnLockCall, call_for}
use Rattle.stamp_machines.specs.LocalAccess.{LoadLock, LoadWord, with_lock}
use Rattle.stamp_machines.specs.LockPhase.{phase_plan, plan_on}
use Rattle.stamp_machines.specs.declared.shape.Shape.{Shape}
use Rattle.stamp_machines.specs.MachineState.{Stage, OnLock, OnRecord, record_limits}
use Rattle.stamp_machines.specs.Machine.{plan_in, IsFoundIn, HasVersionLeft}
use Rattle.stamp_machines.specs.inner.RecordKept.{FitsRecordStage}

-- a lock phase is on its lock's word
phase-index : (i : ℕ) (limits : Bounds) (call : Call) (seen : Option ℕ) →
    index_of (with_lock i (phase_plan limits call seen)) ≡ i
phase-index i limits call None = refl
phase-index i limits call (Some word) = go (decision limits word call)
  where
    go : (d : Decision) → index_of (with_lock i (plan_on word d)) ≡ i
    go (Answer r) = refl
    go (Change new r) = refl
    go Wait = refl

-- the access is to one of the words, and what it finds may be resumed with
abbrev pub IsSafeIn : Shape → Call → Stage → List ℕ → Type 0
IsSafeIn shape call stage words =
    (index_of (plan_in shape call stage) < length words)
    × IsFoundIn shape stage (found_by (plan_in shape call stage) words)

copying-safe : (shape : Shape) (call : Call) (job : Job) (first : ℕ) (loaded : List ℕ)
    (words : List ℕ) → length words ≡ 2 + shape.width →
    IsAdmittedAt (record_limits shape) (slice_index words 1) →
    IsSafeIn shape call (OnRecord job (on_record.Copying first loaded)) words
copying-safe shape call job first loaded words n w = go (nat_lt (length loaded) shape.width) refl
  where
    go : (b : Bool) → nat_lt (length loaded) shape.width ≡ b →
        (index_of (with_lock 1 (if b then LoadWord (length loaded) else LoadLock)) < length words)
        × (shape.width ≤ length loaded →
        IsAdmittedAt (record_limits shape)
        (found_by (with_lock 1 (if b then LoadWord (length loaded) else LoadLock)) words))
    go true q =
        let h : length loaded < shape.width = grind (arith, nat_tests, q) in
        (omega (arith, h, n), λ k. absurd (omega (arith, h, k)))
    go false q = (omega (arith, n), λ k. w)

pub record-safe : (shape : Shape) (call : Call) (limits : Bounds) (k wr : ℕ)
    (content record_words : List ℕ) (job : Job) (stage : RecordStage) (words : List ℕ) →
    length words ≡ 2 + shape.width → length content ≡ shape.width →
    IsAdmittedAt (record_limits shape) (slice_index words 1) →
    HasVersionLeft shape (slice_index words 1) → FitsRecordStage limits k wr content record_words job stage →
    IsSafeIn shape call (OnRecord job stage) words
record-safe shape call limits k wr content record_words job on_record.LoadingLock words n l w v f =
    (omega (arith, n), w)
record-safe shape call limits k wr content record_words job (on_record.Copying first loaded) words n l w
    v f = copying-safe shape call job first loaded words n w
record-safe shape call limits k wr content record_words job (on_record.Locking e seen) words n l w
    v f =
    let at : index_of (with_lock 1 (phase_plan (record_limits shape) (call_for e) seen)) ≡ 1 =
    phase-index 1 (record_limits shape) (call_for e) seen in (
      omega (arith, at, n),
      (
        subst (λ (i : ℕ). IsAdmittedAt (record_limits shape) (slice_index words i)) (sym at) w,
        subst (λ (i : ℕ). HasVersionLeft shape (slice_index words i)) (sym at) v,
      ),
    )
record-safe shape call limits k wr content record_words job (on_record.Reading s loaded) words n l w
    v f =
    (omega (arith, n, l, f.2), tt)
record-safe shape call limits k wr content record_words job (on_record.Checking s loaded) words n l w
    v f = (omega (arith, n, l, f.4), tt)
record-safe shape call limits k wr content record_words job (on_record.Storing s i) words n l w v f =
    (omega (arith, n, l, f.3), tt)
record-safe shape call limits k wr content record_words job (on_record.Releasing s a) words n l w v
    f =
    (omega (arith, n), tt)

pub lock-safe : (shape : Shape) (call : Call) (seen : Option ℕ) (words : List ℕ) →
    length words ≡ 2 + shape.width → IsAdmittedAt shape.limits (slice_index words 0) →
    IsSafeIn shape call (OnLock seen) words
lock-safe shape call seen words n w =
    let at : index_of (with_lock 0 (phase_plan shape.limits call seen)) ≡ 0 =
    phase-index 0 shape.limits call seen in (
      omega (arith, at, n),
      subst (λ (i : ℕ). IsAdmittedAt shape.limits (slice_index words i)) (sym at) w,
    )
