-- What a record's handle is seen as, and what its calls promise.
use Rattle.std.specs.Prelude.{◌≡◌, ℕ, Bool, if◌then◌else◌, List, Option, Some, None}
use mathlib.Core.List.{IsPrefix}
use Rattle.stamp_core.specs.declared.call.Call.{Call}
use Rattle.stamp_core.specs.declared.call.Call.TheVariants.{PutIf}
use Rattle.stamp_core.specs.declared.reply.Reply.{Reply}
use Rattle.stamp_core.specs.declared.reply.Reply.TheVariants.{Yes, No}
use Rattle.stamp_threads.specs.declared.faults.PutFault.{PutFault}
use Rattle.stamp_threads.specs.declared.faults.PutFault.TheVariants.{Spent}
use Rattle.stamp_threads.specs.declared.faults.GetFault.{GetFault}
use Rattle.stamp_threads.specs.PassView.{MadeNoCallSince}
use Rattle.stamp_threads.specs.RecordPass.{RecordPassView, RecordView}
use Rattle.stamp_threads.specs.RecordCall.{PutRefused, GetRefused, UpdateRefused, HasSeen}
use Rattle.stamp_threads.specs.RecordCall as by_pass
use Rattle.stamped_lock.specs.declared.update_error.UpdateError.{UpdateError}
use Rattle.stamped_lock.specs.declared.update_error.UpdateError.TheVariants as update

-- its record, and what its pass knows
pub record RecordHandleView : Type 0 where
  pub running : RecordView
  pub pass : RecordPassView

-- the call was made with this reply: one legal history that begins with all that the handle knew, and
-- ends with this call; h' is the handle after it
pub record MadeOnRecord (call : Call) (reply : Reply) (h h' : RecordHandleView) : Type 0 where
  pub same : h'.running ≡ h.running
  pub made : by_pass.MadeOnRecord h.running.shape call reply h.pass h'.pass

-- the put was refused, and changed nothing
pub record RefusesPut (fault : PutFault) (h h' : RecordHandleView) : Type 0 where
  pub same : h'.running ≡ h.running
  pub refused : PutRefused h.running.shape h.pass fault h'.pass

-- and the get
pub record RefusesGet (fault : GetFault) (h h' : RecordHandleView) : Type 0 where
  pub same : h'.running ≡ h.running
  pub refused : GetRefused h.running.shape h.pass fault h'.pass

-- calls were refused: the handle has come to know more, and made no call
pub record Tried (h h' : RecordHandleView) : Type 0 where
  pub same : h'.running ≡ h.running
  pub begins : IsPrefix h.pass.known h'.pass.known
  pub no_call : MadeNoCallSince h.pass h'.pass

-- after some tries the call was made
pub record MadeAtLast (call : Call) (reply : Reply) (h h' : RecordHandleView) : Type 0 where
  pub between : RecordHandleView
  pub tried : Tried h between
  pub made : MadeOnRecord call reply between h'

-- after some tries no version was left
pub record SpentAtLast (h h' : RecordHandleView) : Type 0 where
  pub between : RecordHandleView
  pub word : ℕ
  pub tried : Tried h between
  pub refused : RefusesPut (Spent word) between h'

-- after some tries the put_if was made, and answered this
abbrev pub PutIfAtLast : List ℕ → List ℕ → Bool → RecordHandleView → RecordHandleView → Type 0
PutIfAtLast expected words put h h' = MadeAtLast (PutIf expected words) (if put then Yes else No) h h'

-- the update or put_if was refused, and changed nothing
pub record RefusesUpdate (P : List ℕ → Type 0) (fault : PutFault) (h h' : RecordHandleView) : Type 0 where
  pub same : h'.running ≡ h.running
  pub refused : UpdateRefused P h.running.shape h.pass fault h'.pass

-- the closure, of which Ran is known, answered a value on the old one, and its words were put over those
-- of the old one: nothing was put in between
pub record Updated {T : Type 0} (Ran : T → Type 0) (words : T → List ℕ) (old : T)
    (h h' : RecordHandleView) : Type 0 where
  pub value : T
  pub ran : Ran value
  pub made : MadeAtLast (PutIf (words old) (words value)) Yes h h'

-- after some tries no version was left
pub record UpdateSpent (P : List ℕ → Type 0) (h h' : RecordHandleView) : Type 0 where
  pub between : RecordHandleView
  pub word : ℕ
  pub tried : Tried h between
  pub refused : RefusesUpdate P (Spent word) between h'

-- after some tries the record was seen to hold these words, and no call was made
pub record SeenAtLast (P : List ℕ → Type 0) (words : List ℕ) (h h' : RecordHandleView) : Type 0 where
  pub between : RecordHandleView
  pub word : ℕ
  pub tried : Tried h between
  pub same : h'.running ≡ between.running
  pub seen : HasSeen P between.running.shape word words between.pass h'.pass

-- an update put nothing: the closure, of which Ran is known, declined a value whose words the record held;
-- or it answered one, and no version was left
abbrev pub PutNothing : {T : Type 0} → (T → Option T → Type 0) → (List ℕ → Type 0) → (T → Type 0) → (T → List ℕ) →
    UpdateError T → RecordHandleView → RecordHandleView → Type 0
PutNothing Ran P IsValue words (update.Declined old) h h' =
    IsValue old × Ran old None × SeenAtLast P (words old) h h'
PutNothing {T} Ran P IsValue words update.Spent h h' = (old : T) × (value : T) × Ran old (Some value)
    × UpdateSpent (λ row. row ≡ words old) h h'
