-- A thread's current call: its call under way, or else its next one.
use Rattle.std.proofs.Common.{◌≡◌, ℕ, ◌<◌, true, List, [], ◌∷◌, length, Option, Some, None, zero}
use Rattle.std.proofs.Common.{suc, refl, sym, subst, arith, ◌⊎◌, inl, inr}
use Rattle.std.specs.Prelude.{slice_index_or, slice_get, All}
use Rattle.std.proofs.lemmas.Option.{slice_get_within, get_or_from_slice_get}
use Rattle.stamp_core.specs.Limits.{Bounds}
use Rattle.stamp_core.specs.declared.call.Call.{Call}
use Rattle.stamp_machines.specs.declared.script.ScriptCall.{ScriptCall}
use Rattle.stamp_machines.specs.declared.script.ScriptCall.TheVariants.{TryWrite, TryRead}
use Rattle.stamp_machines.specs.declared.script.ScriptCall.TheVariants.{WriteLock, ReadLock}
use Rattle.stamp_machines.specs.declared.script.ScriptCall.TheVariants.{Optimistic, Validate}
use Rattle.stamp_machines.specs.declared.script.ScriptCall.TheVariants.{UnlockWrite, UnlockRead}
use Rattle.stamp_machines.specs.declared.script.ScriptCall.TheVariants.{Unlock, ToWrite, ToRead}
use Rattle.stamp_machines.specs.declared.script.ScriptCall.TheVariants.{ToOptimistic}
use Rattle.stamp_machines.specs.declared.script.ScriptCall.TheVariants.{TryUnlockWrite}
use Rattle.stamp_machines.specs.declared.script.ScriptCall.TheVariants.{TryUnlockRead}
use Rattle.stamp_machines.specs.declared.script.ScriptCall.TheVariants.{IsWriteLocked, IsReadLocked}
use Rattle.stamp_machines.specs.declared.script.ScriptCall.TheVariants.{ReadCount, Get, Put, PutIf}
use Rattle.stamp_machines.specs.Job.{Job, Getting, Putting, PuttingIf, job_of_call, new_words, is_get}
use Rattle.stamp_machines.specs.RecordStage.{first_record_stage}
use Rattle.stamp_machines.specs.declared.shape.Shape.{Shape}
use Rattle.stamp_machines.specs.MachineState.{first_stage, start}
use Rattle.stamp_machines.specs.Script.{Scripted, Suits, calls_of}
use Rattle.stamp_machines.specs.declared.state.Begun.{Begun}
use Rattle.stamp_machines.specs.World.{World, current_of, begun_call, resolved, shape_of, stamps_of}
use Rattle.stamp_machines.specs.inner.Invariant.{record_call_at, record_call_in, IsOf}
use Rattle.stamp_machines.specs.inner.RecordKept.{read_by, written_by, read_in, written_in, FitsRecordStage, FitsIn}

first_place_reads : (job : Job) → read_by (first_record_stage job) ≡ 0
first_place_reads Getting = refl
first_place_reads (Putting a) = refl
first_place_reads (PuttingIf a b) = refl

first_place_writes : (job : Job) → written_by (first_record_stage job) ≡ 0
first_place_writes Getting = refl
first_place_writes (Putting a) = refl
first_place_writes (PuttingIf a b) = refl

first_place_fits : (limits : Bounds) (k w : ℕ) (content record_words : List ℕ) (job : Job) →
    FitsRecordStage limits k w content record_words job (first_record_stage job)
first_place_fits limits k w content record_words Getting = refl
first_place_fits limits k w content record_words (Putting a) = refl
first_place_fits limits k w content record_words (PuttingIf a b) = tt

abbrev pub SuitsJob : ℕ → Option Job → Type 0
SuitsJob width None = Unit {0}
SuitsJob width (Some job) = (0 < width) × ((is_get job ≡ true) ⊎ (length (new_words job) ≡ width))

suits-job : (stamps : ℕ → List ℕ) (width : ℕ) (c : ScriptCall) → Suits width c →
    SuitsJob width (job_of_call (resolved stamps c))
suits-job stamps width TryWrite s = tt
suits-job stamps width TryRead s = tt
suits-job stamps width WriteLock s = tt
suits-job stamps width ReadLock s = tt
suits-job stamps width Optimistic s = tt
suits-job stamps width (Validate a) s = tt
suits-job stamps width (UnlockWrite a) s = tt
suits-job stamps width (UnlockRead a) s = tt
suits-job stamps width (Unlock a) s = tt
suits-job stamps width (ToWrite a) s = tt
suits-job stamps width (ToRead a) s = tt
suits-job stamps width (ToOptimistic a) s = tt
suits-job stamps width TryUnlockWrite s = tt
suits-job stamps width TryUnlockRead s = tt
suits-job stamps width IsWriteLocked s = tt
suits-job stamps width IsReadLocked s = tt
suits-job stamps width ReadCount s = tt
suits-job stamps width Get s = (s, inl refl)
suits-job stamps width (Put a) s = (s.0, inr s.1)
suits-job stamps width (PutIf a b) s = (s.0, inr s.2)

-- what is known of a thread's current call, beside its call under way
pub record Ready (limits : Bounds) (shape : Shape) (k w : ℕ) (content record_words : List ℕ)
    (slot : Option Begun) (b : Begun) : Type 0 where
  pub of : IsOf shape (Some b)
  pub reads : read_in (record_call_in slot) ≡ read_in (record_call_at b.machine.stage)
  pub writes : written_in (record_call_in slot) ≡ written_in (record_call_at b.machine.stage)
  pub fits : FitsIn limits k w content record_words (record_call_at b.machine.stage)
  pub lock : record_call_at b.machine.stage ≡ None → record_call_in slot ≡ None

first-ready : (limits : Bounds) (shape : Shape) (k w : ℕ) (content record_words : List ℕ) (call : Call)
    (first : ℕ) (j : Option Job) → job_of_call call ≡ j → SuitsJob (length content) j →
    Ready limits shape k w content record_words None
    (record {
      machine = record { shape = shape; call = call; stage = first_stage j };
      first = first;
    })
first-ready limits shape k w content record_words call first None e s =
    record { of = (refl, e); reads = refl; writes = refl; fits = tt; lock = λ _. refl }
first-ready limits shape k w content record_words call first (Some job) e s =
    record {
      of = (refl, e);
      reads = sym (first_place_reads job);
      writes = sym (first_place_writes job);
      fits = (s.0, s.1, first_place_fits limits k w content record_words job);
      lock = λ _. refl;
    }

-- a call of a script's thread suits the width
pub call-suits : (width : ℕ) (calls : List ScriptCall) (i : ℕ) (c : ScriptCall) →
    All (Suits width) calls → slice_get calls i ≡ Some c → Suits width c
call-suits width calls i c h e =
    subst (λ (x : ScriptCall). Suits width x) (get_or_from_slice_get calls i c c e)
    (h i c (slice_get_within calls i c e))

-- a thread that has a call is one of the script's
pub thread-within : (threads : List (List ScriptCall)) (t i : ℕ) (c : ScriptCall) →
    slice_get (slice_index_or threads t []) i ≡ Some c → t < length threads
thread-within [] t i c e = cc
thread-within (x ∷ threads) zero i c e = omega arith
thread-within (x ∷ threads) (suc t) i c e = let h = thread-within threads t i c e in
    omega (arith, h)

pub slot-within : (begun : List (Option Begun)) (t : ℕ) (b : Begun) →
    slice_index_or begun t None ≡ Some b → t < length begun
slot-within [] t b e = cc
slot-within (x ∷ begun) zero b e = omega arith
slot-within (x ∷ begun) (suc t) b e = let h = slot-within begun t b e in omega (arith, h)

next-ready : (limits : Bounds) (script : Scripted) (stamps : ℕ → List ℕ) (position t : ℕ) (k w : ℕ)
    (content record_words : List ℕ) (c : Option ScriptCall) (b : Begun) →
    (All (λ calls. All (Suits script.width) calls) script.threads) → length content ≡ script.width →
    slice_get (calls_of script t) (length (stamps t)) ≡ c →
    begun_call (shape_of script) stamps position c ≡ Some b → (t < length script.threads)
    × Ready limits (shape_of script) k w content record_words None b
next-ready limits script stamps position t k w content record_words None b h n e q = cc
next-ready limits script stamps position t k w content record_words (Some c) b h n e q =
    let within : t < length script.threads = thread-within script.threads t (length (stamps t)) c e in
    let suits : Suits script.width c =
    call-suits script.width (calls_of script t) (length (stamps t)) c (h t [] within) e in
    let same : record { machine = start (shape_of script) (resolved stamps c); first = position } ≡ b =
    cc in (
      within,
      subst (λ (x : Begun). Ready limits (shape_of script) k w content record_words None x) same
          (first-ready limits (shape_of script) k w content record_words (resolved stamps c) position
          (job_of_call (resolved stamps c)) refl (rw n (suits-job stamps script.width c suits))),
    )

pub current-ready : (limits : Bounds) (script : Scripted) (world : World) (t : ℕ) (k w : ℕ)
    (content record_words : List ℕ) (slot : Option Begun) (b : Begun) →
    (All (λ calls. All (Suits script.width) calls) script.threads) → length content ≡ script.width →
    length world.begun ≡ length script.threads → slice_index_or world.begun t None ≡ slot →
    IsOf (shape_of script) slot → FitsIn limits k w content record_words (record_call_in slot) →
    current_of script (λ x. stamps_of x world.entries) world.position t slot ≡ Some b →
    (t < length world.begun) × Ready limits (shape_of script) k w content record_words slot b
current-ready limits script world t k w content record_words (Some d) b h n l at o f e =
    let same : d ≡ b = cc in (
      slot-within world.begun t d at,
      subst (λ (x : Begun). Ready limits (shape_of script) k w content record_words (Some d) x) same
          (record { of = o; reads = refl; writes = refl; fits = f; lock = λ q. q }),
    )
current-ready limits script world t k w content record_words None b h n l at o f e =
    let r = next-ready limits script (λ x. stamps_of x world.entries) world.position t k w content
    record_words (slice_get (calls_of script t) (length (stamps_of t world.entries))) b h n refl e in
    (rw l r.0, r.1)
