-- What the calls of a running record promise. v is the pass before the call, and w after it.
use Rattle.std.specs.Prelude.{◌≡◌, ◌≢◌, ◌⊎◌, ℕ, ◌+◌, ◌≤◌, true, false, List, [], ◌∷◌, ◌++◌, length}
use Rattle.std.specs.Prelude.{Result, Ok, Err, Bool}
use mathlib.Core.List.{IsPrefix}
use Rattle.stamp_core.specs.Content.{RecordReplies}
use Rattle.stamp_core.specs.declared.call.Call.{Call}
use Rattle.stamp_core.specs.declared.call.Call.TheVariants.{Get, Put, PutIf}
use Rattle.stamp_core.specs.declared.layout.Layout.{Layout}
use Rattle.stamp_core.specs.declared.reply.Reply.{Reply}
use Rattle.stamp_core.specs.declared.reply.Reply.TheVariants.{Content, Yes, No}
use Rattle.stamp_threads.specs.declared.record_view.RecordShape.{RecordShape}
use Rattle.stamp_threads.specs.declared.record_view.RecordEvent.TheVariants.{Called}
use Rattle.stamp_threads.specs.declared.record_view.RecordPhase.TheVariants.{Idle}
use Rattle.stamp_threads.specs.declared.faults.PutFault.{PutFault}
use Rattle.stamp_threads.specs.declared.faults.PutFault.TheVariants.{Busy, Lost, Spent}
use Rattle.stamp_threads.specs.declared.faults.GetFault.{GetFault}
use Rattle.stamp_threads.specs.declared.faults.GetFault.TheVariants as get
use Rattle.stamp_threads.specs.PassView.{entry, HasFound, IsSamePass, MadeNoCallSince, PassesMet}
use Rattle.stamp_threads.specs.RecordWord.{word_with, writer_unit}
use Rattle.stamp_threads.specs.RecordLog.{RecordLog, word_after, content_in, is_locked, marker_in, puts}
use Rattle.stamp_threads.specs.RecordPass.{RecordPassView, IsConsistentWith, LeavesWord}

-- what a call that was made found at the lock word: a get's two loads found one word, and so did a
-- put's load and exchange, a put_if's exchange and its two loads where it was answered no; the release
-- found that word with write mode held
abbrev pub words_found : Layout → Call → Reply → ℕ → List ℕ
words_found layout (Put words) reply word = word ∷ word ∷ (word + writer_unit layout) ∷ []
words_found layout (PutIf expected words) Yes word = word ∷ (word + writer_unit layout) ∷ []
words_found layout _ _ word = word ∷ word ∷ []

-- and the last of these
abbrev pub last_found : Layout → Call → Reply → ℕ → ℕ
last_found layout (Put words) reply word = word + writer_unit layout
last_found layout (PutIf expected words) Yes word = word + writer_unit layout
last_found layout _ _ word = word

-- a first history goes on from what the pass knew, and leaves the word that its accesses found; the
-- log goes on from that, and leaves the last of these words. Then comes this call with the reply that
-- the log gives it, which is one more of the pass's own
pub record MadeOnRecord (shape : RecordShape) (call : Call) (reply : Reply) (v w : RecordPassView) :
    Type 0 where
  pub word : ℕ
  pub has_found : HasFound v (words_found shape.limits.layout call reply word) w
  pub first : RecordLog
  pub at_first : LeavesWord shape v word first
  pub log : RecordLog
  pub longer : IsPrefix first log
  pub left : last_found shape.limits.layout call reply word ≡ word_after shape.limits.layout log
  pub replies : RecordReplies (content_in shape.width log) call reply
  pub known : w.known ≡ log ++ entry v.name (Called call reply) ∷ []
  pub own : w.own ≡ v.own ++ Called call reply ∷ []
  pub same : IsSamePass v w
  pub idle : w.phase ≡ Idle
  pub few : puts w.known ≤ shape.limits.versions
  pub consistent : IsConsistentWith shape.width w

-- the pass has come to know a history that leaves this word, and made no call: where that history
-- is locked, another pass made its last mark
pub record KnowsWord (shape : RecordShape) (v : RecordPassView) (word : ℕ) (w : RecordPassView) :
    Type 0 where
  pub left : LeavesWord shape v word w.known
  pub others : is_locked w.known ≡ true → marker_in w.known ≢ v.name
  pub no_call : MadeNoCallSince v w
  pub idle : w.phase ≡ Idle
  pub consistent : IsConsistentWith shape.width w

-- somebody else has write mode: the first load found it so, and no other access was made
pub record WasBusy (shape : RecordShape) (v : RecordPassView) (word : ℕ) (w : RecordPassView) :
    Type 0 where
  pub has_found : HasFound v (word ∷ []) w
  pub knows : KnowsWord shape v word w
  pub locked : is_locked w.known ≡ true

-- two histories left the two words that the call found, the first by its first load: that one is
-- not locked, and the second history begins with it
pub record WasLost (shape : RecordShape) (v : RecordPassView) (loaded found : ℕ)
    (w : RecordPassView) : Type 0 where
  pub differ : loaded ≢ found
  pub has_found : HasFound v (loaded ∷ found ∷ []) w
  pub first : RecordLog
  pub at_first : LeavesWord shape v loaded first
  pub free : is_locked first ≡ false
  pub longer : IsPrefix first w.known
  pub knows : KnowsWord shape v found w

-- as many puts as versions: the first load found it so
pub record WasSpent (shape : RecordShape) (v : RecordPassView) (word : ℕ) (w : RecordPassView) :
    Type 0 where
  pub has_found : HasFound v (word ∷ []) w
  pub knows : KnowsWord shape v word w
  pub free : is_locked w.known ≡ false
  pub all : puts w.known ≡ shape.limits.versions
  pub last : word ≡ word_with shape.limits.layout shape.limits.versions false

abbrev pub PutRefused : RecordShape → RecordPassView → PutFault → RecordPassView → Type 0
PutRefused shape v (Busy word) w = WasBusy shape v word w
PutRefused shape v (Lost loaded found) w = WasLost shape v loaded found w
PutRefused shape v (Spent word) w = WasSpent shape v word w

abbrev pub GetRefused : RecordShape → RecordPassView → GetFault → RecordPassView → Type 0
GetRefused shape v (get.Busy word) w = WasBusy shape v word w
GetRefused shape v (get.Lost loaded found) w = WasLost shape v loaded found w

-- a get was made: these words are the content that it was answered, as many as the width, and they
-- keep to the rule
pub record WasGot (P : List ℕ → Type 0) (shape : RecordShape) (words : List ℕ) (v w : RecordPassView) :
    Type 0 where
  pub made : MadeOnRecord shape Get (Content words) v w
  pub long : length words ≡ shape.width
  pub rule : P words

-- the content was seen, and no call made: the pass knows a history that is not locked, left this lock
-- word and has these words for its content, as many as the width, which keep to the rule
pub record HasSeen (P : List ℕ → Type 0) (shape : RecordShape) (word : ℕ) (words : List ℕ)
    (v w : RecordPassView) : Type 0 where
  pub has_found : HasFound v (word ∷ word ∷ []) w
  pub knows : KnowsWord shape v word w
  pub free : is_locked w.known ≡ false
  pub content : words ≡ content_in shape.width w.known
  pub long : length words ≡ shape.width
  pub rule : P words

-- the history that the pass knows is not locked, and left this lock word
pub record StandsAtWord (shape : RecordShape) (word : ℕ) (v : RecordPassView) : Type 0 where
  pub free : is_locked v.known ≡ false
  pub word_is : word ≡ word_after shape.limits.layout v.known
  pub few : puts v.known ≤ shape.limits.versions

-- no version is left, and no access was made
pub record NoneLeft (shape : RecordShape) (word : ℕ) (v w : RecordPassView) : Type 0 where
  pub same : w ≡ v
  pub all : puts v.known ≡ shape.limits.versions
  pub last : word ≡ word_with shape.limits.layout shape.limits.versions false

-- the exchange found another word than the one that the history left
pub record WasOvertaken (shape : RecordShape) (v : RecordPassView) (word found : ℕ)
    (w : RecordPassView) : Type 0 where
  pub differ : word ≢ found
  pub has_found : HasFound v (found ∷ []) w
  pub knows : KnowsWord shape v found w

-- words were not put over those that the pass had seen, at this lock word
abbrev pub ReplaceRefused : RecordShape → ℕ → RecordPassView → PutFault → RecordPassView → Type 0
ReplaceRefused shape word v (Busy other) w = ⊥
ReplaceRefused shape word v (Lost loaded found) w = (loaded ≡ word) × WasOvertaken shape v word found w
ReplaceRefused shape word v (Spent other) w = (other ≡ word) × NoneLeft shape word v w

-- the content was seen at this lock word, and this happened then
pub record SeenThen (P : List ℕ → Type 0) (shape : RecordShape) (word : ℕ) (v : RecordPassView)
    (Next : RecordPassView → Type 0) : Type 0 where
  pub words : List ℕ
  pub between : RecordPassView
  pub seen : HasSeen P shape word words v between
  pub next : Next between

-- words that could not be got are not put, either
abbrev pub fault_of : GetFault → PutFault
fault_of (get.Busy word) = Busy word
fault_of (get.Lost loaded found) = Lost loaded found

-- an update was refused: its last load or its exchange found another lock word, or no version was left
abbrev pub UpdateRefused : (List ℕ → Type 0) → RecordShape → RecordPassView → PutFault → RecordPassView → Type 0
UpdateRefused P shape v (Busy word) w = WasBusy shape v word w
UpdateRefused P shape v (Lost loaded found) w = WasLost shape v loaded found w ⊎
    SeenThen P shape loaded v (λ u. WasOvertaken shape u loaded found w)
UpdateRefused P shape v (Spent word) w = SeenThen P shape word v (λ u. NoneLeft shape word u w)

-- a put_if was made, and answered yes: the expected words were seen, and others put over them
pub record PutOver (P : List ℕ → Type 0) (shape : RecordShape) (expected words : List ℕ)
    (v w : RecordPassView) : Type 0 where
  pub word : ℕ
  pub between : RecordPassView
  pub seen : HasSeen P shape word expected v between
  pub made : MadeOnRecord shape (PutIf expected words) Yes between w

-- it was answered yes or no
abbrev pub PutIfMade : (List ℕ → Type 0) → RecordShape → List ℕ → List ℕ → Bool → RecordPassView →
    RecordPassView → Type 0
PutIfMade P shape expected words true v w = PutOver P shape expected words v w
PutIfMade P shape expected words false v w = MadeOnRecord shape (PutIf expected words) No v w

-- a get gave these words, or was refused
abbrev pub GotOrRefused : (List ℕ → Type 0) → RecordShape → Result (List ℕ) GetFault →
    RecordPassView → RecordPassView → Type 0
GotOrRefused P shape (Ok words) v w = WasGot P shape words v w
GotOrRefused P shape (Err fault) v w = GetRefused shape v fault w

-- v' and w' are v and w after they met: both know one history, which is legal, and where the calls
-- of either are just its own
pub record RecordPassesMet (width : ℕ) (v w v' w' : RecordPassView) : Type 0 where
  pub met : PassesMet v w v' w'
  pub idle : (v'.phase ≡ v.phase) × (w'.phase ≡ w.phase)
  pub all_consistent : IsConsistentWith width v' × IsConsistentWith width w'
