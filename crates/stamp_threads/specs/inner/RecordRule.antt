-- The rule of a record's words, and what each step on them tells.
use Rattle.std.specs.Prelude.{◌≡◌, ◌≢◌, ℕ, ◌+◌, ◌<◌, ◌≤◌, ◌==◌, MatchBool, if◌then◌else◌, true}
use Rattle.std.specs.Prelude.{Bool, false, List, [], ◌∷◌, ◌++◌, length, slice_index, drop, Option, Some, None, Vec}
use Rattle.std.specs.declared.alloc.Global.{Global}
use Rattle.std.specs.declared.snapshot.Snapshot.{Snapshot}
use mathlib.Core.List.{IsPrefix}
use Rattle.atomic_table.specs.Table.{State, Step}
use Rattle.stamp_core.specs.Content.{RecordReplies}
use Rattle.stamp_core.specs.declared.layout.Layout.{Layout}
use Rattle.stamp_core.specs.declared.call.Call.{Call}
use Rattle.stamp_core.specs.declared.reply.Reply.{Reply}
use Rattle.stamp_core.specs.declared.call.Call.TheVariants.{Get, Put, PutIf}
use Rattle.stamp_core.specs.declared.reply.Reply.TheVariants.{Done, Content, Yes, No}
use Rattle.stamp_threads.specs.declared.record_view.RecordShape.{RecordShape}
use Rattle.stamp_threads.specs.declared.record_view.RecordEvent.{RecordEvent}
use Rattle.stamp_threads.specs.declared.record_view.RecordEvent.TheVariants.{Mark, Called}
use Rattle.stamp_threads.specs.declared.record_view.RecordPhase.{RecordPhase}
use Rattle.stamp_threads.specs.declared.record_view.RecordPhase.TheVariants.{Idle, Writing, Loading}
use Rattle.stamp_threads.specs.PassView.{IsPart, entry}
use Rattle.stamp_threads.specs.inner.PassView.{knowing, adding, finding}
use Rattle.stamp_threads.specs.Seats.{alone}
use Rattle.stamp_threads.specs.inner.Seats.{StandsAt, AreSeated, both}
use Rattle.stamp_threads.specs.RecordWord.{word_with}
use Rattle.stamp_threads.specs.RecordLog.{RecordLog, IsLegalLog, content_in, puts, puts_in}
use Rattle.stamp_threads.specs.RecordLog.{is_locked, marker_in, word_after, is_call, marks_of}
use Rattle.stamp_threads.specs.RecordPass.{RecordPassView, IsConsistentWith, LeavesWord, marks_ahead, first_of}
use Rattle.stamp_threads.specs.RecordPass.{HasEntered}
use Rattle.stamp_threads.specs.inner.RecordPass.{Seated, second_of}

-- what a writer knows: the history is locked by its mark, and what it has stored stands
pub record KnowsWriting (P : List ℕ → Type 0) (width : ℕ) (table_words : List ℕ) (log : RecordLog) (name : List ℕ)
    (puts_before : ℕ) (words : List ℕ) (stored : ℕ) : Type 0 where
  pub locked : is_locked log ≡ true
  pub puts_are : puts log ≡ puts_before
  pub marker : marker_in log ≡ name
  pub long : length words ≡ width
  pub rule : P words
  pub few : stored ≤ width
  pub stand : (j : ℕ) → j < stored → slice_index table_words (j + 1) ≡ slice_index words j

-- what a pass that loads knows: while nothing was put since, and nobody has write mode, the words
-- that it has loaded are the first of the content
pub record KnowsLoading (width : ℕ) (log : RecordLog) (puts_before : ℕ) (words : List ℕ) : Type 0 where
  pub before : puts_before ≤ puts log
  pub few : length words ≤ width
  pub stand : is_locked log ≡ false → puts log ≡ puts_before → (j : ℕ) → j < length words →
      slice_index words j ≡ slice_index (content_in width log) j

-- what a pass knows beside its part of the history, by its phase: between two calls nothing
abbrev pub Knows : (List ℕ → Type 0) → ℕ → List ℕ → RecordLog → List ℕ → RecordPhase → Type 0
Knows P width table_words log name Idle = Unit {0}
Knows P width table_words log name (Writing puts_before words stored) =
    KnowsWriting P width table_words log name puts_before words stored
Knows P width table_words log name (Loading puts_before words) = KnowsLoading width log puts_before words

-- a pass knows a part of the history, and has a mark there for each of its puts
pub record KnowsPart (P : List ℕ → Type 0) (width : ℕ) (table_words : List ℕ) (log : RecordLog) (v : RecordPassView) :
    Type 0 where
  pub part : IsPart is_call log v
  pub marks : marks_of v.name log ≡ puts_in v.own + marks_ahead v.phase
  pub knows : Knows P width table_words log v.name v.phase

abbrev pub IsWriting : RecordPhase → Type 0
IsWriting (Writing puts_before words stored) = Unit {0}
IsWriting _ = ⊥

-- some pass that stands is writing, and made the last mark
pub record HasWriter (log : RecordLog) (views : List (List RecordPassView)) : Type 0 where
  pub seat : ℕ
  pub index : ℕ
  pub writer : RecordPassView
  pub stands : StandsAt views seat index writer
  pub writes : IsWriting writer.phase
  pub marker : marker_in log ≡ writer.name

-- there is one legal history, which leaves the lock word; the other words are its content where it
-- is not locked. Where passes may not enter, the first root is the only one
pub record IsKept (enterable : Bool) (P : List ℕ → Type 0) (shape : RecordShape)
    (s : State (Unit {0}) (List RecordPassView)) : Type 0 where
  pub log : RecordLog
  pub roots : ℕ
  pub one_root : enterable ≡ false → roots ≡ 1
  pub legal : IsLegalLog shape.width log
  pub wide : length s.words ≡ shape.width + 1
  pub word_is : slice_index s.words 0 ≡ word_after shape.limits.layout log
  pub few : puts log ≤ shape.limits.versions
  pub fewer : is_locked log ≡ true → puts log < shape.limits.versions
  pub rests : is_locked log ≡ false → (i : ℕ) → i < shape.width →
      slice_index s.words (i + 1) ≡ slice_index (content_in shape.width log) i
  pub long : length (content_in shape.width log) ≡ shape.width
  pub rule : P (content_in shape.width log)
  pub passes : AreSeated (KnowsPart P shape.width s.words log) roots log s.views
  pub writer : is_locked log ≡ true → HasWriter log s.views

abbrev pub with_phase : RecordPassView → RecordPhase → RecordPassView
with_phase v phase = record v { phase = phase }

-- it knows the whole history, and got write mode to put these words
abbrev pub acquiring : RecordPassView → RecordLog → List ℕ → RecordPassView
acquiring v log words =
    record v { known = log ++ entry v.name Mark ∷ []; phase = Writing (puts log) words 0 }

-- it knows the whole history, and made a call
abbrev pub calling : RecordPassView → RecordLog → RecordEvent → RecordPassView
calling v log event = record (adding v log event) { phase = Idle }

-- it knows the whole history, and begins to load the words
abbrev pub starting_to_load : RecordPassView → RecordLog → RecordPassView
starting_to_load v log = with_phase (knowing v log) (Loading (puts log) [])

-- it knows the whole history, and made no call
abbrev pub stopping : RecordPassView → RecordLog → RecordPassView
stopping v log = with_phase (knowing v log) Idle

abbrev pub get_of : List ℕ → RecordEvent
get_of words = Called Get (Content words)

-- v is the pass before a step that has found this word, and me the seat after it
module _ (shape : RecordShape) (v : RecordPassView) (found : ℕ) (me : Seated) where
  -- the pass has come to know the whole history and made no call: the seat has the pass that comes of it, and
  -- where the history is locked, another pass made its last mark
  pub record CameToKnow (after_it : RecordLog → RecordPassView) : Type 0 where
    pub log : RecordLog
    pub left : LeavesWord shape v found log
    pub after : me ≡ alone (after_it log)
    pub others : is_locked log ≡ true → marker_in log ≢ v.name
    pub consistent : IsConsistentWith shape.width (after_it log)

  -- the first load of a put, or its exchange where that found another word
  abbrev pub LoadedForPut : Type 0
  LoadedForPut = CameToKnow (knowing (finding v found))

  pub record Acquired (words : List ℕ) : Type 0 where
    pub log : RecordLog
    pub left : LeavesWord shape v found log
    pub after : me ≡ alone (acquiring (finding v found) log words)

  -- write mode is released, and the call is made by which it was held
  pub record Released (call : Call) (reply : Reply) : Type 0 where
    pub log : RecordLog
    pub begins : IsPrefix v.known log
    pub word_is : found ≡ word_after shape.limits.layout log
    pub replies : RecordReplies (content_in shape.width log) call reply
    pub after : me ≡ alone (calling (finding v found) log (Called call reply))
    pub few : puts (log ++ entry v.name (Called call reply) ∷ []) ≤ shape.limits.versions
    pub consistent : IsConsistentWith shape.width (calling (finding v found) log (Called call reply))

  -- the first load of a get: where nobody has write mode the pass begins to load the words
  pub record LoadedForGet : Type 0 where
    pub log : RecordLog
    pub left : LeavesWord shape v found log
    pub after : me ≡ alone (if is_locked log then knowing (finding v found) log
        else starting_to_load (finding v found) log)
    pub others : is_locked log ≡ true → marker_in log ≢ v.name
    pub consistent : IsConsistentWith shape.width (knowing (finding v found) log)

  -- the second load of the lock word, where it is the word of the first: the call is made
  pub record Confirmed (P : List ℕ → Type 0) (words : List ℕ) (call : Call) (reply : Reply) : Type 0 where
    pub log : RecordLog
    pub content : words ≡ content_in shape.width log
    pub rule : P words
    pub left : LeavesWord shape v found log
    pub replies : RecordReplies (content_in shape.width log) call reply
    pub after : me ≡ alone (calling (finding v found) log (Called call reply))
    pub consistent : IsConsistentWith shape.width (calling (finding v found) log (Called call reply))

  -- or none is made
  pub record Saw (P : List ℕ → Type 0) (words : List ℕ) : Type 0 where
    pub log : RecordLog
    pub content : words ≡ content_in shape.width log
    pub rule : P words
    pub left : LeavesWord shape v found log
    pub free : is_locked log ≡ false
    pub after : me ≡ alone (stopping (finding v found) log)
    pub consistent : IsConsistentWith shape.width (stopping (finding v found) log)

  -- and where it is another
  abbrev pub Overtaken : Type 0
  Overtaken = CameToKnow (stopping (finding v found))

-- a load by a seat that holds two passes
pub record Met (shape : RecordShape) (v w : RecordPassView) (me : Seated) : Type 0 where
  pub log : RecordLog
  pub first_begins : IsPrefix v.known log
  pub second_begins : IsPrefix w.known log
  pub after : me ≡ both (knowing v log) (knowing w log)
  pub apart : v.name ≢ w.name
  pub first_consistent : IsConsistentWith shape.width (knowing v log)
  pub second_consistent : IsConsistentWith shape.width (knowing w log)

-- one more word is stored
abbrev pub storing_one : RecordPhase → RecordPhase
storing_one Idle = Idle
storing_one (Writing puts_before words stored) = Writing puts_before words (stored + 1)
storing_one (Loading puts_before words) = Loading puts_before words

-- one more word is loaded
abbrev pub loading_one : RecordPhase → ℕ → RecordPhase
loading_one Idle word = Idle
loading_one (Writing puts_before words stored) word = Writing puts_before words stored
loading_one (Loading puts_before words) word = Loading puts_before (words ++ word ∷ [])

abbrev pub stored_one : RecordPassView → RecordPassView
stored_one v = with_phase v (storing_one v.phase)

abbrev pub loaded_one : RecordPassView → ℕ → RecordPassView
loaded_one v word = with_phase v (loading_one v.phase word)

-- the lock word that a get has to find again
abbrev pub word_to_confirm : Layout → RecordPhase → ℕ
word_to_confirm layout Idle = 0
word_to_confirm layout (Writing puts_before words stored) = 0
word_to_confirm layout (Loading puts_before words) = word_with layout puts_before false

-- what each step tells the seat that makes it
abbrev pub Tells : Type 1
Tells = Step (Unit {0}) → Seated → ℕ → Seated → Type 0

abbrev pub LoadForPutTells : RecordShape → Tells
LoadForPutTells shape st m found n = LoadedForPut shape (first_of m.0) found n

abbrev pub AcquireTells : RecordShape → List ℕ → Tells
AcquireTells shape words st m found n =
    MatchBool (found == st.first) (Acquired shape (first_of m.0) found n words)
    (LoadedForPut shape (first_of m.0) found n)

abbrev pub StoreWordTells : Tells
StoreWordTells st m found n = n ≡ alone (stored_one (first_of m.0))

abbrev pub ReleaseTells : RecordShape → List ℕ → Tells
ReleaseTells shape words st m found n = Released shape (first_of m.0) st.first n (Put words) Done

-- the content that the words are put over is the one that the pass knows
abbrev pub ReleaseOverTells : RecordShape → List ℕ → Tells
ReleaseOverTells shape words st m found n = Released shape (first_of m.0) st.first n
    (PutIf (content_in shape.width (first_of m.0).known) words) Yes

abbrev pub LoadForGetTells : RecordShape → Tells
LoadForGetTells shape st m found n = LoadedForGet shape (first_of m.0) found n

abbrev pub LoadWordTells : Tells
LoadWordTells st m found n = n ≡ alone (loaded_one (first_of m.0) found)

abbrev pub ConfirmTells : (List ℕ → Type 0) → RecordShape → List ℕ → Tells
ConfirmTells P shape words st m found n =
    MatchBool (found == word_to_confirm shape.limits.layout (first_of m.0).phase)
    (Confirmed shape (first_of m.0) found n P words Get (Content words)) (Overtaken shape (first_of m.0) found n)

abbrev pub SeeTells : (List ℕ → Type 0) → RecordShape → List ℕ → Tells
SeeTells P shape words st m found n =
    MatchBool (found == word_to_confirm shape.limits.layout (first_of m.0).phase)
    (Saw shape (first_of m.0) found n P words) (Overtaken shape (first_of m.0) found n)

abbrev pub DenyTells : (List ℕ → Type 0) → RecordShape → List ℕ → List ℕ → List ℕ → Tells
DenyTells P shape loaded expected words st m found n =
    MatchBool (found == word_to_confirm shape.limits.layout (first_of m.0).phase)
    (Confirmed shape (first_of m.0) found n P loaded (PutIf expected words) No)
    (Overtaken shape (first_of m.0) found n)

abbrev pub MeetTells : RecordShape → Tells
MeetTells shape st m found n = Met shape (first_of m.0) (second_of m.0) n

-- and a seat that is made by a load
abbrev pub EnterTells : RecordShape → Tells
EnterTells shape st m found n =
    (n ≡ alone (first_of n.0)) × HasEntered shape (first_of n.0)

-- what was put of a table's first words, the lock word before it
abbrev pub first_put : Option (Snapshot (Vec ℕ Global)) → Option (List ℕ)
first_put None = None
first_put (Some row) = Some (drop 1 row.value.items)
