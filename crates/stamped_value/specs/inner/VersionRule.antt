-- The rule of a guarded value, and what each step on its word tells.
use Rattle.std.specs.Prelude.{◌≡◌, ◌≢◌, ℕ, ◌==◌, Bool, false, MatchBool, Option, IfSome, List, [], ◌∷◌, map, count_by}
use mathlib.Core.List.{IsPrefix}
use mathlib.Core.Option as maybe
use lib.ListN.{get_elem?}
use Rattle.lent_table.specs.Table.{State, Step, Home, away, lent, none}
use Rattle.stamp_core.specs.Limits.{Bounds}
use Rattle.stamp_core.specs.LockEvent.{Counts, counts, readers, writers}
use Rattle.stamp_core.specs.declared.call.Call.{Call}
use Rattle.stamp_machines.specs.LockNumber.{RepresentsAt}
use Rattle.stamp_threads.specs.PassView.{IsPart, every}
use Rattle.stamp_threads.specs.inner.PassView.{knowing}
use Rattle.stamp_threads.specs.inner.Seats.{AreSeated}
use Rattle.stamp_threads.specs.inner.LockRule.{Loaded, Won}
use Rattle.stamp_threads.specs.LockLog.{LockLog, events_after, transition_after, IsLegalLog}
use Rattle.stamp_threads.specs.LockPass.{LockPassView, HasEntered}
use Rattle.stamped_value.specs.declared.view.ValueView.{ValueView}
use Rattle.stamped_value.specs.declared.view.Held.TheVariants.{Free}
use Rattle.stamped_value.specs.Values.{HasValues, Opens, IsLastOf}
use Rattle.stamped_value.specs.Held.{Matches, is_writing}
use Rattle.stamped_value.specs.inner.Held.{is_reading}
use Rattle.stamped_value.specs.ValueMade.{Seen, DoesBy}

module _ {T : Type 0} where
  -- while a writer has the lock the value is away; else it is lent to the readers, and is the last one
  abbrev pub HomeIs : Counts → List T → Home T → Type 0
  HomeIs c values home = MatchBool (c.writers == 0) ((x : T) × IsLastOf values x × (home ≡ lent c.readers x)) (home ≡ away)

  -- a seat knows the first of the values, and its stamp matches; while it holds a mode it knows all values
  pub record Fits (limits : Bounds) (log : LockLog) (values : List T) (v : ValueView T) : Type 0 where
    pub begins : IsPrefix v.values values
    pub matches : Matches limits (events_after limits log) v.held
    pub all : v.held ≢ Free → v.values ≡ values

  abbrev pub passes_of : List (ValueView T) → List (List LockPassView)
  passes_of views = map (λ v. v.pass ∷ []) views

  -- There is one legal history, whose events the word represents, and a value for each of its versions, of which the
  -- first is this one and the last is the value. The modes that are held are those that seats hold. Where seats may not
  -- enter, the first one is the only root
  pub record IsKept (enterable : Bool) (limits : Bounds) (first : T) (s : State T (ValueView T)) : Type 0 where
    pub log : LockLog
    pub values : List T
    pub roots : ℕ
    pub one_root : enterable ≡ false → roots ≡ 1
    pub legal : IsLegalLog limits log
    pub represents : RepresentsAt limits s.word (events_after limits log)
    pub passes : AreSeated (IsPart every log) roots log (passes_of s.views)
    pub are : HasValues limits log values
    pub opens : Opens first values
    pub home : HomeIs (counts (events_after limits log)) values s.home
    pub fits : (k : ℕ) (v : ValueView T) → get_elem? s.views k ≡ maybe.some v → Fits limits log values v
    pub readers_are : count_by (λ v. is_reading v.held) s.views ≡ readers (events_after limits log)
    pub writers_are : count_by (λ v. is_writing v.held) s.views ≡ writers (events_after limits log)

  -- a load that found this word: of the pass it tells what it does of any lock's, and the seat holds what it held
  pub record LoadTells (limits : Bounds) (call : Call) (v : Seen T) (found : ℕ) (w : Seen T) : Type 0 where
    pub pass : Loaded limits call v.0.pass found w.0.pass
    pub begins : IsPrefix v.0.values w.0.values
    pub are : HasValues limits pass.log w.0.values
    pub matches : Matches limits (events_after limits pass.log) v.0.held
    pub same : (w.0.held ≡ v.0.held) × (w.1 ≡ v.1)

  -- an exchange that found the word that it looked for
  pub record WonTells (limits : Bounds) (call : Call) (v : Seen T) (found : ℕ) (w : Seen T) : Type 0 where
    pub pass : Won limits call v.0.pass found w.0.pass
    pub matches : Matches limits (events_after limits pass.log) v.0.held
    pub values : List T
    pub begins : IsPrefix v.0.values values
    pub are : HasValues limits pass.log values
    pub does : DoesBy (transition_after limits pass.log call) v values w

  abbrev pub ExchangeTells : Bounds → Call → Step → Seen T → ℕ → Seen T → Type 0
  ExchangeTells limits call st v found w =
      MatchBool (found == st.old) (WonTells limits call v found w) (LoadTells limits call v found w)

  -- a load and an exchange of the call at once: the exchange finds the word that the load found
  abbrev pub TakenTells : Bounds → Call → Seen T → ℕ → Seen T → Type 0
  TakenTells limits call v found w =
      (between : Seen T) × LoadTells limits call v found between × WonTells limits call between found w

  -- a seat that was made by a load, where this is the first value
  pub record EnterTells (limits : Bounds) (first : Option T) (w : Seen T) : Type 0 where
    pub pass : HasEntered limits w.0.pass
    pub are : HasValues limits w.0.pass.known w.0.values
    pub opens : IfSome first (λ x. Opens x w.0.values)
    pub free : (w.0.held ≡ Free) × (w.1 ≡ none)

  -- A load beside another seat, which knows u. The seat then knows the whole history and all values, of which both knew
  -- a part, under names of their own, and holds what it held
  pub record MeetTells (limits : Bounds) (u : ValueView T) (v w : Seen T) : Type 0 where
    pub pass : w.0.pass ≡ knowing v.0.pass w.0.pass.known
    pub legal : IsLegalLog limits w.0.pass.known
    pub parts : IsPart every w.0.pass.known v.0.pass × IsPart every w.0.pass.known u.pass
    pub apart : v.0.pass.name ≢ u.pass.name
    pub begin : IsPrefix v.0.values w.0.values × IsPrefix u.values w.0.values
    pub are : HasValues limits w.0.pass.known w.0.values
    pub same : (w.0.held ≡ v.0.held) × (w.1 ≡ v.1)

  -- a load beside another seat, which knows u: the seat then knows just what the other does, and holds what it held
  abbrev pub FollowTells : ValueView T → Seen T → Seen T → Type 0
  FollowTells u v w =
      w ≡ (record { pass = knowing v.0.pass u.pass.known; values = u.values; held = v.0.held }, v.1)
