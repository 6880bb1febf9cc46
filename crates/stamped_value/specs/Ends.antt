-- How a guarded value ends, once it is shared no more, as the last views of all its seats tell it.
use Rattle.std.specs.Prelude.{◌≡◌, ◌⊎◌, ℕ, List, count_by, Result, Ok, Err}
use mathlib.Core.List.{IsPrefix}
use mathlib.Core.Option as maybe
use lib.ListN.{get_elem?}
use base.Fml.{Fml, fsep, fex}
use denote.RattleType.{RattleType}
use Rattle.atomic_table.specs.Seated.{fact}
use Rattle.lent_table.specs.Lending.{TableId, has_ended}
use Rattle.stamp_core.specs.Limits.{Bounds}
use Rattle.stamp_core.specs.LockEvent.{writers}
use Rattle.stamp_machines.specs.LockNumber.{RepresentsAt}
use Rattle.stamp_threads.specs.LockLog.{LockLog, events_after, IsLegalLog}
use Rattle.stamp_threads.specs.PassView.{IsPart, every}
use Rattle.stamped_value.specs.contracts.view.ValueView.{the_row}
use Rattle.stamped_value.specs.declared.view.ValueView.{ValueView}
use Rattle.stamped_value.specs.Held.{is_writing}
use Rattle.stamped_value.specs.Values.{HasValues, Opens, IsLastOf}

module _ {T : Type 0} where
  -- how many seats still hold write mode
  abbrev pub writers_left : List (ValueView T) → ℕ
  writers_left views = count_by (λ v. is_writing v.held) views

  -- The last word represents a legal history, and there is a value for each of its versions, of which the first is this
  -- one. What each seat knew and made is a part of them, and as many are writing as seats hold write mode
  pub record Ends (limits : Bounds) (first : T) (views : List (ValueView T)) : Type 0 where
    pub word : ℕ
    pub log : LockLog
    pub legal : IsLegalLog limits log
    pub represents : RepresentsAt limits word (events_after limits log)
    pub values : List T
    pub are : HasValues limits log values
    pub opens : Opens first values
    pub parts : (k : ℕ) (v : ValueView T) → get_elem? views k ≡ maybe.some v
        → IsPart every log v.pass × IsPrefix v.values values
    pub writers_are : writers_left views ≡ writers (events_after limits log)

  -- no seat holds write mode, and x is the last of the values
  pub record EndsWithLast (limits : Bounds) (first : T) (views : List (ValueView T)) (x : T) : Type 0 where
    pub ends : Ends limits first views
    pub nobody : writers_left views ≡ 0
    pub last : IsLastOf ends.values x

  -- a seat holds write mode
  pub record EndsWithWriter (limits : Bounds) (first : T) (views : List (ValueView T)) : Type 0 where
    pub ends : Ends limits first views
    pub writer : writers_left views ≡ 1

  -- in one of the two ways: an answer says which
  abbrev pub EndsAs : Bounds → T → Result T T → List (ValueView T) → Type 0
  EndsAs limits first (Ok x) views = EndsWithLast limits first views x
  EndsAs limits first (Err x) views = EndsWithWriter limits first views

  -- and a value alone doesn't
  abbrev pub EndsWith : Bounds → T → T → List (ValueView T) → Type 0
  EndsWith limits first x views = EndsWithLast limits first views x ⊎ EndsWithWriter limits first views

-- The table ended, and this holds of the last views of all its seats. Nobody can say so of other views than those that
-- its seats themselves had, or left with
abbrev pub table_ended : (T : RattleType) → TableId → (List (ValueView T.Denot) → Type 0) → Fml
table_ended T table Is = fex (List (ValueView T.Denot)) (λ views.
    fsep (fact (Is views)) (has_ended (the_row T).coded.code table views))
