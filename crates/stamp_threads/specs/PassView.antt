-- What a pass is seen as: its name, how often it was split, what it knows of the one history, the calls
-- that it made itself, and what its accesses found.
use Rattle.std.specs.Prelude.{◌≡◌, ◌≢◌, ℕ, ◌+◌, Bool, true, if◌then◌else◌, nat_eq, List, [], ◌∷◌}
use Rattle.std.specs.Prelude.{◌++◌}
use lib.Pointwise.{pointwise}
use mathlib.Core.List.{IsPrefix}
use Rattle.stamp_threads.specs.declared.pass_view.LogEntry.{LogEntry}
use Rattle.stamp_threads.specs.declared.pass_view.PassView.{PassView}
use Rattle.stamp_threads.specs.PassName.{HasGivenAll}

abbrev pub entry : {E : Type 0} → List ℕ → E → LogEntry E
entry name made = record { name = name; made = made }

abbrev pub every : {E : Type 0} → E → Bool
every made = true

-- what the pass of this name made, of one kind, in the order of the history
abbrev pub made_by : {E : Type 0} → (E → Bool) → List ℕ → List (LogEntry E) → List E
made_by kind name [] = []
made_by kind name (e ∷ log) = if pointwise nat_eq e.name name then
    (if kind e.made then e.made ∷ made_by kind name log else made_by kind name log) else made_by
    kind name log

module _ {E P : Type 0} where
  -- the pass knows a part of the history: a beginning, and all calls that it made itself. No entry has
  -- a name that it may still give
  pub record IsPart (is_call : E → Bool) (log : List (LogEntry E)) (v : PassView E P) : Type 0 where
    pub known : IsPrefix v.known log
    pub own : made_by is_call v.name log ≡ v.own
    pub given : HasGivenAll v.name v.splits log

  -- v is the pass before some accesses of the lock word, which found these words, and w after them
  abbrev pub HasFound : PassView E P → List ℕ → PassView E P → Type 0
  HasFound v words w = w.found ≡ v.found ++ words

  -- the pass after a split
  abbrev pub after_split : PassView E P → PassView E P
  after_split v = record v { splits = v.splits + 1 }

  -- the new pass: it knows as much, and made nothing
  abbrev pub split_off : PassView E P → PassView E P
  split_off v =
      record v { name = v.name ++ v.splits ∷ []; splits = 0; own = []; found = [] }

  -- the first pass of all
  abbrev pub first_pass : P → PassView E P
  first_pass phase =
      record { name = 0 ∷ []; splits = 0; known = []; own = []; phase = phase; found = [] }

  -- a pass that enters by this root: it knows the whole history, found this word, and made nothing
  abbrev pub entering : ℕ → P → List (LogEntry E) → ℕ → PassView E P
  entering root phase log word = record {
    name = root ∷ [];
    splits = 0;
    known = log;
    own = [];
    phase = phase;
    found = word ∷ [];
  }

  -- it is the same pass still
  pub record IsSamePass (v w : PassView E P) : Type 0 where
    pub name : w.name ≡ v.name
    pub splits : w.splits ≡ v.splits

  -- and it has made no call since
  pub record MadeNoCallSince (v w : PassView E P) : Type 0 where
    pub same : IsSamePass v w
    pub own : w.own ≡ v.own

  -- v' and w' are v and w after they met: both know one history, which begins with what either knew.
  -- They made no call, and keep what they found
  pub record PassesMet (v w v' w' : PassView E P) : Type 0 where
    pub first_begins : IsPrefix v.known v'.known
    pub second_begins : IsPrefix w.known v'.known
    pub alike : w'.known ≡ v'.known
    pub apart : v.name ≢ w.name
    pub no_calls : MadeNoCallSince v v' × MadeNoCallSince w w'
    pub finds : (v'.found ≡ v.found) × (w'.found ≡ w.found)
