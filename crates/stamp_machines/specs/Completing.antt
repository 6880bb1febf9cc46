-- How far the finished calls of a script have been passed on.
use Rattle.std.specs.Prelude.{◌≡◌, ℕ, ◌+◌, ◌<◌, ◌≤◌, List, Option, Some, None, length, drop}
use Rattle.std.specs.Prelude.{slice_get}
use Rattle.stamp_core.specs.declared.entry.Entry.{Entry}
use Rattle.stamp_machines.specs.Script.{Scripted}
use Rattle.stamp_machines.specs.World.{finished_calls}

-- the script, how many of its steps were made, the entry passed on last, and those to come
pub record Completing : Type 0 where
  pub script : Scripted
  pub made : ℕ
  pub last : Option Entry
  pub rest : List Entry

-- before the first step
abbrev pub before_all : Scripted → Completing
before_all script =
    record { script = script; made = 0; last = None; rest = finished_calls script script.steps }

-- the steps up to the one by which the call of this entry ended, or else all
abbrev pub steps_until : Scripted → Option Entry → ℕ
steps_until script None = length script.steps
steps_until script (Some e) = e.last + 1

-- where the first of those to come has been passed on, if there is one
abbrev pub after_next : Completing → Completing
after_next c =
    record {
      script = c.script;
      made = steps_until c.script (slice_get c.rest 0);
      last = slice_get c.rest 0;
      rest = drop 1 c.rest;
    }

-- it stopped before a step that is left; the steps made before that one ended no call
pub record Stopped (old new : Completing) : Type 0 where
  pub same : new ≡ record old { made = new.made; last = None }
  pub onward : old.made ≤ new.made
  pub left : new.made < length old.script.steps
