-- How a script's fields are read as a script, and what each script keeps to.
use Rattle.std.specs.Prelude.{map}
use Rattle.stamp_machines.specs.Script.{Scripted}
use Rattle.stamp_machines.specs.ScriptFault.{thread_calls, IsGood}
use Rattle.stamp_machines.specs.declared.script.Script.TheInside.{Inside}

abbrev pub scripted_of : Inside → Scripted
scripted_of s =
    record {
      limits = s.limits;
      width = s.width;
      threads = map thread_calls s.threads.items;
      steps = s.steps.items;
    }

abbrev pub HasGoodFields : Inside → Type 0
HasGoodFields s = IsGood s.width s.threads.items s.steps.items
