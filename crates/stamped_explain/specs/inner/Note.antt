-- The replies that are possible, without where they lie in memory.
use Rattle.std.specs.Prelude.{List, Option, Some, None, Vec}
use Rattle.std.specs.declared.alloc.Global.{Global}
use Rattle.stamp_core.specs.declared.reply.Reply.{Reply}

abbrev pub replies_in : Option (Vec Reply Global) → Option (List Reply)
replies_in None = None
replies_in (Some replies) = Some replies.items
