-- What the arguments of a program give.
use Rattle.std.specs.Prelude.{ℕ, List, map}
use Rattle.std.specs.Borrow.{Bor}
use Rattle.stamp_cli.specs.declared.options.Options.{Options}
use Rattle.stamp_cli.specs.declared.options.Given.{Given}
use Rattle.stamp_cli.specs.Options.{Table, Item, items_of}

abbrev pub texts : List (Bor (List ℕ)) → List (List ℕ)
texts words = map (λ (word : Bor (List ℕ)). word.now) words

-- the options of a program
abbrev pub table_of : Options → Table
table_of options = record { flags = texts options.flags.now; worded = texts options.worded.now }

-- the parts of its arguments
abbrev pub items_given : Given → List Item
items_given given = items_of (table_of given.options) (texts given.args.now)
