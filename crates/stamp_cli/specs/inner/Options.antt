-- The parts of a command line as the code holds them.
use Rattle.std.specs.Prelude.{◌≡◌, ◌<◌, ℕ, List, ◌∷◌, length}
use Rattle.stamp_cli.specs.declared.options.Item.{Item as held}
use Rattle.stamp_cli.specs.declared.options.Item.TheVariants.{Flag, Worded, File, Stray}
use Rattle.stamp_cli.specs.Options.{Table, Item, flag, worded, file, stray, items_of}

abbrev pub item_of : held → Item
item_of (Flag name) = flag name.now
item_of (Worded name word) = worded name.now word.now
item_of (File name) = file name.now
item_of (Stray word) = stray word.now

-- the arguments begin with this part, and the others are behind it
pub record IsFirst (t : Table) (args rest : List (List ℕ)) (item : Item) : Type 0 where
  pub first : items_of t args ≡ item ∷ items_of t rest
  pub fewer : length rest < length args
