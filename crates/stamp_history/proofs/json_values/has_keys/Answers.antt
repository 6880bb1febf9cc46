use Rattle.std.proofs.lemmas.List.{length-map}
use Rattle.std.proofs.lemmas.List.Folds.{list_all-map}
use Rattle.stamp_history.proofs.json_values.has_keys.Goals as goal

pub returns-then-has_members : goal.returns-then-has_members
returns-then-has_members c = rw (length-map, list_all-map, ← c.has_members.ensures, c.if-has_members.true)
    c.has_each.ensures
