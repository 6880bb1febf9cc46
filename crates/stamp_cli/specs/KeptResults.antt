-- The results that a source or a sink keeps.
use Rattle.std.specs.Prelude.{ℕ, List, [], ◌∷◌, ◌++◌, Result}
use Rattle.std.specs.declared.io.Error.{Error}
use Rattle.stamp_cli.specs.declared.kept_results.KeptResults.{KeptResults, Empty, After'}

-- the results, the first one first
abbrev pub results_in : KeptResults → List (Result ℕ Error)
results_in Empty = []
results_in (After' marker before result) = results_in before ++ result.value ∷ []
