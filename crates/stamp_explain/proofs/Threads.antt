-- There are no more different threads than 64.
use Rattle.std.proofs.Common.{◌≢◌, ℕ, ◌<◌, ◌≤◌, List, length}
use Rattle.std.specs.List.{All, AllPairs}
use Rattle.std.proofs.lemmas.List.Elements.{All-contains}
use Rattle.std.proofs.lemmas.Map.Made.{IsDistinct-from_AllPairs}
use Rattle.std.proofs.lemmas.Map.Views.{Contains-from_any}
use Rattle.std.proofs.lemmas.Map.Steps.{length-le_from_distinct_below}
use Rattle.std.proofs.lemmas.Bool.{eqb-true}
use Rattle.std.proofs.lemmas.Bool.Decides.{Decides-eqb}

pub few_threads : (ts : List ℕ) (n : ℕ) → AllPairs (λ (a b : ℕ). a ≢ b) ts → All (λ (a : ℕ). a < n) ts → length ts ≤ n
few_threads ts n apart below = length-le_from_distinct_below ts n (IsDistinct-from_AllPairs Decides-eqb ts apart)
    (λ q any. All-contains (λ (a : ℕ). a < n) ts q below (Contains-from_any eqb-true q ts any))
