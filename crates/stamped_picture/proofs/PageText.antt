-- A page grows at its end.
use Rattle.std.proofs.Common.{◌≡◌, ◌∙◌, ◌++◌, [], List, ℕ, ap}
use Rattle.stamp_history.proofs.Appending.{onto}

-- what stands before the data, the data, and what stands behind
pub page_text : {started first second whole : List ℕ} (head middle tail : List ℕ) → started ≡ [] →
    first ≡ started ++ head → second ≡ first ++ middle → whole ≡ second ++ tail → whole ≡ head ++ (middle ++ tail)
page_text {started} head middle tail empty before then_ behind =
    onto started head (middle ++ tail) before (onto _ middle tail then_ behind)
    ∙ ap (λ (text : List ℕ). text ++ (head ++ (middle ++ tail))) empty
