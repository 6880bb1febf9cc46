-- Texts that grow at their end.
use Rattle.std.proofs.Common.{◌≡◌, ◌∙◌, ◌++◌, List, ℕ, ap, append_assoc}

-- one piece, and then another
pub onto : {mid new : List ℕ} (old x y : List ℕ) → mid ≡ old ++ x → new ≡ mid ++ y → new ≡ old ++ (x ++ y)
onto old x y first then_ = then_ ∙ ap (λ (text : List ℕ). text ++ y) first ∙ append_assoc old x y

-- a piece stands before what follows
pub before : {new : List ℕ} (old x rest : List ℕ) → new ≡ old ++ x → new ++ rest ≡ old ++ (x ++ rest)
before old x rest first = ap (λ (text : List ℕ). text ++ rest) first ∙ append_assoc old x rest
