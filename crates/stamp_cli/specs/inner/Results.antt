-- What one read or one write did.
use Rattle.std.specs.Prelude.{ℕ, ◌+◌, ◌≡◌, ◌↔◌, ◌≤◌, ◌++◌, [], ◌∷◌, Bool, true, not, Result, Err, IfOk, is_err}
use Rattle.std.specs.declared.io.Error.{Error}
use Rattle.stamp_cli.specs.TakesNone.{takes_none}
use Rattle.stamp_cli.specs.declared.faults.ServeFault.{ServeFault}
use Rattle.stamp_cli.specs.declared.faults.ServeFault.TheVariants.{ReadFault}
use Rattle.stamp_cli.specs.Results.{Results, bytes_of}

-- one read was made; an input, whose length is given, has room for what it took, and grew by it
pub record ReadsOnce (old new : Results) (room before after : ℕ) (more : Result Bool ServeFault) : Type 0 where
  pub result : Result ℕ Error
  pub added : new ≡ old ++ result ∷ []
  pub within : bytes_of result ≤ room
  pub fault : (more ≡ Err ReadFault) ↔ (is_err result ≡ true)
  pub grown : IfOk more (λ m. (after ≡ before + bytes_of result) × (takes_none result ≡ not m))

-- one write was made, and this is what is said of it
pub record WritesOnce (old new : Results) (told : Result ℕ ServeFault) : Type 0 where
  pub result : Result ℕ Error
  pub added : new ≡ old ++ result ∷ []
  pub bytes : IfOk told (λ n. bytes_of result ≡ n)
  pub fault : takes_none result ≡ is_err told
