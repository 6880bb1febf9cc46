-- What a command did to its source and to its sink. The faults of its ends are given: a command may have its own.
use Rattle.std.specs.Prelude.{◌≡◌, ◌≢◌, ◌↔◌, ℕ, true, List, length, Option, Result, Ok, Err, IfOk, IfErr}
use Rattle.std.specs.Io.KnownBytes.{Appends, Keeps}
use Rattle.stamp_cli.specs.Results.{Results, Makes, MakesAtMost, FailsWithARead, ReadsToTheEnd, any_since}
use Rattle.stamp_cli.specs.Sink.{AppendsFront}
use Rattle.stamp_cli.specs.Source.{TakesAtMost}
use Rattle.stamp_cli.specs.TakesNone.{takes_none}

-- however it ended, it made no more than `most` reads, none after one that took no byte, and they took no more
-- bytes than `bytes`. It ended in the fault of reading exactly where a read failed; where it ended in neither
-- that nor the fault of memory, it had read to the end
pub record HasRead {A E : Type 0} (read_fault memory : E) (left left' : Option (List ℕ)) (old new : Results)
    (most bytes : ℕ) (result : Result A E) : Type 0 where
  pub reads : MakesAtMost old new most bytes
  pub took : TakesAtMost left left' bytes
  pub ends : result ≢ Err read_fault → result ≢ Err memory → ReadsToTheEnd old new bytes
  pub failed : FailsWithARead read_fault old new result

-- it ended in the fault of writing exactly where a write failed or took no byte, and in no other where it wrote
pub record HasWritten {A E : Type 0} (write_fault : E) (sent sent' : Option (List ℕ)) (old new : Results)
    (result : Result A E) : Type 0 where
  pub failed : (result ≡ Err write_fault) ↔ (any_since takes_none old new ≡ true)
  pub silent : IfErr result (λ e. e ≢ write_fault → Keeps sent sent' × (new ≡ old))

-- where it succeeded, the text of the answer was written, and nothing else, and what it returned is of that answer
abbrev pub WritesAnswer : {A R E : Type 0} → (Result A E → Type 0) → (A → R → Type 0) → (A → List ℕ) →
    Option (List ℕ) → Option (List ℕ) → Results → Results → Result R E → Type 0
WritesAnswer {A} IsAnswer IsOf text_of sent sent' old new result = IfOk result (λ returned. (answer : A)
    × IsAnswer (Ok answer) × IsOf answer returned × Appends sent sent' (text_of answer)
    × Makes old new (length (text_of answer)))

-- where it refused for none of these three faults, the answer is that refusal
abbrev pub RefusesAsDue : {A R E : Type 0} → E → E → E → (Result A E → Type 0) → Result R E → Type 0
RefusesAsDue read_fault write_fault memory IsAnswer result =
    IfErr result (λ e. e ≢ read_fault → e ≢ write_fault → e ≢ memory → IsAnswer (Err e))

-- where it refused for the fault of writing, a front of the answer's text was written, and not all of it
abbrev pub WritesFront : {A R E : Type 0} → E → (Result A E → Type 0) → (A → List ℕ) → Option (List ℕ) →
    Option (List ℕ) → Results → Results → Result R E → Type 0
WritesFront {A} write_fault IsAnswer text_of sent sent' old new result = result ≡ Err write_fault → ((answer : A)
    × IsAnswer (Ok answer) × AppendsFront sent sent' (text_of answer)
    × MakesAtMost old new (length (text_of answer)) (length (text_of answer)))
