-- Two returns of a record, worked out: a put of 2 and a get that is told 2 are open and free, and one of them returns.
use Rattle.std.specs.Prelude.{ℕ, Bool, true, false, List, [], ◌∷◌, zero, suc}
use Rattle.std.specs.List.{Contains}
use Rattle.stamp_core.specs.declared.call.Call.TheVariants.{Get, Put}
use Rattle.stamp_core.specs.declared.reply.Reply.TheVariants.{Done, Content}
use Rattle.stamp_runs.specs.Object.{RecordStep}
use Rattle.stamp_runs.specs.Run.{Lanes, Phase}
use Rattle.stamp_runs.specs.Run.Phase.{Idle, Asks, Gets}
use Rattle.stamp_runs.specs.Watching.{Told}
use Rattle.stamp_runs.specs.Watching.Told.{Nothing, Returning}
use Rattle.stamp_runs.specs.Position.{Position}
use Rattle.stamp_runs.specs.Returning.{Return, ReturnsBy, told_return}

abbrev pub one : List ℕ
one = 1 ∷ []

abbrev pub two : List ℕ
two = 2 ∷ []

-- the phases of lanes 1 and 2, and which of their calls are free
abbrev pub lanes_of : Phase → Phase → Lanes
lanes_of first second zero = Idle
lanes_of first second (suc zero) = first
lanes_of first second (suc (suc zero)) = second
lanes_of first second (suc (suc (suc n))) = Idle

abbrev pub free_of : Bool → Bool → ℕ → Bool
free_of first second zero = false
free_of first second (suc zero) = first
free_of first second (suc (suc zero)) = second
free_of first second (suc (suc (suc n))) = false

-- what is told of them
abbrev pub told_of : Told → Told → ℕ → Told
told_of first second zero = Nothing
told_of first second (suc zero) = first
told_of first second (suc (suc zero)) = second
told_of first second (suc (suc (suc n))) = Nothing

abbrev pub position : List ℕ → Phase → Phase → Bool → Bool → Position (List ℕ)
position state first second free_first free_second =
    record { state = state; lanes = lanes_of first second; free = free_of free_first free_second }

-- before: the content is 1, and both are free
abbrev pub before : Position (List ℕ)
before = position one (Asks (Put two)) (Asks Get) true true

-- the put is hidden with the get; or has taken effect, and the get
abbrev pub hidden_both : Position (List ℕ)
hidden_both = position one (Gets Done) (Gets (Content two)) false false

abbrev pub in_effect : Position (List ℕ)
in_effect = position two (Gets Done) (Gets (Content two)) false false

-- the put returns: at first it is not free
abbrev pub put_returning : Return
put_returning = told_return (told_of (Returning Done 1) (Returning (Content two) 2)) (told_of Nothing (Returning
    (Content two) 2)) 1 (Done)

abbrev pub put_fixed : Position (List ℕ)
put_fixed = position one (Asks (Put two)) (Asks Get) false true

-- so the content is 1 or 2 then, and the get is in effect
abbrev pub after_put : List ℕ → Position (List ℕ)
after_put state = position state Idle (Gets (Content two)) false false

abbrev pub PutReturns : Type 0
PutReturns = ReturnsBy RecordStep put_returning (Contains (before ∷ [])) (Contains (put_fixed ∷ hidden_both ∷
    in_effect ∷ []))
    (Contains (after_put one ∷ after_put two ∷ []))

-- the get returns: the put that it read is hidden, or takes effect now
abbrev pub get_returning : Return
get_returning = told_return (told_of (Returning Done 2) (Returning (Content two) 1)) (told_of (Returning Done 2)
    Nothing) 2 (Content two)

abbrev pub get_fixed : Position (List ℕ)
get_fixed = position one (Asks (Put two)) (Asks Get) true false

abbrev pub after_get : List ℕ → Position (List ℕ)
after_get state = position state (Gets Done) Idle false false

abbrev pub GetReturns : Type 0
GetReturns = ReturnsBy RecordStep get_returning (Contains (before ∷ [])) (Contains (get_fixed ∷ hidden_both ∷
    in_effect ∷ []))
    (Contains (after_get one ∷ after_get two ∷ []))
