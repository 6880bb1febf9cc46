-- A return where two puts are alike, worked out: both are of 2, and open and free as a get is that is told 2. The get
-- returns.
use Rattle.std.specs.Prelude.{ℕ, Bool, true, false, List, [], ◌∷◌, zero, suc}
use Rattle.std.specs.List.{Contains}
use Rattle.stamp_core.specs.declared.call.Call.TheVariants.{Get, Put}
use Rattle.stamp_core.specs.declared.reply.Reply.TheVariants.{Done, Content}
use Rattle.stamp_runs.specs.Object.{RecordStep}
use Rattle.stamp_runs.specs.Run.{Lanes, Phase}
use Rattle.stamp_runs.specs.Run.Phase.{Idle, Asks, Gets}
use Rattle.stamp_runs.specs.Watching.{Told}
use Rattle.stamp_runs.specs.Watching.Told.{Nothing, Returning}
use Rattle.stamp_runs.specs.Position.{Position}
use Rattle.stamp_runs.specs.Returning.{Return, ReturnsBy, told_return}
use Rattle.stamp_runs.specs.WorkedReturns.{one, two}

-- the phases of lanes 1 to 3; in lane 3 the second put asks all the time
abbrev pub three : Phase → Phase → Lanes
three first second zero = Idle
three first second (suc zero) = first
three first second (suc (suc zero)) = second
three first second (suc (suc (suc zero))) = Asks (Put two)
three first second (suc (suc (suc (suc n)))) = Idle

-- of lanes 1 and 2 these are free, and lane 3 is
abbrev pub free_three : Bool → Bool → ℕ → Bool
free_three first second zero = false
free_three first second (suc zero) = first
free_three first second (suc (suc zero)) = second
free_three first second (suc (suc (suc zero))) = true
free_three first second (suc (suc (suc (suc n)))) = false

-- the puts return later, that of lane 1 sooner
abbrev pub puts_told : Told → ℕ → Told
puts_told second zero = Nothing
puts_told second (suc zero) = Returning Done 2
puts_told second (suc (suc zero)) = second
puts_told second (suc (suc (suc zero))) = Returning Done 3
puts_told second (suc (suc (suc (suc n)))) = Nothing

abbrev pub position : List ℕ → Phase → Phase → Bool → Bool → Position (List ℕ)
position state first second free_first free_second =
    record { state = state; lanes = three first second; free = free_three free_first free_second }

abbrev pub returning : Return
returning = told_return (puts_told (Returning (Content two) 1)) (puts_told Nothing) 2 (Content two)

abbrev pub before : Position (List ℕ)
before = position one (Asks (Put two)) (Asks Get) true true

-- only the put of lane 1 is tried: hidden, or as one that takes effect now
abbrev pub fixed : Position (List ℕ)
fixed = position one (Asks (Put two)) (Asks Get) true false

abbrev pub hidden_both : Position (List ℕ)
hidden_both = position one (Gets Done) (Gets (Content two)) false false

abbrev pub in_effect : Position (List ℕ)
in_effect = position two (Gets Done) (Gets (Content two)) false false

abbrev pub after : List ℕ → Position (List ℕ)
after state = position state (Gets Done) Idle false false

abbrev pub EqualReturns : Type 0
EqualReturns = ReturnsBy RecordStep returning (Contains (before ∷ [])) (Contains (fixed ∷ hidden_both ∷ in_effect ∷ []))
    (Contains (after one ∷ after two ∷ []))
