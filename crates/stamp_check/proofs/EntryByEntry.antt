-- One entry of a recorded history, with those before it.
use Rattle.std.proofs.Common.{◌≡◌, ℕ, ◌<◌, List, length, get_or, take, refl, sym, subst, Some}
use Rattle.std.specs.Prelude.{slice_get}
use Rattle.std.specs.List.{All}
use Rattle.std.proofs.lemmas.Option.{slice_get_read}
use Rattle.stamp_core.specs.Limits.{Bounds}
use Rattle.stamp_core.specs.Record.{Recorded, IsRecorded, EntrySuits}
use Rattle.stamp_core.specs.Linearized.{AreLinearized}
use Rattle.stamp_core.specs.declared.entry.Entry.{Entry}
use Rattle.stamp_check.specs.declared.checking.Why.{Why}
use Rattle.stamp_check.specs.FirstFault.{Breaks, IsFirstFault}

-- an entry of a record suits it
pub entry_suits : (r : Recorded) (entries : List Entry) (i : ℕ) (e : Entry) → entries ≡ r.entries →
    i < length entries → e ≡ get_or entries i e → IsRecorded r → EntrySuits r.width e
entry_suits r entries i e same lt at known =
    let all : All (EntrySuits r.width) entries =
    subst (λ (xs : List Entry). All (EntrySuits r.width) xs) (sym same) known.suit in
    subst (λ (x : Entry). EntrySuits r.width x) (sym at) (all i e lt)

of_record : (P : Bounds → ℕ → List Entry → Type 0) (r : Recorded) (limits : Bounds) (width : ℕ)
    (entries : List Entry) → limits ≡ r.limits → width ≡ r.width → entries ≡ r.entries → P limits width entries →
    P r.limits r.width r.entries
of_record P r limits width entries l w es p =
    subst (λ (b : Bounds). P b r.width r.entries) l
    (subst (λ (n : ℕ). P limits n r.entries) w (subst (λ (xs : List Entry). P limits width xs) es p))

-- an entry that breaks something after linearized ones is the first fault
pub found : (r : Recorded) (limits : Bounds) (width : ℕ) (entries : List Entry) (i : ℕ) (e : Entry) (why : Why) →
    limits ≡ r.limits → width ≡ r.width → entries ≡ r.entries → i < length entries → e ≡ get_or entries i e →
    AreLinearized limits width (take i entries) → Breaks limits width (take i entries) e why → IsFirstFault r i why
found r limits width entries i e why l w es lt at before breaks = record {
  entry = e;
  is_entry = subst (λ (xs : List Entry). slice_get xs i ≡ Some e) es
      (slice_get_read entries (length entries) i e refl lt at);
  before = of_record (λ b n xs. AreLinearized b n (take i xs)) r limits width entries l w es before;
  breaks = of_record (λ b n xs. Breaks b n (take i xs) e why) r limits width entries l w es breaks;
}
