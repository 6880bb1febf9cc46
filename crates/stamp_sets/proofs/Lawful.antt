-- What is known of the calls of an object that is judged.
use Rattle.std.proofs.Common.{ℕ, ◌≡◌, ◌⊎◌, true, false, Option, Some, None, refl, sym, ◌∙◌, ap, subst, inl, inr}
use Rattle.std.specs.Prelude.{◌&&◌, ◌||◌, Bool}
use Rattle.std.specs.Option.{is_some}
use Rattle.std.proofs.lemmas.Bool.{false≢true}
use Rattle.stamp_core.specs.declared.call.Call.{Call}
use Rattle.stamp_core.specs.declared.reply.Reply.{Reply}
use Rattle.stamp_runs.specs.Object.{Object}
use Rattle.stamp_runs.specs.Position.{Overwrites}
use Rattle.stamp_sets.specs.declared.open_call.OpenCall.{OpenCall}
use Rattle.stamp_sets.specs.Judged.{Judged}
use Rattle.stamp_sets.specs.Kept.{may_be_free}
use Rattle.stamp_sets.specs.inner.Effect.{IsOverwriting, IsOverwritingTo, IsUnchanging}
use Rattle.stamp_sets.specs.Unchanging.{reads_only}

-- its calls overwrite, and read, as is told by their numbers
pub record IsLawful {S : Type 0} (o : Judged S) : Type 0 where
  pub overwriting : (begun : OpenCall) → IsOverwritingTo o begun (o.overwrites begun)
  pub reading : (begun : OpenCall) → reads_only begun ≡ true → IsUnchanging o begun
  pub freeing : (begun : OpenCall) (number : ℕ) → o.overwrites begun ≡ Some number → o.frees ≡ true

-- a call that overwrites does so with each reply that it gets
pub over_as : {S : Type 0} (O : Object S) (call : Call) (reply other : Reply) (s t next : S) →
    Overwrites O call reply t → O s call other next → Overwrites O call other next
over_as O call reply other s t next over step =
    subst (λ (r : Reply). Overwrites O call r next) (sym (over.answer s next other step))
    (subst (λ u. Overwrites O call reply u) (sym (over.leaves s next other step)) over)

-- which of the two a call is that may be free
free_cases : (found : Option ℕ) (reads : Bool) → (is_some found || reads) ≡ true →
    ((number : ℕ) × (found ≡ Some number)) ⊎ ((found ≡ None) × (reads ≡ true))
free_cases (Some number) reads is = inl (number, refl)
free_cases None reads is = inr (refl, is)

if_both : (a b : Bool) → (a && b) ≡ true → b ≡ true
if_both true b is = is
if_both false b is = absurd (false≢true is)

or_right : (a b : Bool) → b ≡ true → (a || b) ≡ true
or_right true b is = refl
or_right false b is = is

module _ {S : Type 0} (o : Judged S) (lawful : IsLawful o) (begun : OpenCall) where
  pub overwriting_to : (number : ℕ) → o.overwrites begun ≡ Some number → IsOverwriting o begun number
  overwriting_to number is = subst (λ (found : Option ℕ). IsOverwritingTo o begun found) is (lawful.overwriting begun)

  pub not_overwriting : o.overwrites begun ≡ None → IsOverwritingTo o begun None
  not_overwriting is = subst (λ (found : Option ℕ). IsOverwritingTo o begun found) is (lawful.overwriting begun)

  pub kind_of : may_be_free o begun ≡ true →
      ((number : ℕ) × (o.overwrites begun ≡ Some number)) ⊎ ((o.overwrites begun ≡ None) × (reads_only begun ≡ true))
  kind_of is = free_cases (o.overwrites begun) (reads_only begun)
      (if_both o.frees (is_some (o.overwrites begun) || reads_only begun) is)

  -- one that overwrites may be free
  pub free_kind : (number : ℕ) → o.overwrites begun ≡ Some number → may_be_free o begun ≡ true
  free_kind number is =
      ap (λ (any : Bool). any && (is_some (o.overwrites begun) || reads_only begun)) (lawful.freeing begun number is) ∙
      ap (λ (found : Option ℕ). is_some found || reads_only begun) is

  -- so may one that reads, where some call overwrites
  pub free_reader : o.frees ≡ true → reads_only begun ≡ true → may_be_free o begun ≡ true
  free_reader frees reads =
      ap (λ (any : Bool). any && (is_some (o.overwrites begun) || reads_only begun)) frees ∙
      or_right (is_some (o.overwrites begun)) (reads_only begun) reads
