-- A word that is changed goes on.
use Rattle.std.proofs.Common.{◌≡◌, ℕ, refl, sym, ◌∙◌, subst, Option, Some, None, MatchOption}
use Rattle.stamp_core.specs.Limits.{Bounds}
use Rattle.stamp_core.specs.Word.{LockWord, word_at, Represents}
use Rattle.stamp_core.specs.Decision.{Changes}
use Rattle.stamp_core.specs.declared.call.Call.{Call}
use Rattle.stamp_core.specs.declared.reply.Reply.{Reply}
use Rattle.stamp_check.specs.inner.GoesOn.{LockGoesOn}

-- a word that is changed goes on, where its answer is the reply
pub changed_goes_on : (limits : Bounds) (bits after : ℕ) (word new : LockWord) (call : Call) (answer reply : Reply)
    (found : Option ℕ) → word ≡ word_at limits bits → Changes limits word call new answer → after ≡ new.bits →
    MatchOption found (¬ (answer ≡ reply)) (λ next. (answer ≡ reply) × (next ≡ after)) →
    LockGoesOn limits bits call reply found
changed_goes_on limits bits after word new call answer reply None is changes number not = record {
  after = λ events represented.
      let moves = changes events (subst (λ (w : LockWord). Represents limits w events) (sym is) represented) in
      rw moves.transition_is not;
}
changed_goes_on limits bits after word new call answer reply (Some next) is changes number same = record {
  after = λ events represented.
      let moves = changes events (subst (λ (w : LockWord). Represents limits w events) (sym is) represented) in
      rw moves.transition_is (
        same.0,
        record {
          well_formed = moves.represented.well_formed;
          layout = refl;
          spelled =
              same.1 ∙ number ∙ moves.represented.spelled;
        },
      );
}
