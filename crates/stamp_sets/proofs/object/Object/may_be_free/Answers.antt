use Rattle.std.proofs.Common.{◌≡◌, Bool, true, false, sym, ◌∙◌, ap}
use Rattle.std.specs.Prelude.{◌&&◌, ◌||◌}
use Rattle.std.specs.Option.{is_some}
use Rattle.stamp_sets.specs.Judged.{judged}
use Rattle.stamp_sets.specs.declared.object.Object.{Object}
use Rattle.stamp_sets.specs.declared.open_call.OpenCall.{OpenCall}
use Rattle.stamp_sets.specs.Kept.{may_be_free}
use Rattle.stamp_sets.specs.Unchanging.{reads_only}
use Rattle.stamp_sets.proofs.Overwriting.{frees_calls}
use Rattle.stamp_sets.proofs.object.Object.may_be_free.Goals as goal

-- where some call overwrites, one may be free that does, or reads
free_by : (object : Object) (begun : OpenCall) (some : Bool) → (judged object).frees ≡ true →
    is_some ((judged object).overwrites begun) ≡ some →
    may_be_free (judged object) begun ≡ (some || reads_only begun)
free_by object begun some frees is =
    ap (λ (any : Bool). any && (is_some ((judged object).overwrites begun) || reads_only begun)) frees ∙
    ap (λ (over : Bool). over || reads_only begun) is

pub returns-then-is_some : goal.returns-then-is_some
returns-then-is_some c = sym (free_by c.args.self.now c.args.begun.now true
    (frees_calls c.args.self.now c.in-Record.is)
    (sym (ap is_some c.overwrites.ensures.value) ∙ sym c.is_some.ensures ∙ c.if-is_some.true))

pub returns : goal.returns
returns c = c.is_unchanging.ensures.value ∙ sym (free_by c.args.self.now c.args.begun.now false
    (frees_calls c.args.self.now c.in-Record.is)
    (sym (ap is_some c.overwrites.ensures.value) ∙ sym c.is_some.ensures ∙ c.if-is_some.false))
