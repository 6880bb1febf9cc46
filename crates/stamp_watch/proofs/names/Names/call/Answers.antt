use Rattle.std.proofs.Common.{◌≡◌, ◌∙◌, ◌==◌, eq-eqb, false, length, rules, subst, sym}
use Rattle.std.proofs.lemmas.Bool.{false≢true}
use Rattle.stamp_core.specs.declared.call.Call.{Call}
use Rattle.stamp_sets.specs.declared.small_call.SmallCall.TheVariants as small
use Rattle.stamp_runs.specs.Names.{EachOfCall}
use Rattle.stamp_watch.specs.Names.{IsWide, width_of}
use Rattle.stamp_watch.specs.inner.Names.{IsCallBy}
use Rattle.stamp_watch.specs.Names.{IsNumberOf}
use Rattle.stamp_watch.proofs.Named.{put_if_named}
use Rattle.stamp_watch.proofs.names.Names.call.Goals as goal

pub returns-in-Some-4-clause-call : goal.returns-in-Some-4-clause-call
returns-in-Some-4-clause-call c =
    let first : IsNumberOf c.number_of-in-PutIf.new.self c.in-PutIf.expected c.in-Some-3.first = search rules in
    let second : IsNumberOf c.number_of-in-PutIf-2.new.self c.in-PutIf.words c.in-Some-4.number = search rules in
    subst (λ (x : Call). IsCallBy c.number_of-in-PutIf-2.new.self x (small.PutIf c.in-Some-3.first c.in-Some-4.number))
    (sym c.in-PutIf.is)
    (put_if_named c.in-PutIf.expected c.in-PutIf.words c.in-Some-3.first c.in-Some-4.number
    c.in_ok-number-in-PutIf.ensures.grows first second)

pub returns-in-None-2-clause-call : goal.returns-in-None-2-clause-call
returns-in-None-2-clause-call c wide =
    let both = subst (EachOfCall (IsWide (width_of c.args.self.now))) c.in-PutIf.is wide in
    let none : false ≡ (length c.in-PutIf.words == width_of c.number_of-in-PutIf.new.self) = search rules in
    false≢true (none ∙ eq-eqb (length c.in-PutIf.words) (width_of c.number_of-in-PutIf.new.self)
    (both.1 ∙ sym c.in_ok-first-in-PutIf.ensures.width))
