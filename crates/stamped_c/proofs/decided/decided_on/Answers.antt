use Rattle.std.proofs.Common.{rules, ◌≡◌, refl}
use Rattle.std.specs.Prelude.{None}
use Rattle.stamped_c.specs.declared.error.CError.TheVariants.{UnknownCall}
use Rattle.stamped_c.specs.Codes.{call_by_code}
use Rattle.stamped_c.specs.Checks.{IsCallOf}
use Rattle.stamped_c.specs.Answers.{IsDecision}
use Rattle.stamped_c.proofs.Steps.{at_error}
use Rattle.stamped_c.proofs.decided.decided_on.Goals as goal

pub returns-in-1 : goal.returns-in-1
returns-in-1 g c = c.called.ensures c.args.code c.args.stamp (rw c.in-1.is refl)

pub returns-in-2 : goal.returns-in-2
returns-in-2 g c = c.called-in-2.ensures c.args.code c.args.stamp (rw c.in-2.is refl)

pub returns-in-3 : goal.returns-in-3
returns-in-3 g c = c.called-in-3.ensures c.args.code c.args.stamp (rw c.in-3.is refl)

pub returns-in-4 : goal.returns-in-4
returns-in-4 g c = c.called-in-4.ensures c.args.code c.args.stamp (rw c.in-4.is refl)

pub returns-in-5 : goal.returns-in-5
returns-in-5 g c = c.called-in-5.ensures c.args.code c.args.stamp (rw c.in-5.is refl)

pub returns-in-6 : goal.returns-in-6
returns-in-6 g c = c.called-in-6.ensures c.args.code c.args.stamp (rw c.in-6.is refl)

pub returns-in-7 : goal.returns-in-7
returns-in-7 g c = c.called-in-7.ensures c.args.code c.args.stamp (rw c.in-7.is refl)

pub returns-in-8 : goal.returns-in-8
returns-in-8 g c = c.called-in-8.ensures c.args.code c.args.stamp (rw c.in-8.is refl)

pub returns-in-9 : goal.returns-in-9
returns-in-9 g c = c.called-in-9.ensures c.args.code c.args.stamp (rw c.in-9.is refl)

pub returns-in-10 : goal.returns-in-10
returns-in-10 g c = c.called-in-10.ensures c.args.code c.args.stamp (rw c.in-10.is refl)

pub returns-in-11 : goal.returns-in-11
returns-in-11 g c = c.called-in-11.ensures c.args.code c.args.stamp (rw c.in-11.is refl)

pub returns-in-12 : goal.returns-in-12
returns-in-12 g c = c.called-in-12.ensures c.args.code c.args.stamp (rw c.in-12.is refl)

pub returns-in-13 : goal.returns-in-13
returns-in-13 g c = c.called-in-13.ensures c.args.code c.args.stamp (rw c.in-13.is refl)

pub returns-in-14 : goal.returns-in-14
returns-in-14 g c = c.called-in-14.ensures c.args.code c.args.stamp (rw c.in-14.is refl)

pub returns-in-15 : goal.returns-in-15
returns-in-15 g c = c.called-in-15.ensures c.args.code c.args.stamp (rw c.in-15.is refl)

pub returns-in-16 : goal.returns-in-16
returns-in-16 g c = c.called-in-16.ensures c.args.code c.args.stamp (rw c.in-16.is refl)

pub returns-in-17 : goal.returns-in-17
returns-in-17 g c = c.called-in-17.ensures c.args.code c.args.stamp (rw c.in-17.is refl)

pub returns-in_default : goal.returns-in_default
returns-in_default g c =
    let a = c.args in
    let none : call_by_code a.code a.stamp ≡ None = search rules in
    at_error (IsCallOf a.code a.stamp) (λ call. IsDecision a.limits a.word call) _ UnknownCall _ none
    c.error.ensures
