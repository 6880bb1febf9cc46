use Rattle.std.proofs.Common.{ℕ, ◌≡◌, ◌<◌, ◌∙◌, ap, arith, get_or}
use Rattle.std.proofs.lemmas.Option.{get_or_from_slice_get, slice_get_within}
use Rattle.stamp_watch.specs.inner.Trial.{IsPlaceOf}
use Rattle.stamp_watch.specs.declared.moments.Moment.{Moment}
use Rattle.stamp_watch.proofs.named_run.place_of.Goals as goal

pub unreachable-requires : goal.unreachable-requires
unreachable-requires c =
    let k : ℕ = c.requires.0 in
    let its : IsPlaceOf c.args.moments.now c.args.entry c.args.is_return k = c.requires.1 in
    let read : get_or c.args.moments.now k its.moment ≡ its.moment = get_or_from_slice_get c.args.moments.now k
    its.moment its.moment its.there in
    let within : k < c.loop-place.place = let less = slice_get_within c.args.moments.now k its.moment its.there in
    omega (arith, less, c.loop-place-test.false) in
    c.loop-place.invariant k its.moment within (ap (λ (m : Moment). m.entry) read ∙ its.its_entry)
    (ap (λ (m : Moment). m.is_return) read ∙ its.its_kind)
