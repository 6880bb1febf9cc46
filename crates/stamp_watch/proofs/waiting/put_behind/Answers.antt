use Rattle.std.proofs.Common.{◌++◌, ◌∙◌, ap, List}
use Rattle.std.proofs.lemmas.Iterator.{YieldsList-from_slice}
use Rattle.std.proofs.lemmas.Iterator.Adapters.{fact_from_extend}
use Rattle.std.proofs.lemmas.List.Concat.{flat_map_single}
use Rattle.stamp_runs.specs.declared.event.Event.{Event}
use Rattle.stamp_watch.proofs.waiting.put_behind.Goals as goal

pub returns : goal.returns
returns c = fact_from_extend (λ y. y.now) c.extend.result c.extend.ensures.ran
    (λ it b. YieldsList-from_slice _ (b.0 ∙ c.from_ref.ensures.value))
    (λ xs e h. h.0 ∙ ap (λ (l : List Event). c.args.events.now.items ++ l) (flat_map_single (λ y. y.now) xs ∙ e))
