-- A pass that is the same still, and has made no call.
use Rattle.std.proofs.Common.{◌≡◌, refl, ◌∙◌}
use Rattle.stamp_threads.specs.declared.pass_view.PassView.{PassView}
use Rattle.stamp_threads.specs.PassView.{IsSamePass, MadeNoCallSince}

module _ {E P : Type 0} where
  pub same_further : (u v w : PassView E P) → IsSamePass u v → IsSamePass v w → IsSamePass u w
  same_further u v w a b = record { name = b.name ∙ a.name; splits = b.splits ∙ a.splits }

  pub no_call_by : (v w : PassView E P) → w.name ≡ v.name → w.splits ≡ v.splits → w.own ≡ v.own →
      MadeNoCallSince v w
  no_call_by v w name splits own =
      record { same = record { name = name; splits = splits }; own = own }

  pub no_call_yet : (v : PassView E P) → MadeNoCallSince v v
  no_call_yet v = no_call_by v v refl refl refl

  pub no_call_further : (u v w : PassView E P) → MadeNoCallSince u v → MadeNoCallSince v w → MadeNoCallSince u w
  no_call_further u v w a b =
      record { same = same_further u v w a.same b.same; own = b.own ∙ a.own }
