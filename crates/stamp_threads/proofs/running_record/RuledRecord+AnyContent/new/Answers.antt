use Rattle.std.proofs.Common.{◌≡◌, ℕ, ◌+◌, ◌-◌, [], ◌∷◌, replicate, length, take, ap, ◌∙◌, false, subst, arith}
use Rattle.std.proofs.Common.{length-take-le}
use Rattle.atomic_table.specs.Table.{opening}
use Rattle.stamp_core.specs.declared.layout.Layout.{Layout}
use Rattle.stamp_threads.specs.RecordWord.{word_with}
use Rattle.stamp_threads.specs.RecordPass.{first_pass}
use Rattle.stamp_threads.specs.inner.RecordRule.{IsKept}
use Rattle.stamp_threads.proofs.NewRecord.{record_opens}
use Rattle.stamp_threads.proofs.running_record.RuledRecord+AnyContent.new.Goals as goal

pub of_table-requires-clause-kept : goal.of_table-requires-clause-kept
of_table-requires-clause-kept c =
    let limits = c.args.limits in
    let width = c.args.width in
    let word = c.opening_word.result in
    let long = length-take-le (width + 1) (word ∷ replicate 16 0) (omega arith) in
    let same : width ≡ length (take (width + 1) (word ∷ replicate 16 0)) - 1 = omega arith in
    subst (λ (n : ℕ). IsKept false (λ _. Unit {0}) (record { limits = limits; width = n })
    (opening (take (width + 1) (word ∷ replicate 16 0)) [] (first_pass ∷ []))) same
    (record_opens (record { limits = limits; width = width }) _
    (c.opening_word.ensures ∙ ap (λ (l : Layout). word_with l 0 false) c.layout.ensures.layout)
    c.requires.1)
