use Rattle.std.proofs.Common.{◌≡◌, ℕ, ◌-◌, [], ◌∷◌, Some, length, ap, ◌∙◌, false}
use Rattle.std.proofs.Common.{subst, arith}
use Rattle.atomic_table.specs.Table.{opening}
use Rattle.stamp_core.specs.declared.layout.Layout.{Layout}
use Rattle.stamp_threads.specs.RecordWord.{word_with}
use Rattle.stamp_threads.specs.RecordRule.{opening_pass}
use Rattle.stamp_threads.specs.inner.RecordRule.{IsKept}
use Rattle.stamp_threads.proofs.NewRecord.{opens_holding}
use Rattle.stamp_threads.proofs.wide_record.WideRecord.of_put.Goals as goal

pub of_table-requires-clause-kept : goal.of_table-requires-clause-kept
of_table-requires-clause-kept g c =
    let limits = c.args.limits in
    let words = c.args.first.now in
    let word = c.word_after_one_put.result in
    let same : length words ≡ length (word ∷ words) - 1 = omega arith in
    rw (c.as_slice.ensures.value, c.of-put.ensures, c.in-Ok.ensures) (subst (λ (n : ℕ). IsKept c.args.enterable
    g.P.ContentRule.holds (record { limits = limits; width = n })
    (opening (word ∷ words) [] (opening_pass (Some words) ∷ []))) same
    (opens_holding words _ limits _
    (c.word_after_one_put.ensures ∙ ap (λ (l : Layout). word_with l 1 false) c.layout.ensures.layout)
    c.requires.begins.version c.requires.begins.rule))
