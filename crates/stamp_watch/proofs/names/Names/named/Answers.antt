use Rattle.std.proofs.Common.{ℕ, List, Option, ◌≡◌, ◌∙◌, None, Some, ap, get_or, length, rules, sym}
use Rattle.std.specs.Prelude.{slice_get, unwrap_or}
use Rattle.std.proofs.lemmas.Option.{same_Some}
use Rattle.stamp_watch.proofs.Named.{back_in_words, number_in_words, one_word_long, others_stay}
use Rattle.stamp_watch.proofs.names.Names.named.Goals as goal

pub returns-in-Some-clause-named : goal.returns-in-Some-clause-named
returns-in-Some-clause-named c words named same = same_Some c.in-Some.words words (sym c.in-Some.is ∙
    c.words_at.ensures ∙
    ap (λ (xs : List ℕ). slice_get c.args.self.now (get_or xs 0 0)) c.as_slice.ensures ∙
    back_in_words c.args.self.now c.args.name.now words named same)

pub returns-in-None-clause-named : goal.returns-in-None-clause-named
returns-in-None-clause-named c words named same =
    let both : None ≡ Some words = sym c.in-None.is ∙ c.words_at.ensures ∙
    ap (λ (xs : List ℕ). slice_get c.args.self.now (get_or xs 0 0)) c.as_slice.ensures ∙
    back_in_words c.args.self.now c.args.name.now words named same in
    absurd (cc)

pub returns-then-len-ne1-clause-named : goal.returns-then-len-ne1-clause-named
returns-then-len-ne1-clause-named c words named same = absurd (c.if-len-ne1.true (c.len.ensures.len ∙
    one_word_long c.args.self.now c.args.name.now words named same))

pub returns-in-Some-clause-words : goal.returns-in-Some-clause-words
returns-in-Some-clause-words c =
    let one : length c.args.name.now ≡ 1 = grind rules in
    sym (number_in_words c.args.self.now c.args.name.now one ∙
    ap (λ (o : Option (List ℕ)). unwrap_or o c.args.name.now)
    (ap (λ (xs : List ℕ). slice_get c.args.self.now (get_or xs 0 0)) (sym c.as_slice.ensures) ∙
    sym c.words_at.ensures ∙ c.in-Some.is))

pub returns-in-None-clause-words : goal.returns-in-None-clause-words
returns-in-None-clause-words c =
    let one : length c.args.name.now ≡ 1 = grind rules in
    sym (number_in_words c.args.self.now c.args.name.now one ∙
    ap (λ (o : Option (List ℕ)). unwrap_or o c.args.name.now)
    (ap (λ (xs : List ℕ). slice_get c.args.self.now (get_or xs 0 0)) (sym c.as_slice.ensures) ∙
    sym c.words_at.ensures ∙ c.in-None.is))

pub returns-then-len-ne1-clause-words : goal.returns-then-len-ne1-clause-words
returns-then-len-ne1-clause-words c = sym (others_stay c.args.self.now c.args.name.now
    (λ one. c.if-len-ne1.true (c.len.ensures.len ∙ one)))
