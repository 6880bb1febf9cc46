use Rattle.std.proofs.Common.{ℕ, List, ap, length, rules, sym, ◌≡◌, ◌∙◌, None, subst}
use Rattle.std.specs.Prelude.{position}
use Rattle.stamp_core.specs.Content.{same_words}
use Rattle.stamp_watch.specs.Names.{AreContents}
use Rattle.stamp_watch.specs.Names.{IsNumberOf, rows}
use Rattle.stamp_watch.proofs.Named.{contents_added, grown_by_one, number_added, width_added, width_is}
use Rattle.stamp_watch.proofs.names.Names.number_of.Goals as goal

module _ (c : goal.In_ok-insert) where
  none : position (same_words c.args.words.now) c.args.self.now ≡ None
  none = ap (λ (xs : List ℕ). position (same_words xs) c.args.self.now) (sym c.as_slice.ensures) ∙
      sym c.find.ensures ∙ c.in_default.is

  is : c.in_ok-content.content.items ≡ c.args.words.now
  is = c.in_ok-content.ensures.items ∙ c.as_slice-2.ensures

pub returns-clause-number : goal.returns-clause-number
returns-clause-number c = subst (IsNumberOf (rows c.insert.new.self.keys) c.args.words.now)
    (sym c.len-number.ensures.len)
    (number_added c.self.inside.contents.keys c.insert.new.self.keys c.in_ok-content.content
    c.args.self.now c.args.words.now c.self.view_is (is c) (none c) c.in_ok-insert.ensures.keys)

pub returns-clause-grows : goal.returns-clause-grows
returns-clause-grows c = grown_by_one c.self.inside.contents.keys c.insert.new.self.keys c.in_ok-content.content
    c.args.self.now c.args.words.now c.self.view_is (is c) (none c) c.in_ok-insert.ensures.keys

pub returns-clause-width : goal.returns-clause-width
returns-clause-width c = width_added c.self.inside.contents.keys c.insert.new.self.keys c.in_ok-content.content
    c.args.self.now c.args.words.now c.self.view_is (is c) (none c) c.in_ok-insert.ensures.keys c.self.inside.width
    c.self.invariant

pub returns-clause-wide : goal.returns-clause-wide
returns-clause-wide c width are =
    let own = subst (AreContents c.self.inside.width) c.self.view_is c.self.invariant in
    let same : c.self.inside.width ≡ width =
    sym (width_is c.self.inside.width c.args.self.now own) ∙ width_is width c.args.self.now are in
    let long : length c.args.words.now ≡ c.self.inside.width = search rules in
    contents_added c.self.inside.contents.keys c.insert.new.self.keys c.in_ok-content.content
    c.args.self.now c.args.words.now c.self.view_is (is c) (none c) c.in_ok-insert.ensures.keys width
    (subst (AreContents width) (sym c.self.view_is) are) (long ∙ same)
