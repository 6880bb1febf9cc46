use Rattle.std.proofs.Common.{ℕ, List, ◌==◌, length, sym, ◌∙◌, ap, eqb-true}
use Rattle.std.proofs.lemmas.Bool.{false≢true}
use Rattle.std.proofs.lemmas.List.{nil_from_length}
use Rattle.stamp_sets.specs.declared.position.Position.{Position}
use Rattle.stamp_sets.specs.Judged.{judged}
use Rattle.stamp_sets.proofs.Answering.{none_left, some_explained}
use Rattle.stamp_sets.proofs.half.Half.is_dead.Goals as goal

pub returns-clause-alive : goal.returns-clause-alive
returns-clause-alive c not past last keeps = some_explained (judged c.args.self.now.object) past
    c.args.self.now.table.items c.args.self.now.positions.items
    (λ none. false≢true (sym not ∙ c.is_empty.ensures ∙ ap (λ (n : ℕ). n == 0) (c.args.self.now.positions.ok.0 ∙
    ap (λ (xs : List Position). length xs) none)))
    keeps.kept.possible

pub returns-clause-dead : goal.returns-clause-dead
returns-clause-dead c is past last keeps = record {
  none = λ future told explained. none_left (judged c.args.self.now.object) past c.args.self.now.table.items
      c.args.self.now.positions.items future
      (nil_from_length c.args.self.now.positions.items
      (sym c.args.self.now.positions.ok.0 ∙ eqb-true c.args.self.now.positions.len 0 (sym c.is_empty.ensures ∙ is)))
      (keeps.kept.stand.whole future told explained);
}
