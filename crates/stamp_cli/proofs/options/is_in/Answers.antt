use Rattle.std.proofs.Common.{◌∙◌, ℕ, List, Bor, rules, tests}
use Rattle.std.specs.Str.{bytes_eq}
use Rattle.std.proofs.lemmas.Iterator.{YieldsList-from_slice}
use Rattle.std.proofs.lemmas.Iterator.Search.{any_from_yields_List}
use Rattle.stamp_cli.proofs.Parts.{any_of_texts}
use Rattle.stamp_cli.proofs.options.is_in.Goals as goal

pub returns : goal.returns
returns c = any_from_yields_List (λ (name : Bor (List ℕ)). bytes_eq name.now c.args.word.now) _ _ _ c.any.ensures.ran
    (YieldsList-from_slice c.args.names.now cc) (λ x b q k. search (rules, tests)) ∙
    any_of_texts (λ (name : List ℕ). bytes_eq name c.args.word.now) c.args.names.now
