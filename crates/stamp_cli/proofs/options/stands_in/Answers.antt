use Rattle.std.proofs.Common.{◌∙◌, ap}
use Rattle.std.specs.Option.{is_some}
use Rattle.stamp_cli.specs.Options.{is_as, items_of}
use Rattle.stamp_cli.specs.Given.{table_of, texts}
use Rattle.stamp_cli.specs.inner.Options.{item_of}
use Rattle.stamp_cli.proofs.Parts.{found_where_any, kept}
use Rattle.stamp_cli.proofs.options.stands_in.Goals as goal

pub returns : goal.returns
returns c = c.is_some.ensures ∙ kept item_of c.find.result ∙ ap is_some c.find.ensures ∙ found_where_any
    (is_as (item_of c.args.item.now)) (items_of (table_of c.args.options.now) (texts c.args.args.now))
