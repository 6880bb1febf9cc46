use Rattle.std.proofs.Common.{ap, sym, ◌∙◌}
use Rattle.std.specs.Prelude.{position}
use Rattle.stamp_core.specs.Content.{same_words}
use Rattle.stamp_watch.proofs.Named.{position_rows}
use Rattle.stamp_watch.proofs.names.Names.find.Goals as goal

pub returns-in-None : goal.returns-in-None
returns-in-None c = sym c.in-None.is ∙ c.get_index_of.ensures.index ∙
    sym (position_rows (same_words c.args.words.now) c.self.inside.contents.keys) ∙
    ap (position (same_words c.args.words.now)) c.self.view_is

pub returns-in-Some : goal.returns-in-Some
returns-in-Some c = sym c.in-Some.is ∙ c.get_index_of.ensures.index ∙
    sym (position_rows (same_words c.args.words.now) c.self.inside.contents.keys) ∙
    ap (position (same_words c.args.words.now)) c.self.view_is
