use Rattle.stamp_explain.proofs.Seeing.{seen_explains_as_much}
use Rattle.stamp_explain.proofs.explain_laws.seen_explains_as_much.Goals as goal

pub returns : goal.returns
returns c = seen_explains_as_much
