use Rattle.stamp_explain.proofs.Parting.{judged_apart}
use Rattle.stamp_explain.proofs.explain_laws.judged_apart.Goals as goal

pub returns : goal.returns
returns c = judged_apart
