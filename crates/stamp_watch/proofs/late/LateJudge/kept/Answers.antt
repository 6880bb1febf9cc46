use Rattle.stamp_watch.proofs.late.LateJudge.kept.Goals as goal

pub returns-clause-few : goal.returns-clause-few
returns-clause-few c limits most ahead run is = c.kept.ensures.few most ahead is.small
