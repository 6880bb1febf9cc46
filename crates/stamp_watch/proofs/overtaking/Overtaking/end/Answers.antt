use Rattle.std.proofs.Common.{◌++◌, ◌∷◌, [], ◌∙◌, sym, subst}
use Rattle.std.proofs.lemmas.Bool.{false≢true}
use Rattle.stamp_watch.specs.EndedCall.{end_in}
use Rattle.stamp_watch.specs.Overtaking.{Follows}
use Rattle.stamp_watch.specs.inner.Overtaking.{IsToldBy}
use Rattle.stamp_watch.proofs.Overtaken.{tracks_ended, tracks_told}
use Rattle.stamp_watch.proofs.overtaking.Overtaking.end.Goals as goal
use Rattle.stamp_watch.proofs.overtaking.Overtaking.end.Goals.{then-told, else-told}

pub returns : goal.returns
returns c past since reply tells tracks =
    c.settle.ensures past (since ++ end_in c.args.lane reply ∷ []) (elim c.if-told.branch [
      | then-told w ↦ subst (Follows past (since ++ end_in c.args.lane reply ∷ [])) (sym w.self-is)
          (tracks_told past since c.args.self.now c.without_lane-self.result c.without_lane-self-2.result
          c.without_lane-self-3.result c.args.lane reply c.without_lane-self.ensures tracks
          (subst (IsToldBy c.args.self.now c.args.lane) tells (c.is_told-told.ensures.0 w.if-told.true)))
      | else-told w ↦ subst (Follows past (since ++ end_in c.args.lane reply ∷ [])) (sym w.self-is)
          (tracks_ended past since c.args.self.now c.without_lane-self.result c.without_lane-self-2.result
          c.without_lane-self-3.result c.args.lane reply c.without_lane-self.ensures tracks
          c.without_lane-self-2.ensures c.without_lane-self-3.ensures (λ told. false≢true (sym w.if-told.false ∙
          c.is_told-told.ensures.1 (subst (IsToldBy c.args.self.now c.args.lane) (sym tells) told))))
    ])
