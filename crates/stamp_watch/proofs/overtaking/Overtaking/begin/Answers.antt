use Rattle.std.proofs.Common.{refl, sym, ◌∙◌, inl, inr}
use Rattle.std.proofs.lemmas.Bool.{not-false}
use Rattle.std.proofs.lemmas.Bool.{not-true}
use Rattle.stamp_core.specs.Call.{is_lock_call}
use Rattle.stamp_watch.proofs.Overtaken.{tracks_begun}
use Rattle.stamp_watch.proofs.overtaking.Overtaking.begin.Goals as goal

pub returns-then-of_record : goal.returns-then-of_record
returns-then-of_record c past since call of_record tracks = tracks_begun past since c.args.self.now
    c.with_lane-self.result c.with_lane-self-then-of_record.result c.args.lane call c.with_lane-self.ensures
    (inr (
      c.with_lane-self-then-of_record.ensures,
      not-true (is_lock_call call) (sym of_record ∙ c.if-of_record.true),
    )) tracks

pub returns-else-of_record : goal.returns-else-of_record
returns-else-of_record c past since call of_record tracks = tracks_begun past since c.args.self.now
    c.with_lane-self.result c.args.self.now.newer c.args.lane call c.with_lane-self.ensures
    (inl (refl, not-false (is_lock_call call) (sym of_record ∙ c.if-of_record.false))) tracks
