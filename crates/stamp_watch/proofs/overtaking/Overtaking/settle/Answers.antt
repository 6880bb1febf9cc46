use Rattle.std.proofs.Common.{refl, subst}
use Rattle.stamp_watch.specs.Overtaking.{IsSoFar}
use Rattle.stamp_watch.proofs.Overtaken.{untold_then}
use Rattle.stamp_watch.proofs.overtaking.Overtaking.settle.Goals as goal

pub returns-in-Open : goal.returns-in-Open
returns-in-Open c past since follows = record {
  follows = record {
    open_are = follows.open_are;
    so_far = untold_then past since c.args.self.now.older 0 c.if-self-ne0.false refl
        (subst (IsSoFar past since c.args.self.now.older c.args.self.now.newer) c.in-Open.is follows.so_far);
  };
  settled = tt;
}
