use Rattle.std.proofs.Common.{◌≡◌, length, refl, arith, Some}
use Rattle.std.specs.Prelude.{slice_get}
use Rattle.std.proofs.lemmas.Option.{slice_get_read}
use Rattle.stamp_watch.proofs.Listing.{none_listed, listed_open, listed_returned}
use Rattle.stamp_watch.proofs.moments.listed.Goals as goal
use Rattle.stamp_watch.proofs.moments.listed.Goals.{in-Some+in_ok-push-2, in_default}

pub loop-i-init : goal.loop-i-init
loop-i-init c = rw c.new-moments.ensures.items (none_listed c.args.entries.now)

pub loop-i-preserved : goal.loop-i-preserved
loop-i-preserved c =
    let es = c.args.entries.now in
    let e = c.index-entries-i.result in
    let at : slice_get es c.loop-i.i ≡ Some e = slice_get_read es (length es) c.loop-i.i e refl c.loop-i-test.true
    c.index-entries-i.is in
    elim c.match-entry.branch [
      | in-Some+in_ok-push-2 w ↦ rw (w.moments-is, w.in_ok-push-2.ensures.items, c.in_ok-push.ensures.items)
          (listed_returned es c.loop-i.i c.loop-i.moments.items c.loop-i.invariant e at w.in-Some.returned
          w.in-Some.is)
      | in_default w ↦ rw (w.moments-is, c.in_ok-push.ensures.items) (listed_open es c.loop-i.i c.loop-i.moments.items
          c.loop-i.invariant e at cc)
    ]

pub returns : goal.returns
returns c =
    let all : c.loop-i.i ≡ length c.args.entries.now = omega arith in
    rw all at c.loop-i.invariant
