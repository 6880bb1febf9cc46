-- Courses of the same runs.
use Rattle.std.proofs.Common.{◌≡◌, ◌+◌, ◌^◌, ◌<◌, length, ◌∙◌, arith}
use Rattle.stamp_watch.specs.declared.course.Course.{Course}
use Rattle.stamp_watch.specs.Course.{HasRoom}
use Rattle.stamp_watch.specs.inner.Course.{IsOnCourse, IsSameRun}

pub same_run_on : (old next new : Course) → IsSameRun old next → IsSameRun next new → IsSameRun old new
same_run_on old next new before after = record {
  long = after.long ∙ before.long;
  courses = λ limits run is. after.courses limits run (before.courses limits run is);
}

pub on_course_still : (old new : Course) → IsSameRun old new → IsOnCourse old → IsOnCourse new
on_course_still old new same on = record {
  limits = on.limits;
  run = on.run;
  course_of = same.courses on.limits on.run on.course_of;
}

pub room_still : (old new : Course) → IsSameRun old new → HasRoom old → HasRoom new
room_still old new same space = record {
  room = let long : new.first + length new.events.items ≡ old.first + length old.events.items = same.long in
      let room : old.first + length old.events.items < 2 ^ 64 = space.room in omega (arith, long, room);
}
