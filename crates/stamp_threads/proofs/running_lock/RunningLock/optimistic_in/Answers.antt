use Rattle.std.proofs.Common.{◌∙◌, ap, refl, ◌≡◌, ◌<◌, ◌≤◌, ℕ, List, subst}
use Rattle.std.proofs.lemmas.Bool.{iff_false}
use Rattle.std.specs.Prelude.{IfSome, IsTrue, ◌↔◌}
use Rattle.stamp_core.specs.LockEvent.{LockEvent, writers}
use Rattle.stamp_core.specs.Limits.{AreInRange}
use Rattle.stamp_core.specs.Decision.{Stays}
use Rattle.stamp_core.specs.declared.call.Call.TheVariants.{Optimistic}
use Rattle.stamp_core.specs.declared.reply.Reply.TheVariants.{Stamp}
use Rattle.stamp_core.proofs.WellFormedPush.{obeys_now}
use Rattle.stamp_threads.specs.LockLog.{events_after}
use Rattle.stamp_threads.specs.LockPass.{LockView, LockToken, first_of}
use Rattle.stamp_threads.specs.MayReply.{stamp_or_zero}
use Rattle.stamp_threads.specs.inner.LockRule.{Loaded}
use Rattle.stamp_threads.proofs.GoingAsMachine.{begins, is_made_by_answer, ends_by_answer}
use Rattle.stamp_threads.proofs.OptimisticStamps.{none_beside_a_writer, some_beside_none}
use Rattle.stamp_threads.proofs.running_lock.RunningLock.optimistic_in.Given.{Over}
use Rattle.stamp_threads.proofs.running_lock.RunningLock.optimistic_in.Goals.{then-is_writing, else-is_writing}
use Rattle.stamp_threads.proofs.running_lock.RunningLock.optimistic_in.Goals as goal

module _ (g : Over) (c : goal.Joined-is_writing g) where
  loaded : Loaded c.args.self.now.limits Optimistic c.args.pass.now.view c.load-word.result
      (first_of c.load-word.new.seat.me.0)
  loaded =
      let limits = c.self.invariant.0 ∙ ap (λ (l : LockView). l.limits) c.self.view_is in
      let view = ap (λ (p : LockToken). p.view) c.pass.view_is in
      rw (limits, view) at c.load-word.ensures.learned

  -- the events of that history
  abbrev events : List LockEvent
  events = events_after c.args.self.now.limits loaded.log

  stays : Stays c.args.self.now.limits events Optimistic (Stamp c.in-Answer-Stamp.stamp)
  stays = rw c.in-Answer-Stamp.field-0-is at c.in-Answer-Stamp.ensures.decides events loaded.left.represents

  few : writers events ≤ 1
  few = (obeys_now _ _ loaded.left.represents.well_formed).within.one_writer

  writing : IsTrue c.is_writing.result ↔ (writers events ≡ 1)
  writing =
      let same = ap (λ (l : LockView). l.limits) c.self.view_is in
      (rw (c.word.ensures, c.seen.ensures, same) at c.is_writing.ensures) c.args.self.now.limits _
      (subst AreInRange same c.self.invariant.3) loaded.left.represents

  its_stamp : c.in-Answer-Stamp.stamp ≡ stamp_or_zero c.if-is_writing.result
  its_stamp = elim c.if-is_writing.branch [
    | then-is_writing w ↦
        let stamp = none_beside_a_writer c.args.self.now.limits events _ stays in
        rw w.result-is (stamp (writing.0 w.if-is_writing.true))
    | else-is_writing w ↦ rw w.result-is refl
  ]

  is_some : IfSome c.if-is_writing.result (λ (stamp : ℕ). 0 < stamp)
  is_some = elim c.if-is_writing.branch [
    | then-is_writing w ↦ rw w.result-is tt
    | else-is_writing w ↦
        let stamp = some_beside_none c.args.self.now.limits events _ stays few in
        rw w.result-is (stamp (iff_false writing w.if-is_writing.false))
  ]

pub returns-clause-some : goal.returns-clause-some
returns-clause-some g c = is_some g c

pub returns-clause-made : goal.returns-clause-made
returns-clause-made g c =
    let begun = begins _ Optimistic _ _ _ refl (loaded g c) in
    rw (← its_stamp g c) (is_made_by_answer _ _ _ _ _ begun _
    (rw c.in-Answer-Stamp.field-0-is at c.in-Answer-Stamp.ensures.decides))

pub returns-clause-machine : goal.returns-clause-machine
returns-clause-machine g c =
    let begun = begins _ Optimistic _ _ _ refl (loaded g c) in
    rw (← its_stamp g c) (ends_by_answer _ _ _ _ _ begun _
    (rw c.in-Answer-Stamp.field-0-is at c.in-Answer-Stamp.ensures.number))
