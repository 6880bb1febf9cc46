-- Between an optimistic stamp and its validation nobody acquired write mode.
use Rattle.std.proofs.Common.{◌≡◌, ◌<◌, ℕ, Bool, true, false, [], ◌∷◌, ◌++◌, if◌then◌else◌}
use Rattle.std.proofs.Common.{refl, ap, sym, ◌∙◌, subst, arith}
use Rattle.std.proofs.lemmas.Bool.Decides.{nat_tests}
use mathlib.Core.List.{IsPrefix}
use Rattle.std.proofs.lemmas.List.{append-nil}
use Rattle.stamp_core.specs.Limits.{Bounds, units}
use Rattle.stamp_core.specs.LockEvent.{Counts, counts, write_count}
use Rattle.stamp_core.specs.Stamp.{optimistic_stamp, is_valid}
use Rattle.stamp_core.specs.History.{appended_by, events_from}
use Rattle.stamp_core.specs.declared.call.Call.{Call}
use Rattle.stamp_core.specs.declared.call.Call.TheVariants.{Optimistic, Validate}
use Rattle.stamp_core.specs.declared.reply.Reply.{Reply}
use Rattle.stamp_core.specs.declared.reply.Reply.TheVariants.{Stamp, Yes, No}
use Rattle.stamp_core.proofs.TwoLayouts.{either_layout}
use Rattle.stamp_core.proofs.StampValidity.{events_from-append}
use Rattle.stamp_threads.specs.declared.pass_view.LogEntry.{LogEntry}
use Rattle.stamp_threads.specs.LockLog.{LockLog, history_in, events_after, transition_after}
use Rattle.stamp_threads.specs.LockPass.{LockPassView}
use Rattle.stamp_threads.specs.PassView.{entry}
use Rattle.stamp_threads.specs.Made as by_pass
use Rattle.stamp_threads.proofs.Beginnings.{begins_more, begins_further}
use Rattle.stamp_threads.proofs.LockLogs.{history-append}
use Rattle.stamp_threads.proofs.Replying.{replies_of}
use Rattle.stamped_lock.specs.LockHandleView.{LockHandleView}
use Rattle.stamped_lock.specs.Made.{Made}
use Rattle.stamped_lock.specs.Sections.{IsUnwritten}

-- an optimistic stamp is valid at the version of its issue alone
same_version : (limits : Bounds) (c c' : Counts) (s : ℕ) →
    s ≡ optimistic_stamp (units limits) c.write_count → is_valid (units limits) c' s ≡ true →
    c'.write_count ≡ c.write_count
same_version limits c c' s issued valid =
    let u = either_layout limits.layout in grind (arith, nat_tests)

issued_is : (b : Bool) (n s : ℕ) → 0 < s → Stamp (if b then n else 0) ≡ Stamp s → s ≡ n
issued_is true n s some e = cc
issued_is false n s some e = let z : 0 ≡ s = cc in absurd (omega arith)

valid_is : (b : Bool) → (if b then Yes else No) ≡ Yes → b ≡ true
valid_is true e = refl
valid_is false e = cc

events_after-push : (limits : Bounds) (log : LockLog) (e : LogEntry (Call × Reply)) →
    events_after limits (log ++ e ∷ []) ≡
    events_after limits log ++ appended_by (transition_after limits log e.made.0)
events_after-push limits log e =
    ap (events_from limits []) (history-append log (e ∷ [])) ∙
    events_from-append limits [] (history_in log) (e.made ∷ [])

-- a call that appends nothing leaves the version
version_kept : (limits : Bounds) (call : Call) (reply : Reply) (v w : LockPassView)
    (a : by_pass.Made limits call reply v w) → appended_by (transition_after limits a.log call) ≡ [] →
    write_count (events_after limits w.known) ≡ write_count (events_after limits a.log)
version_kept limits call reply v w a none =
    ap (λ (log : LockLog). write_count (events_after limits log)) a.known ∙
    ap write_count (events_after-push limits a.log (entry v.name (call, reply))) ∙
    rw (none, append-nil)

versions_same : (limits : Bounds) (s : ℕ) (h m n : LockPassView) → 0 < s →
    by_pass.Made limits Optimistic (Stamp s) h m → by_pass.Made limits (Validate s) Yes m n →
    write_count (events_after limits n.known) ≡ write_count (events_after limits m.known)
versions_same limits s h m n some a b =
    let c = counts (events_after limits a.log) in
    let c' = counts (events_after limits b.log) in
    let issued = issued_is _ _ s some (replies_of limits Optimistic (Stamp s) h m refl a) in
    let valid = valid_is (is_valid (units limits) c' s) (replies_of limits (Validate s) Yes m n refl b) in
    version_kept limits (Validate s) Yes m n b refl ∙ same_version limits c c' s issued valid ∙
    sym (version_kept limits Optimistic (Stamp s) h m a refl)

pub unwritten : (s : ℕ) (h m n : LockHandleView) → 0 < s → Made Optimistic (Stamp s) h m →
    Made (Validate s) Yes m n → IsUnwritten m n
unwritten s h m n some issued valid =
    let a = subst (λ (l : Bounds). by_pass.Made l Optimistic (Stamp s) h.pass m.pass)
    (ap (λ l. l.limits) (sym issued.same)) issued.made in
    let b = valid.made in
    record {
      goes_on = subst (IsPrefix m.pass.known) (sym b.known)
          (begins_further m.pass.known b.log _ b.left.begins (begins_more b.log _));
      version = versions_same m.running.limits s h.pass m.pass n.pass some a b;
    }
