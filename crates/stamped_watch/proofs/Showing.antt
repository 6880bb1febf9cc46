-- A witness that was written.
use Rattle.std.proofs.Common.{ℕ, ◌≡◌, ◌≢◌, List, Option, Ok, Err, Bool, true, false, ap, refl, subst, sym}
use Rattle.std.specs.Prelude.{Result, IsErrAnd, OnErr, OnOk, is_err, is_ok}
use Rattle.std.specs.Io.KnownBytes.{Appends}
use Rattle.stamp_cli.specs.Results.{MakesAtMost, Results, any_since}
use Rattle.stamp_cli.specs.Serving.{HasWritten}
use Rattle.stamp_cli.specs.Sink.{AppendsFront}
use Rattle.stamp_cli.specs.TakesNone.{takes_none}
use Rattle.stamp_cli.specs.declared.faults.ServeFault.{ServeFault}
use Rattle.stamp_cli.specs.declared.faults.ServeFault.TheVariants.{WriteFault}
use Rattle.stamp_cli.specs.Shell.{SinkView}
use Rattle.stamped_watch.specs.declared.finding.Finding.{Finding}
use Rattle.stamped_watch.specs.declared.finding.Finding.TheVariants as found
use Rattle.stamped_watch.specs.declared.orders.Watching.{Watching}
use Rattle.stamped_watch.specs.declared.witness.NoWitness.{NoWitness}
use Rattle.stamped_watch.specs.declared.witness.Shown.{Shown}
use Rattle.stamped_watch.specs.declared.witness.Shown.TheVariants.{NotDue}
use Rattle.stamped_watch.specs.Progress.{IsWritten}
use Rattle.stamped_watch.specs.Witness.{HasShown, HasShownAt, HasShownIf}
use Rattle.stamped_watch.proofs.LinesTold.{line_written, not_ok}

-- what a call wrote of a text
pub text_written : {A : Type 0} (text : List ℕ) (sent sent' : Option (List ℕ)) (old new : Results)
    (result : Result A ServeFault) (most bytes : ℕ) → OnOk result (Appends sent sent' text) →
    OnErr result (AppendsFront sent sent' text) → MakesAtMost old new most bytes →
    any_since takes_none old new ≡ is_err result → IsWritten text sent sent' old new
text_written text sent sent' old new result most bytes ok failed makes any =
    (line_written text sent sent' old new result most bytes (is_ok result) ok failed makes any (not_ok result)).written

-- a write that failed is told as that
pub written_badly : {A : Type 0} (sent sent' : Option (List ℕ)) (old new : Results) (result : Result A ServeFault) →
    IsErrAnd result (λ (e : ServeFault). e ≡ WriteFault) → any_since takes_none old new ≡ true →
    HasWritten WriteFault sent sent' old new result
written_badly sent sent' old new (Ok x) is any = absurd is
written_badly sent sent' old new (Err e) is any = record {
  failed = ((λ same. any), (λ yes. ap Err is));
  silent = λ not. absurd (not is);
}

-- none is due where none is asked for, or the stream isn't stuck
pub not_asked : (asked : Watching) (bytes : List ℕ) (f : Finding) (v : SinkView) → asked.witness ≡ false →
    HasShown asked bytes f v v (Ok NotDue)
not_asked asked bytes f v off =
    subst (λ (on : Bool). HasShownIf on asked bytes f v v (Ok NotDue)) (sym off) (refl, refl)

pub not_stuck : (asked : Watching) (bytes : List ℕ) (f : Finding) (v : SinkView) → ((k : ℕ) → f ≢ found.Stuck k) →
    HasShown asked bytes f v v (Ok NotDue)
not_stuck asked bytes f v other = by asked.witness f other
  where
    by : (on : Bool) (f : Finding) → ((k : ℕ) → f ≢ found.Stuck k) → HasShownIf on asked bytes f v v (Ok NotDue)
    by false f other = (refl, refl)
    by true (found.Stuck k) other = absurd (other k refl)
    by true (found.Explained calls) other = (refl, refl)
    by true (found.StuckWithin k m) other = (refl, refl)
    by true (found.Undecided k why) other = (refl, refl)
    by true (found.Late k) other = (refl, refl)
    by true (found.Misplaced k why) other = (refl, refl)
    by true (found.BadEvent k why) other = (refl, refl)
    by true (found.Cut k) other = (refl, refl)
    by true (found.BadHeader why) other = (refl, refl)
    by true found.NoHeader other = (refl, refl)
    by true found.Full other = (refl, refl)

-- and else what is due is done
pub shown_at : (asked : Watching) (bytes : List ℕ) (k : ℕ) (old new : SinkView) (r : Result Shown NoWitness) →
    asked.witness ≡ true → HasShownAt asked bytes k old new r → HasShown asked bytes (found.Stuck k) old new r
shown_at asked bytes k old new r on is =
    subst (λ (b : Bool). HasShownIf b asked bytes (found.Stuck k) old new r) (sym on) is
