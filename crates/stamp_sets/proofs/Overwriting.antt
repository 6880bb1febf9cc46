-- What is known of the calls of a lock and of a record: which overwrite, and which change nothing.
use Rattle.std.proofs.Common.{ℕ, ◌≡◌, ◌↔◌, List, [], ◌∷◌, Bool, true, false, Some, None, refl, sym, ◌∙◌, ap, subst}
use Rattle.std.specs.Prelude.{IsTrue}
use Rattle.std.proofs.lemmas.Bool.{false≢true}
use Rattle.std.proofs.lemmas.Option.{none-some}
use Rattle.stamp_core.specs.declared.call.Call.{Call}
use Rattle.stamp_core.specs.declared.call.Call.TheVariants as any
use Rattle.stamp_core.specs.declared.lock_call.LockCall.{LockCall}
use Rattle.stamp_core.specs.declared.lock_decision.LockReply.TheVariants as lock_reply
use Rattle.stamp_core.specs.declared.reply.Reply.{Reply}
use Rattle.stamp_core.specs.declared.reply.Reply.TheVariants as given
use Rattle.stamp_runs.specs.Object.{RecordStep}
use Rattle.stamp_runs.specs.Position.{Overwrites, OverwritesNever}
use Rattle.stamp_runs.proofs.Objects.{get_never, lock_overwrites_never, put_overwrites, puts_overwrite}
use Rattle.stamp_sets.specs.declared.ending.Ending.{Ending}
use Rattle.stamp_sets.specs.declared.ending.Ending.TheVariants.{Never, Returns, Withdraws}
use Rattle.stamp_sets.specs.declared.object.Object.{Object}
use Rattle.stamp_sets.specs.declared.object.Object.TheVariants.{Lock, Record}
use Rattle.stamp_sets.specs.declared.open_call.OpenCall.{OpenCall}
use Rattle.stamp_sets.specs.declared.small_call.SmallCall.{SmallCall}
use Rattle.stamp_sets.specs.declared.small_call.SmallCall.TheVariants.{OfLock, Get, Put, PutIf}
use Rattle.stamp_sets.specs.declared.small_call.SmallReply.{SmallReply}
use Rattle.stamp_sets.specs.declared.small_call.SmallReply.TheVariants as small
use Rattle.stamp_sets.specs.Judged.{guarded, judged, left_by, may_be_done}
use Rattle.stamp_sets.specs.SmallCall.{call_of}
use Rattle.stamp_sets.specs.Told.{MayGet}
use Rattle.stamp_sets.specs.Unchanging.{reads_only, small_unchanging, told_unchanging}
use Rattle.stamp_sets.specs.inner.Effect.{ChangesNothing, IsOverwritingTo, IsUnchanging}
use Rattle.stamp_sets.proofs.Judging.{get_changes_nothing, not_of_record, put_if_changes_nothing, unchanging_of_lock}
use Rattle.stamp_sets.proofs.Lawful.{IsLawful}

-- done may be got
pub may_done : (ends : Ending) → (may_be_done ends ≡ true) ↔ MayGet ends given.Done
may_done (Returns (small.OfLock lock_reply.Done) place) = ((λ is. refl), (λ is. refl))
may_done (Returns _ place) = ((λ is. absurd (false≢true is)), (λ is. cc))
may_done Withdraws = ((λ is. absurd (false≢true is)), (λ is. absurd is))
may_done Never = ((λ is. tt), (λ is. refl))

-- other calls than a put overwrite never
of_lock_never : (call : LockCall) → OverwritesNever RecordStep (call_of (OfLock call))
of_lock_never call reply t over = not_of_record call [] reply (over.may []).replies

put_if_never : (expected words : List ℕ) → OverwritesNever RecordStep (any.PutIf expected words)
put_if_never expected words reply t over =
    let is : any.PutIf expected words ≡ any.Put t =
    ((puts_overwrite (any.PutIf expected words) reply t).0 over).0 in cc

put_never : (number : ℕ) (begun : OpenCall) → begun.asks ≡ Put number → may_be_done begun.ends ≡ false →
    IsOverwritingTo guarded begun None
put_never number begun asks not reply t may over = false≢true (sym not ∙ (may_done begun.ends).1
    (subst (λ (r : Reply). MayGet begun.ends r) ((puts_overwrite (any.Put (number ∷ [])) reply t).0
    (subst (λ (c : Call). Overwrites RecordStep c reply t) (ap call_of asks) over)).1 may))

put_overwriting : (number : ℕ) (begun : OpenCall) → begun.asks ≡ Put number → may_be_done begun.ends ≡ true →
    IsOverwritingTo guarded begun (Some number)
put_overwriting number begun asks may = record {
  reply = given.Done;
  next = number ∷ [];
  may = (may_done begun.ends).0 may;
  overwrites = subst (λ (c : Call). Overwrites RecordStep c given.Done (number ∷ [])) (sym (ap call_of asks))
      (put_overwrites (number ∷ []));
  holds = refl;
}

record_overwriting : (begun : OpenCall) → IsOverwritingTo guarded begun (left_by begun.asks (may_be_done begun.ends))
record_overwriting begun = by begun.asks refl (may_be_done begun.ends) refl
  where
    as_asked : (call : SmallCall) → begun.asks ≡ call → (reply : Reply) (t : List ℕ) →
        Overwrites RecordStep (call_of begun.asks) reply t → Overwrites RecordStep (call_of call) reply t
    as_asked call asks reply t over = subst (λ (c : SmallCall). Overwrites RecordStep (call_of c) reply t) asks over

    by : (call : SmallCall) → begun.asks ≡ call → (may : Bool) → may_be_done begun.ends ≡ may →
        IsOverwritingTo guarded begun (left_by call may)
    by (Put number) asks true may = put_overwriting number begun asks may
    by (Put number) asks false not = put_never number begun asks not
    by (OfLock call) asks may is = λ reply t got over.
        of_lock_never call reply t (as_asked (OfLock call) asks reply t over)
    by Get asks may is = λ reply t got over. get_never reply t (as_asked Get asks reply t over)
    by (PutIf expected number) asks may is = λ reply t got over.
        put_if_never (expected ∷ []) (number ∷ []) reply t (as_asked (PutIf expected number) asks reply t over)

reader_never : (call : SmallCall) (reply : SmallReply) → small_unchanging call reply ≡ true →
    OverwritesNever RecordStep (call_of call)
reader_never (OfLock call) reply is = of_lock_never call
reader_never Get reply is = get_never
reader_never (Put number) reply is = absurd (false≢true is)
reader_never (PutIf expected number) reply is = put_if_never (expected ∷ []) (number ∷ [])

-- a call of any object that returns with such a reply changes nothing
small_stays : (call : SmallCall) (reply : SmallReply) → small_unchanging call reply ≡ true → (object : Object) →
    ChangesNothing (judged object) call reply
small_stays (OfLock call) (small.OfLock reply) is object = unchanging_of_lock call reply is object
small_stays (OfLock call) (small.Content number) is object = absurd (false≢true is)
small_stays Get reply is object = get_changes_nothing reply object
small_stays (Put number) reply is object = absurd (false≢true is)
small_stays (PutIf expected number) (small.OfLock lock_reply.No) is object =
    put_if_changes_nothing expected number object
small_stays (PutIf expected number) _ is object = absurd (false≢true is)

small_never : (call : SmallCall) (reply : SmallReply) → small_unchanging call reply ≡ true → (object : Object) →
    OverwritesNever (judged object).step (call_of call)
small_never call reply is (Lock limits) = lock_overwrites_never limits (call_of call)
small_never call reply is Record = reader_never call reply is

pub not_told : (ends : Ending) (call : SmallCall) →
    ((reply : SmallReply) (place : ℕ) → ends ≡ Returns reply place → ⊥) → false ≡ told_unchanging ends call
not_told (Returns reply place) call not = absurd (not reply place refl)
not_told Withdraws call not = refl
not_told Never call not = refl

pub reads_nothing : (begun : OpenCall) → reads_only begun ≡ true → (object : Object) →
    IsUnchanging (judged object) begun
reads_nothing begun reads object = by begun.ends refl reads
  where
    by : (ends : Ending) → begun.ends ≡ ends → told_unchanging ends begun.asks ≡ true →
        IsUnchanging (judged object) begun
    by (Returns told place) ends is = record {
      told = told;
      place = place;
      ends = ends;
      unchanging = small_stays begun.asks told is object;
      never = small_never begun.asks told is object;
    }
    by Withdraws ends is = absurd (false≢true is)
    by Never ends is = absurd (false≢true is)

-- calls of a record may be free
pub frees_calls : (object : Object) → object ≡ Record → (judged object).frees ≡ true
frees_calls object is = ap (λ (o : Object). (judged o).frees) is

pub judged_lawful : (object : Object) → IsLawful (judged object)
judged_lawful (Lock limits) = record {
  overwriting = λ begun reply t may. lock_overwrites_never limits (call_of begun.asks) reply t;
  reading = λ begun reads. reads_nothing begun reads (Lock limits);
  freeing = λ begun number is. absurd (none-some number is);
}
judged_lawful Record = record {
  overwriting = λ begun. record_overwriting begun;
  reading = λ begun reads. reads_nothing begun reads Record;
  freeing = λ begun number is. refl;
}

-- the number of what a put leaves, by tests
module _ (number : ℕ) (call : SmallCall) (asks : call ≡ Put number) (ends : Ending) (may : Bool)
    (is : IsTrue may ↔ MayGet ends given.Done) where
  left : (b : Bool) → left_by call b ≡ left_by (Put number) b
  left b = ap (λ (c : SmallCall). left_by c b) asks

  pub put_not_done : may ≡ false → None ≡ left_by call (may_be_done ends)
  put_not_done not = sym (left (may_be_done ends) ∙ by (may_be_done ends) refl)
    where
      by : (b : Bool) → may_be_done ends ≡ b → left_by (Put number) b ≡ None
      by true so = absurd (false≢true (sym not ∙ is.1 ((may_done ends).0 so)))
      by false so = refl

  pub put_done : may ≡ true → Some number ≡ left_by call (may_be_done ends)
  put_done so = sym (left (may_be_done ends) ∙ ap (left_by (Put number)) ((may_done ends).1 (is.0 so)))

pub no_put : (call : SmallCall) (may : Bool) → ((n : ℕ) → call ≡ Put n → ⊥) → None ≡ left_by call may
no_put (Put n) may not = absurd (not n refl)
no_put _ may not = refl
