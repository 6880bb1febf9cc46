-- A refused call is a try.
use Rattle.std.proofs.Common.{◌≡◌, ℕ, Bool, true, false, List, Option, Some, refl, ◌∙◌, sym, subst, inl, inr}
use Rattle.stamp_threads.specs.declared.record_view.RecordShape.{RecordShape}
use Rattle.stamp_threads.specs.declared.faults.PutFault.{PutFault}
use Rattle.stamp_threads.specs.declared.faults.PutFault.TheVariants.{Busy, Lost, Spent}
use Rattle.stamp_threads.specs.declared.faults.GetFault.{GetFault}
use Rattle.stamp_threads.specs.declared.faults.GetFault.TheVariants as get
use Rattle.stamp_threads.specs.RecordCall.{KnowsWord, HasSeen, UpdateRefused, ReplaceRefused, PutIfMade}
use Rattle.stamp_threads.specs.RecordCall as by_pass
use Rattle.stamp_threads.specs.RecordLog.{content_in}
use Rattle.stamp_core.specs.declared.call.Call.{Call}
use Rattle.stamp_core.specs.declared.call.Call.TheVariants.{PutIf}
use Rattle.stamp_core.specs.declared.reply.Reply.{Reply}
use Rattle.stamp_core.specs.declared.reply.Reply.TheVariants.{Yes}
use mathlib.Core.List.{IsPrefix}
use Rattle.stamp_threads.specs.PassView.{MadeNoCallSince}
use Rattle.stamp_threads.proofs.Beginnings.{begins_all, begins_further}
use Rattle.stamp_threads.proofs.SamePass.{no_call_yet, no_call_further}
use Rattle.stamped_lock.specs.RecordCalls.{RecordHandleView, Tried, RefusesPut, RefusesGet, RefusesUpdate}
use Rattle.stamped_lock.specs.RecordCalls.{MadeAtLast, Updated, PutIfAtLast, SeenAtLast}
use Rattle.stamped_lock.specs.inner.RecordCalls.{RefusesTry}
use Rattle.stamp_threads.specs.RecordPass.{RecordPassView}

pub tried_none : (h : RecordHandleView) → Tried h h
tried_none h = record {
  same = refl;
  begins = begins_all h.pass.known;
  no_call = no_call_yet h.pass;
}

tried_word : (shape : RecordShape) (word : ℕ) (h h' : RecordHandleView) → h'.running ≡ h.running →
    KnowsWord shape h.pass word h'.pass → Tried h h'
tried_word shape word h h' same knows = record {
  same = same;
  begins = knows.left.begins;
  no_call = knows.no_call;
}

pub tried_put : (fault : PutFault) (h h' : RecordHandleView) → RefusesPut fault h h' → Tried h h'
tried_put (Busy word) h h' r = tried_word _ _ h h' r.same r.refused.knows
tried_put (Lost loaded found) h h' r = tried_word _ _ h h' r.same r.refused.knows
tried_put (Spent word) h h' r = tried_word _ _ h h' r.same r.refused.knows

pub tried_get : (fault : GetFault) (h h' : RecordHandleView) → RefusesGet fault h h' → Tried h h'
tried_get (get.Busy word) h h' r = tried_word _ _ h h' r.same r.refused.knows
tried_get (get.Lost loaded found) h h' r = tried_word _ _ h h' r.same r.refused.knows

pub tried_further : (h u h' : RecordHandleView) → Tried h u → Tried u h' → Tried h h'
tried_further h u h' a b = record {
  same = b.same ∙ a.same;
  begins = begins_further h.pass.known u.pass.known h'.pass.known a.begins b.begins;
  no_call = no_call_further h.pass u.pass h'.pass a.no_call b.no_call;
}

pub tried_seen : (P : List ℕ → Type 0) (word : ℕ) (words : List ℕ) (h h' : RecordHandleView) →
    h'.running ≡ h.running → HasSeen P h.running.shape word words h.pass h'.pass → Tried h h'
tried_seen P word words h h' same s = tried_word _ word h h' same s.knows

tried_update_at : (P : List ℕ → Type 0) (fault : PutFault) (h h' : RecordHandleView) →
    h'.running ≡ h.running → UpdateRefused P h.running.shape h.pass fault h'.pass → Tried h h'
tried_update_at P (Busy word) h h' same r = tried_word _ _ h h' same r.knows
tried_update_at P (Lost loaded found) h h' same (inl r) = tried_word _ _ h h' same r.knows
tried_update_at P (Lost loaded found) h h' same (inr r) = record {
  same = same;
  begins = begins_further h.pass.known r.between.known h'.pass.known r.seen.knows.left.begins
      r.next.knows.left.begins;
  no_call = no_call_further h.pass r.between h'.pass r.seen.knows.no_call r.next.knows.no_call;
}
tried_update_at P (Spent word) h h' same r = record {
  same = same;
  begins = begins_further h.pass.known r.between.known h'.pass.known r.seen.knows.left.begins
      (subst (λ (u : RecordPassView). IsPrefix r.between.known u.known) (sym r.next.same)
      (begins_all r.between.known));
  no_call = no_call_further h.pass r.between h'.pass r.seen.knows.no_call
      (subst (λ (u : RecordPassView). MadeNoCallSince r.between u) (sym r.next.same)
      (no_call_yet r.between));
}

pub tried_update : (P : List ℕ → Type 0) (fault : PutFault) (h h' : RecordHandleView) →
    RefusesUpdate P fault h h' → Tried h h'
tried_update P fault h h' r = tried_update_at P fault h h' r.same r.refused

-- a call that was made after tries, by a pass that has come to know more
pub made_after : (call : Call) (reply : Reply) (h h' : RecordHandleView) (u : RecordPassView) →
    h'.running ≡ h.running → IsPrefix h.pass.known u.known → MadeNoCallSince h.pass u →
    by_pass.MadeOnRecord h.running.shape call reply u h'.pass → MadeAtLast call reply h h'
made_after call reply h h' u same begins no_call made = record {
  between = record { running = h.running; pass = u };
  tried = record { same = refl; begins = begins; no_call = no_call };
  made = record { same = same; made = made };
}

-- words were seen, and others put over them
pub put_over : (P : List ℕ → Type 0) (word : ℕ) (old words : List ℕ) (h h' : RecordHandleView)
    (u : RecordPassView) → h'.running ≡ h.running → HasSeen P h.running.shape word old h.pass u →
    by_pass.MadeOnRecord h.running.shape (PutIf (content_in h.running.shape.width u.known) words) Yes u h'.pass →
    MadeAtLast (PutIf old words) Yes h h'
put_over P word old words h h' u same seen made =
    made_after (PutIf old words) Yes h h' u same seen.knows.left.begins seen.knows.no_call
    (subst (λ (c : List ℕ). by_pass.MadeOnRecord h.running.shape (PutIf c words) Yes u h'.pass)
    (sym seen.content) made)

pub put_if_made : (P : List ℕ → Type 0) (expected words : List ℕ) (put : Bool) (h h' : RecordHandleView) →
    h'.running ≡ h.running → PutIfMade P h.running.shape expected words put h.pass h'.pass →
    PutIfAtLast expected words put h h'
put_if_made P expected words true h h' same m =
    made_after _ _ h h' m.between same m.seen.knows.left.begins m.seen.knows.no_call m.made
put_if_made P expected words false h h' same m =
    made_after _ _ h h' h.pass same (begins_all h.pass.known) (no_call_yet h.pass) m

-- tries, and then the call
pub made_further : (call : Call) (reply : Reply) (h u h' : RecordHandleView) → Tried h u →
    MadeAtLast call reply u h' → MadeAtLast call reply h h'
made_further call reply h u h' t m = record {
  between = m.between;
  tried = tried_further h u m.between t m.tried;
  made = m.made;
}

pub put_if_further : (expected words : List ℕ) (put : Bool) (h u h' : RecordHandleView) → Tried h u →
    PutIfAtLast expected words put u h' → PutIfAtLast expected words put h h'
put_if_further expected words put h u h' t m = made_further _ _ h u h' t m

pub updated_further : {T : Type 0} (Ran : T → Type 0) (words : T → List ℕ) (old : T)
    (h u h' : RecordHandleView) → Tried h u → Updated Ran words old u h' → Updated Ran words old h h'
updated_further Ran words old h u h' t m = record {
  value = m.value;
  ran = m.ran;
  made = made_further (PutIf (words old) (words m.value)) Yes h u h' t m.made;
}

-- tries, and then it was seen to hold these words
pub seen_further : (P : List ℕ → Type 0) (words : List ℕ) (h u h' : RecordHandleView) → Tried h u →
    SeenAtLast P words u h' → SeenAtLast P words h h'
seen_further P words h u h' t s = record {
  between = s.between;
  word = s.word;
  tried = tried_further h u s.between t s.tried;
  same = s.same;
  seen = s.seen;
}

-- at once
pub seen_now : (P : List ℕ → Type 0) (word : ℕ) (words : List ℕ) (h h' : RecordHandleView) →
    h'.running ≡ h.running → HasSeen P h.running.shape word words h.pass h'.pass → SeenAtLast P words h h'
seen_now P word words h h' same s = record {
  between = h;
  word = word;
  tried = tried_none h;
  same = same;
  seen = s;
}

-- a closure that may decline answered a value on the one that was seen, and that was not put over it
pub try_refused : {T : Type 0} (Ran : T → Option T → Type 0) (P : List ℕ → Type 0) (words : T → List ℕ)
    (old value : T) (word : ℕ) (fault : PutFault) (h h' : RecordHandleView) (u : RecordPassView) →
    h'.running ≡ h.running → Ran old (Some value) → HasSeen P h.running.shape word (words old) h.pass u →
    ReplaceRefused h.running.shape word u fault h'.pass → RefusesTry Ran P words fault h h'
try_refused Ran P words old value word (Busy other) h h' u same ran seen r = absurd r
try_refused Ran P words old value word (Lost loaded found) h h' u same ran seen r = record {
  same = same;
  refused = rw r.0 (inr (record { words = words old; between = u; seen = seen; next = r.1 }));
}
try_refused Ran P words old value word (Spent other) h h' u same ran seen r = (
  old,
  value,
  ran,
  record {
    same = same;
    refused = rw r.0 (record {
      words = words old;
      between = u;
      seen = record {
        has_found = seen.has_found;
        knows = seen.knows;
        free = seen.free;
        content = seen.content;
        long = seen.long;
        rule = refl;
      };
      next = r.1;
    });
  },
)
