-- Calls taken one after the other.
use Rattle.std.proofs.Common.{◌≡◌, ℕ, ◌+◌, ◌<◌, List, [], ◌∷◌, ◌++◌, length, take, get_or, refl}
use Rattle.std.proofs.Common.{sym, ◌∙◌, ap, subst, arith, length-append, length-take-le, Bool, true}
use Rattle.std.proofs.Common.{false, Some, None}
use Rattle.std.specs.Prelude.{IsTrue}
use Rattle.std.specs.List.{zip}
use Rattle.std.specs.Bool.{MatchBool}
use Rattle.std.proofs.lemmas.List.{take_more}
use Rattle.std.proofs.lemmas.Option.{slice_get-get_or}
use Rattle.stamp_core.specs.LockEvent.{LockEvent}
use Rattle.stamp_core.specs.Limits.{Bounds}
use Rattle.stamp_core.specs.Word.{LockWord, Represents}
use Rattle.stamp_core.specs.Call.{is_lock_call}
use Rattle.stamp_core.specs.Content.{zeros}
use Rattle.stamp_core.specs.Transition.{transition}
use Rattle.stamp_core.specs.Decision.{IsTransition}
use Rattle.stamp_core.specs.History.{History, IsReply, IsLegal, appended_by, events_of, content_from}
use Rattle.stamp_core.specs.Replayed.{IsReplayed, WaitsAt}
use Rattle.stamp_core.specs.declared.call.Call.{Call}
use Rattle.stamp_core.specs.declared.reply.Reply.{Reply}
use Rattle.stamp_core.proofs.StampValidity.{events_from-append}
use Rattle.stamp_core.proofs.Linearizing.{legal_more}

-- how far the calls have come
pub record Replaying (limits : Bounds) (calls : List Call) (i : ℕ) (word : LockWord) (replies : List Reply) :
    Type 0 where
  pub each : length replies ≡ i
  pub legal : IsLegal limits 0 (zip (take i calls) replies)
  pub represented : Represents limits word (events_of limits (zip (take i calls) replies))

pub none : (limits : Bounds) (calls : List Call) (word : LockWord) → Represents limits word [] →
    Replaying limits calls 0 word []
none limits calls word represented = record { each = refl; legal = tt; represented = represented }

-- lists of one length, with one more of each
zip-push : {K X : Type 0} (ks : List K) (xs : List X) (k : K) (x : X) → length ks ≡ length xs →
    zip (ks ++ k ∷ []) (xs ++ x ∷ []) ≡ zip ks xs ++ (k, x) ∷ []
zip-push [] [] k x same = refl
zip-push [] (y ∷ ys) k x same = absurd (omega arith)
zip-push (j ∷ ks) [] k x same = absurd (omega arith)
zip-push (j ∷ ks) (y ∷ xs) k x same = let rest : length ks ≡ length xs = omega arith in
    ap (λ (zs : List _). (j, y) ∷ zs) (zip-push ks xs k x rest)

lock_reply : (b : Bool) (P Q : Type 0) → IsTrue b → P → MatchBool b P Q
lock_reply true P Q t p = p
lock_reply false P Q t p = cc

take_length : (calls : List Call) (i : ℕ) → i < length calls → length (take i calls) ≡ i
take_length calls i within = length-take-le i calls (omega arith)

pub more : (limits : Bounds) (calls : List Call) (i : ℕ) (word next : LockWord) (replies : List Reply) (call : Call)
    (reply : Reply) → Replaying limits calls i word replies → i < length calls → call ≡ get_or calls i call →
    IsTrue (is_lock_call call) → IsTransition limits word call (Some (next, reply)) →
    Replaying limits calls (i + 1) next (replies ++ reply ∷ [])
more limits calls i word next replies call reply so_far within at lock made =
    let before = zip (take i calls) replies in
    let same : length (take i calls) ≡ length replies = take_length calls i within ∙ sym so_far.each in
    let s = made.after (events_of limits before) so_far.represented in
    let calls_more : take (i + 1) calls ≡ take i calls ++ call ∷ [] = take_more calls i call within ∙
    ap (λ (c : Call). take i calls ++ c ∷ []) (sym at) in
    let zipped : zip (take (i + 1) calls) (replies ++ reply ∷ []) ≡ before ++ (call, reply) ∷ [] =
    ap (λ (cs : List Call). zip cs (replies ++ reply ∷ [])) calls_more ∙
    zip-push (take i calls) replies call reply same in
    let reply_is : IsReply limits (events_of limits before) (content_from (zeros 0) before) call reply =
    lock_reply (is_lock_call call) _ _ lock s.1 in
    let events : events_of limits (before ++ (call, reply) ∷ []) ≡ events_of limits before ++
    appended_by (transition limits (events_of limits before) call) =
    events_from-append limits [] before ((call, reply) ∷ []) in
    record {
      each = length-append replies (reply ∷ []) ∙ ap (λ (n : ℕ). n + 1) so_far.each;
      legal = subst (λ (h : History). IsLegal limits 0 h) (sym zipped)
          (legal_more limits [] (zeros 0) before (call, reply) so_far.legal reply_is);
      represented = subst (λ (h : History). Represents limits next (events_of limits h)) (sym zipped)
          (subst (λ (es : List LockEvent). Represents limits next es) (sym events) s.0);
    }

pub waits : (limits : Bounds) (calls : List Call) (i : ℕ) (word : LockWord) (replies : List Reply) (call : Call) →
    Replaying limits calls i word replies → i < length calls → call ≡ get_or calls i call →
    IsTransition limits word call None → WaitsAt limits calls i
waits limits calls i word replies call so_far within at made = record {
  call = call;
  is_call = slice_get-get_or calls i call within ∙ ap Some (sym at);
  replies = replies;
  each = so_far.each;
  legal = so_far.legal;
  waits = made.after (events_of limits (zip (take i calls) replies)) so_far.represented;
}

pub all : (limits : Bounds) (calls : List Call) (i : ℕ) (word : LockWord) (replies : List Reply) →
    Replaying limits calls i word replies → take i calls ≡ calls → i ≡ length calls →
    IsReplayed limits calls replies word
all limits calls i word replies so_far whole end = record {
  each = so_far.each ∙ end;
  legal = subst (λ (cs : List Call). IsLegal limits 0 (zip cs replies)) whole so_far.legal;
  represented = subst (λ (cs : List Call). Represents limits word (events_of limits (zip cs replies))) whole
      so_far.represented;
}
