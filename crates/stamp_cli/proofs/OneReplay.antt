-- Calls of the lock have one outcome: their replies and a word, or one call that waits.
use Rattle.std.proofs.Common.{◌≡◌, ◌<◌, ℕ, zero, suc, List, [], ◌∷◌, ◌++◌, length, take, ◌∙◌, refl}
use Rattle.std.proofs.Common.{sym, ap, subst, arith, length-take-le, Bool, true, false, Option}
use Rattle.std.proofs.Common.{Some, None}
use Rattle.std.proofs.lemmas.List.{take_all}
use Rattle.std.specs.Prelude.{IsTrue, slice_get}
use Rattle.std.specs.List.{All, zip}
use Rattle.std.specs.Bool.{MatchBool}
use Rattle.std.proofs.lemmas.Option.{slice_get_within}
use Rattle.stamp_core.specs.LockEvent.{LockEvent, counts}
use Rattle.stamp_core.specs.Limits.{Bounds, units}
use Rattle.stamp_core.specs.Word.{LockWord, word_number}
use Rattle.stamp_core.specs.Call.{is_lock_call}
use Rattle.stamp_core.specs.Content.{zeros, content_next}
use Rattle.stamp_core.specs.Transition.{Transition, transition}
use Rattle.stamp_core.specs.History.{Replies, IsReply, IsLegal, IsLegalFrom, events_from, events_of, appended_by}
use Rattle.stamp_core.specs.Replayed.{IsReplayed, WaitsAt}
use Rattle.stamp_core.specs.declared.call.Call.{Call}
use Rattle.stamp_core.specs.declared.reply.Reply.{Reply}

-- each call is the lock's
abbrev pub AreOfLock : List Call → Type 0
AreOfLock [] = Unit {0}
AreOfLock (call ∷ calls) = IsTrue (is_lock_call call) × AreOfLock calls

pub of_all : (calls : List Call) → All (λ call. IsTrue (is_lock_call call)) calls → AreOfLock calls
of_all [] lock = tt
of_all (k ∷ ks) lock = (lock 0 k (omega arith), of_all ks (λ i d below. lock (suc i) d (omega arith)))

of_lock : (b : Bool) (P Q : Type 0) → IsTrue b → MatchBool b P Q → P
of_lock true P Q t p = p
of_lock false P Q t p = cc

one_of_transition : (t : Option Transition) (a b : Reply) → Replies t a → Replies t b → a ≡ b
one_of_transition None a b x y = absurd x
one_of_transition (Some t) a b x y = sym x ∙ y

none_of_transition : (t : Option Transition) (a : Reply) → t ≡ None → Replies t a → ⊥
none_of_transition None a e x = x
none_of_transition (Some t) a e x = cc

one_reply : (limits : Bounds) (events : List LockEvent) (content : List ℕ) (call : Call) (a b : Reply) →
    IsTrue (is_lock_call call) → IsReply limits events content call a → IsReply limits events content call b → a ≡ b
one_reply limits events content call a b lock x y =
    one_of_transition (transition limits events call) a b (of_lock (is_lock_call call) _ _ lock x)
    (of_lock (is_lock_call call) _ _ lock y)

-- a legal history of the same calls goes on after another first reply, since that is the same reply
legal_after : (limits : Bounds) (events : List LockEvent) (content : List ℕ) (call : Call) (a b : Reply)
    (calls : List Call) (replies : List Reply) → a ≡ b →
    IsLegalFrom limits events (content_next content call b) (zip calls replies) →
    IsLegalFrom limits events (content_next content call a) (zip calls replies)
legal_after limits events content call a b calls replies same legal =
    subst (λ (r : Reply). IsLegalFrom limits events (content_next content call r) (zip calls replies))
    (sym same) legal

one_replies : (limits : Bounds) (events : List LockEvent) (content : List ℕ) (calls : List Call)
    (xs ys : List Reply) → AreOfLock calls → length xs ≡ length calls → length ys ≡ length calls →
    IsLegalFrom limits events content (zip calls xs) → IsLegalFrom limits events content (zip calls ys) → xs ≡ ys
one_replies limits events content [] [] [] lock m n x y = refl
one_replies limits events content [] [] (b ∷ ys) lock m n x y = absurd (omega arith)
one_replies limits events content [] (a ∷ xs) ys lock m n x y = absurd (omega arith)
one_replies limits events content (k ∷ ks) [] ys lock m n x y = absurd (omega arith)
one_replies limits events content (k ∷ ks) (a ∷ xs) [] lock m n x y = absurd (omega arith)
one_replies limits events content (k ∷ ks) (a ∷ xs) (b ∷ ys) lock m n x y =
    let later = events ++ appended_by (transition limits events k) in
    let same : a ≡ b = one_reply limits events content k a b lock.0 x.0 y.0 in
    let m' : length xs ≡ length ks = omega arith in
    let n' : length ys ≡ length ks = omega arith in
    let rest : xs ≡ ys = one_replies limits later (content_next content k a) ks xs ys lock.1 m' n' x.1
    (legal_after limits later content k a b ks ys same y.1) in
    ap (λ (r : Reply). r ∷ xs) same ∙ ap (λ (rs : List Reply). b ∷ rs) rest

-- where a call waits after replies, no replies to all the calls are legal
waits_excludes : (limits : Bounds) (events : List LockEvent) (content : List ℕ) (calls : List Call)
    (before replies : List Reply) (call : Call) → AreOfLock calls → slice_get calls (length before) ≡ Some call →
    length replies ≡ length calls → IsLegalFrom limits events content (zip (take (length before) calls) before) →
    transition limits (events_from limits events (zip (take (length before) calls) before)) call ≡ None →
    IsLegalFrom limits events content (zip calls replies) → ⊥
waits_excludes limits events content [] before replies call lock is n x waits y = cc
waits_excludes limits events content (k ∷ ks) before [] call lock is n x waits y = absurd (omega arith)
waits_excludes limits events content (k ∷ ks) [] (r ∷ rs) call lock is n x waits y =
    let same : k ≡ call = cc in
    none_of_transition (transition limits events k) r (ap (λ (c : Call). transition limits events c) same ∙ waits)
    (of_lock (is_lock_call k) _ _ lock.0 y.0)
waits_excludes limits events content (k ∷ ks) (b ∷ ys) (r ∷ rs) call lock is n x waits y =
    let later = events ++ appended_by (transition limits events k) in
    let same : b ≡ r = one_reply limits events content k b r lock.0 x.0 y.0 in
    let n' : length rs ≡ length ks = omega arith in
    waits_excludes limits later (content_next content k b) ks ys rs call lock.1 is n' x.1 waits
    (legal_after limits later content k b r ks rs same y.1)

front_of_lock : (n : ℕ) (calls : List Call) → AreOfLock calls → AreOfLock (take n calls)
front_of_lock zero calls lock = tt
front_of_lock (suc n) [] lock = tt
front_of_lock (suc n) (k ∷ ks) lock = (lock.0, front_of_lock n ks lock.1)

call_of_front : (i n : ℕ) (calls : List Call) → i < n → slice_get (take n calls) i ≡ slice_get calls i
call_of_front i zero calls below = absurd (omega arith)
call_of_front i (suc n) [] below = refl
call_of_front zero (suc n) (k ∷ ks) below = refl
call_of_front (suc i) (suc n) (k ∷ ks) below = call_of_front i n ks (omega arith)

front_of_front : (i n : ℕ) (calls : List Call) → i < n → take i (take n calls) ≡ take i calls
front_of_front zero n calls below = refl
front_of_front (suc i) zero calls below = absurd (omega arith)
front_of_front (suc i) (suc n) [] below = refl
front_of_front (suc i) (suc n) (k ∷ ks) below = ap (λ (cs : List Call). k ∷ cs) (front_of_front i n ks (omega arith))

-- the calls before one that waits have legal replies, and no further ones have
excluded : (limits : Bounds) (calls : List Call) (i : ℕ) (n : ℕ) (replies : List Reply) → AreOfLock calls → i < n →
    WaitsAt limits calls i → length replies ≡ length (take n calls) →
    IsLegal limits 0 (zip (take n calls) replies) → ⊥
excluded limits calls i n replies lock below w same legal =
    let front = take n calls in
    let is : slice_get front (length w.replies) ≡ Some w.call = rw (w.each, call_of_front i n calls below) w.is_call in
    let x : IsLegal limits 0 (zip (take (length w.replies) front) w.replies) =
    rw (w.each, front_of_front i n calls below) w.legal in
    let none : transition limits (events_of limits (zip (take (length w.replies) front) w.replies)) w.call ≡ None =
    rw (w.each, front_of_front i n calls below) w.waits in
    waits_excludes limits [] (zeros 0) front w.replies replies w.call (front_of_lock n calls lock) is same x none legal

earlier : (limits : Bounds) (calls : List Call) (i j : ℕ) → AreOfLock calls → WaitsAt limits calls i →
    WaitsAt limits calls j → i < j → ⊥
earlier limits calls i j lock w v below =
    let within = slice_get_within calls j v.call v.is_call in
    excluded limits calls i j v.replies lock below w (v.each ∙ sym (length-take-le j calls (omega arith))) v.legal

pub one_wait : (limits : Bounds) (calls : List Call) (i j : ℕ) → AreOfLock calls → WaitsAt limits calls i →
    WaitsAt limits calls j → i ≡ j
one_wait limits calls i j lock w v =
    let a : i < j → ⊥ = earlier limits calls i j lock w v in
    let b : j < i → ⊥ = earlier limits calls j i lock v w in
    omega arith

pub waits_or_replayed : (limits : Bounds) (calls : List Call) (i : ℕ) (replies : List Reply) (word : LockWord) →
    AreOfLock calls → WaitsAt limits calls i → IsReplayed limits calls replies word → ⊥
waits_or_replayed limits calls i replies word lock w done =
    let within = slice_get_within calls i w.call w.is_call in
    let whole : take (length calls) calls ≡ calls = take_all (length calls) calls (omega arith) in
    excluded limits calls i (length calls) replies lock within w (done.each ∙ sym (ap length whole))
    (rw whole done.legal)

pub one_replayed : (limits : Bounds) (calls : List Call) (xs ys : List Reply) (w v : LockWord) → AreOfLock calls →
    IsReplayed limits calls xs w → IsReplayed limits calls ys v → (xs ≡ ys) × (w.bits ≡ v.bits)
one_replayed limits calls xs ys w v lock x y =
    let same = one_replies limits [] (zeros 0) calls xs ys lock x.each y.each x.legal y.legal in (
      same,
      x.represented.spelled ∙ ap (λ (rs : List Reply). word_number (units limits)
          (counts (events_of limits (zip calls rs)))) same ∙ sym y.represented.spelled,
    )
