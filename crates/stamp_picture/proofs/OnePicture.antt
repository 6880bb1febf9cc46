-- There is at most one picture.
use Rattle.std.proofs.Common.{◌≡◌, ◌∙◌, ℕ, ◌+◌, List, [], ◌∷◌, Bool, true, false, length, take, refl, sym, ap}
use Rattle.std.proofs.Common.{subst, arith, Some, None, Option, Result, Ok, Err}
use Rattle.std.specs.Prelude.{slice_get, count_by, if◌then◌else◌}
use Rattle.std.specs.Bool.{MatchBool}
use Rattle.std.proofs.lemmas.List.Sums.{sum_by-cons}
use Rattle.stamp_core.specs.Limits.{Bounds}
use Rattle.stamp_core.specs.LockEvent.{LockEvent}
use Rattle.stamp_core.specs.Call.{is_lock_call}
use Rattle.stamp_core.specs.Content.{RecordReplies}
use Rattle.stamp_core.specs.Transition.{Transition, transition}
use Rattle.stamp_core.specs.History.{Replies, events_of, content_after}
use Rattle.stamp_core.specs.Linearized.{history_of}
use Rattle.stamp_core.specs.Record.{Recorded}
use Rattle.stamp_core.specs.declared.call.Call.{Call}
use Rattle.stamp_core.specs.declared.call.Call.TheVariants.{Get, Put, PutIf}
use Rattle.stamp_core.specs.declared.entry.Entry.{Entry}
use Rattle.stamp_core.specs.declared.reply.Reply.{Reply}
use Rattle.stamp_check.specs.declared.checking.Bad.{Bad}
use Rattle.stamp_check.proofs.OneFault.{one_verdict}
use Rattle.stamp_picture.specs.declared.bar.Bar.{Bar}
use Rattle.stamp_picture.specs.declared.picture.Fault.{Fault}
use Rattle.stamp_picture.specs.declared.window.Window.{Window}
use Rattle.stamp_picture.specs.Window.{meets}
use Rattle.stamp_picture.specs.Bars.{bar_of, bars_from, bars_of}
use Rattle.stamp_picture.specs.Moment.{moments_of, opening_state}
use Rattle.stamp_picture.specs.Due.{DueAfter, IsReplyDue}
use Rattle.stamp_picture.specs.Picture.{Drawn, IsJudged, right_in, drawn_in}
use Rattle.stamp_picture.specs.PictureLaws.{OnePicture, CrowdedIsCounted}

same_replies : (t : Option Transition) (a b : Reply) → Replies t a → Replies t b → a ≡ b
same_replies None a b x y = absurd x
same_replies (Some t) a b x y = sym x ∙ y

same_held : (content : List ℕ) (call : Call) (a b : Reply) → RecordReplies content call a →
    RecordReplies content call b → a ≡ b
same_held content Get a b x y = x ∙ sym y
same_held content (Put words) a b x y = x ∙ sym y
same_held content (PutIf expected words) a b x y = x ∙ sym y
same_held content _ a b x y = absurd x

same_reply : (t : Option Transition) (content : List ℕ) (call : Call) (lock : Bool) (a b : Reply) →
    MatchBool lock (Replies t a) (RecordReplies content call a) →
    MatchBool lock (Replies t b) (RecordReplies content call b) → a ≡ b
same_reply t content call true a b x y = same_replies t a b x y
same_reply t content call false a b x y = same_held content call a b x y

no_wait : (t : Option Transition) (content : List ℕ) (call : Call) (lock : Bool) (a : Reply) → lock ≡ true → t ≡ None →
    ¬ MatchBool lock (Replies t a) (RecordReplies content call a)
no_wait None content call true a l n x = x
no_wait None content call false a l n x = cc
no_wait (Some t) content call lock a l n x = cc

one_due : (limits : Bounds) (events : List LockEvent) (content : List ℕ) (call : Call) (a b : Option Reply) →
    DueAfter limits events content call a → DueAfter limits events content call b → a ≡ b
one_due limits events content call None None x y = refl
one_due limits events content call None (Some b) x y =
    absurd (no_wait (transition limits events call) content call (is_lock_call call) b x.0 x.1 y)
one_due limits events content call (Some a) None x y =
    absurd (no_wait (transition limits events call) content call (is_lock_call call) a y.0 y.1 x)
one_due limits events content call (Some a) (Some b) x y =
    ap (λ (r : Reply). Some r) (same_reply (transition limits events call) content call (is_lock_call call) a b x y)

same_fault : (r : Recorded) (a b : Fault) → IsJudged r (Err a) → IsJudged r (Err b) → a ≡ b
same_fault r a b x y =
    let bads : Err a.bad ≡ Err b.bad = one_verdict r (Err a.bad) (Err b.bad) x.0 y.0 in
    let bad : a.bad ≡ b.bad = inner a.bad b.bad bads in
    let e = x.0.entry in
    let before = take a.bad.entry r.entries in
    let due_there = λ (i : ℕ). (e : Entry) → slice_get r.entries i ≡ Some e →
    (b.call ≡ e.call) × IsReplyDue r.limits r.width (take i r.entries) e.call b.due in
    let there : due_there a.bad.entry = subst (λ (k : Bad). due_there k.entry) (sym bad) y.1 in
    let one = x.1 e x.0.is_entry in
    let other = there e x.0.is_entry in
    both a b bad (one.0 ∙ sym other.0)
    (one_due r.limits (events_of r.limits (history_of before)) (content_after r.width (history_of before)) e.call
    a.due b.due one.1 other.1)
  where
    inner : (p q : Bad) → (let l : Result ℕ Bad = Err p in l) ≡ Err q → p ≡ q
    inner p q s = cc

    both : (p q : Fault) → p.bad ≡ q.bad → p.call ≡ q.call → p.due ≡ q.due → p ≡ q
    both p q s t u =
        let parts : record { bad = p.bad; call = p.call; due = p.due } ≡
        record { bad = q.bad; call = q.call; due = q.due } = cc in parts

one_judged : (r : Recorded) (a b : Result ℕ Fault) → IsJudged r a → IsJudged r b → a ≡ b
one_judged r (Ok n) (Ok m) x y = ap (λ (k : ℕ). Ok k) (x.1 ∙ sym y.1)
one_judged r (Ok n) (Err b) x y = let no : Ok n ≡ Err b.bad = one_verdict r (Ok n) (Err b.bad) x y.0 in cc
one_judged r (Err a) (Ok m) x y = let no : Err a.bad ≡ Ok m = one_verdict r (Err a.bad) (Ok m) x.0 y in cc
one_judged r (Err a) (Err b) x y = ap (λ (f : Fault). Err f) (same_fault r a b x y)

pub one_picture : OnePicture
one_picture r w a b x y =
    let same : a.verdict ≡ b.verdict = one_judged r a.verdict b.verdict x.judged y.judged in
    let right = λ (v : Result ℕ Fault). take (right_in v) r.entries in
    parts a b same
    (x.bars ∙ ap (λ (v : Result ℕ Fault). bars_of w (take (drawn_in v) r.entries)) same ∙ sym y.bars)
    (x.opening ∙ ap (λ (v : Result ℕ Fault). opening_state r.limits r.width w (right v)) same ∙ sym y.opening)
    (x.ribbon ∙ ap (λ (v : Result ℕ Fault). moments_of r.limits r.width w (right v)) same ∙ sym y.ribbon)
  where
    parts : (p q : Drawn) → p.verdict ≡ q.verdict → p.bars ≡ q.bars → p.opening ≡ q.opening → p.ribbon ≡ q.ribbon →
        p ≡ q
    parts p q v b o m =
        let is : record { verdict = p.verdict; bars = p.bars; opening = p.opening; ribbon = p.ribbon } ≡
        record { verdict = q.verdict; bars = q.bars; opening = q.opening; ribbon = q.ribbon } = cc in is

one_longer : (b : Bool) (x : Bar) (bars : List Bar) (n : ℕ) → length bars ≡ n →
    length (if b then x ∷ bars else bars) ≡ (if b then 1 else 0) + n
one_longer true x bars n is = omega arith
one_longer false x bars n is = omega arith

pub counted : (w : Window) (n : ℕ) (xs : List Entry) → length (bars_from w n xs) ≡ count_by (meets w) xs
counted w n [] = refl
counted w n (x ∷ xs) = one_longer (meets w x) (bar_of w n x) (bars_from w (n + 1) xs) (count_by (meets w) xs)
    (counted w (n + 1) xs) ∙ sym (sum_by-cons (λ (e : Entry). if meets w e then 1 else 0) x xs)

pub crowded_is_counted : CrowdedIsCounted
crowded_is_counted r w n p x y =
    let verdict : p.verdict ≡ x.verdict = one_judged r p.verdict x.verdict y.judged x.judged in
    ap (λ (bars : List Bar). length bars) y.bars ∙ counted w 0 (take (drawn_in p.verdict) r.entries)
    ∙ ap (λ (v : Result ℕ Fault). count_by (meets w) (take (drawn_in v) r.entries)) verdict ∙ sym x.counted
