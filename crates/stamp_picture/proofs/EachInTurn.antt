-- Bars, moments and the opening, one entry more.
use Rattle.std.proofs.Common.{◌≡◌, ◌∙◌, ℕ, ◌+◌, ◌<◌, List, [], ◌∷◌, ◌++◌, Bool, true, false}
use Rattle.std.proofs.Common.{length, take, get_or, sym, ap}
use Rattle.std.proofs.Common.{arith, append_assoc}
use Rattle.std.specs.Prelude.{if◌then◌else◌}
use Rattle.std.proofs.lemmas.List.{take_more, append-nil, length-take}
use Rattle.std.specs.List.{All}
use Rattle.std.proofs.lemmas.List.Elements.{All-cons, All-nil, All-tail}
use Rattle.stamp_core.specs.Limits.{Bounds}
use Rattle.stamp_core.specs.Record.{EntrySuits}
use Rattle.stamp_core.specs.declared.entry.Entry.{Entry}
use Rattle.stamp_picture.specs.declared.bar.Bar.{Bar}
use Rattle.stamp_picture.specs.declared.state.State.{State}
use Rattle.stamp_picture.specs.declared.window.Window.{Window}
use Rattle.stamp_picture.specs.Window.{meets, contains, precedes}
use Rattle.stamp_picture.specs.Bars.{bar_of, bars_from, bars_of}
use Rattle.stamp_picture.specs.Moment.{moment_after, moments_from, moments_of, opening_from, opening_state}
use Rattle.stamp_picture.specs.Moment.{state_after}

pub taken_more : (xs : List Entry) (i : ℕ) (e : Entry) → i < length xs → e ≡ get_or xs i e →
    take (i + 1) xs ≡ take i xs ++ e ∷ []
taken_more xs i e lt is = take_more xs i e lt ∙ ap (λ (x : Entry). take i xs ++ x ∷ []) (sym is)

one_more : {X : Type 0} (b : Bool) (x : X) (whole first last : List X) → whole ≡ first ++ last →
    (if b then x ∷ whole else whole) ≡ (if b then x ∷ first else first) ++ last
one_more true x whole first last is = ap (λ (xs : _). x ∷ xs) is
one_more false x whole first last is = is

pub kept : {X : Type 0} (b : Bool) (x : X) (old new whole : List X) → whole ≡ old ++ (if b then x ∷ [] else []) →
    b ≡ true → new ≡ old ++ x ∷ [] → new ≡ whole
kept true x old new whole is on more = more ∙ sym is
kept false x old new whole is on more = cc

pub left_out : {X : Type 0} (b : Bool) (x : X) (old new whole : List X) → whole ≡ old ++ (if b then x ∷ [] else []) →
    b ≡ false → new ≡ old → new ≡ whole
left_out true x old new whole is off same = cc
left_out false x old new whole is off same = same ∙ sym (is ∙ append-nil old)

pub opened : (b : Bool) (state old new whole : State) → whole ≡ (if b then state else old) → b ≡ true → new ≡ state →
    new ≡ whole
opened true state old new whole is on same = same ∙ sym is
opened false state old new whole is on same = cc

pub unopened : (b : Bool) (state old new whole : State) → whole ≡ (if b then state else old) → b ≡ false → new ≡ old →
    new ≡ whole
unopened true state old new whole is off same = cc
unopened false state old new whole is off same = same ∙ sym is

bars_push : (w : Window) (n : ℕ) (xs : List Entry) (e : Entry) →
    bars_from w n (xs ++ e ∷ []) ≡ bars_from w n xs ++ bars_from w (n + length xs) (e ∷ [])
bars_push w n [] e = let same : n + 0 ≡ n = omega arith in
    ap (λ (k : ℕ). bars_from w k (e ∷ [])) (sym same)
bars_push w n (x ∷ xs) e =
    let same : n + 1 + length xs ≡ n + length (x ∷ xs) = omega arith in
    one_more (meets w x) (bar_of w n x) _ _ _
    (bars_push w (n + 1) xs e ∙ ap (λ (k : ℕ). bars_from w (n + 1) xs ++ bars_from w k (e ∷ [])) same)

pub bars_more : (w : Window) (xs : List Entry) (i : ℕ) (e : Entry) → i < length xs → e ≡ get_or xs i e →
    bars_of w (take (i + 1) xs) ≡ bars_of w (take i xs) ++ bars_from w i (e ∷ [])
bars_more w xs i e lt is =
    let few : 0 + length (take i xs) ≡ i = rw length-take (omega arith) in
    ap (λ (ys : List Entry). bars_of w ys) (taken_more xs i e lt is) ∙ bars_push w 0 (take i xs) e
    ∙ ap (λ (n : ℕ). bars_of w (take i xs) ++ bars_from w n (e ∷ [])) few

moments_push : (l : Bounds) (n : ℕ) (w : Window) (before xs : List Entry) (e : Entry) →
    moments_from l n w before (xs ++ e ∷ []) ≡
    moments_from l n w before xs ++ moments_from l n w (before ++ xs) (e ∷ [])
moments_push l n w before [] e = ap (λ (b : List Entry). moments_from l n w b (e ∷ [])) (sym (append-nil before))
moments_push l n w before (x ∷ xs) e =
    one_more (contains w x.point) (moment_after l n before x) _ _ _
    (moments_push l n w (before ++ x ∷ []) xs e
    ∙ ap (λ (b : List Entry). moments_from l n w (before ++ x ∷ []) xs ++ moments_from l n w b (e ∷ []))
    (append_assoc before (x ∷ []) xs))

pub moments_more : (l : Bounds) (n : ℕ) (w : Window) (xs : List Entry) (i : ℕ) (e : Entry) → i < length xs →
    e ≡ get_or xs i e → moments_of l n w (take (i + 1) xs) ≡
    moments_of l n w (take i xs) ++ moments_from l n w (take i xs) (e ∷ [])
moments_more l n w xs i e lt is =
    ap (λ (ys : List Entry). moments_of l n w ys) (taken_more xs i e lt is) ∙ moments_push l n w [] (take i xs) e

opening_push : (l : Bounds) (n : ℕ) (w : Window) (s : State) (before xs : List Entry) (e : Entry) →
    opening_from l n w s before (xs ++ e ∷ []) ≡
    opening_from l n w (opening_from l n w s before xs) (before ++ xs) (e ∷ [])
opening_push l n w s before [] e =
    ap (λ (b : List Entry). opening_from l n w s b (e ∷ [])) (sym (append-nil before))
opening_push l n w s before (x ∷ xs) e =
    let next = before ++ x ∷ [] in
    let later = if precedes x.point w then state_after l n next else s in
    opening_push l n w later next xs e
    ∙ ap (λ (b : List Entry). opening_from l n w (opening_from l n w later next xs) b (e ∷ []))
    (append_assoc before (x ∷ []) xs)

pub opening_more : (l : Bounds) (n : ℕ) (w : Window) (xs : List Entry) (i : ℕ) (e : Entry) → i < length xs →
    e ≡ get_or xs i e → opening_state l n w (take (i + 1) xs) ≡
    (if precedes e.point w then state_after l n (take (i + 1) xs) else opening_state l n w (take i xs))
opening_more l n w xs i e lt is =
    let more = taken_more xs i e lt is in
    ap (λ (ys : List Entry). opening_state l n w ys) more ∙ opening_push l n w (state_after l n []) [] (take i xs) e
    ∙ ap (λ (ys : List Entry). if precedes e.point w then state_after l n ys else opening_state l n w (take i xs))
    (sym more)

-- the lanes are those of a recorded history's threads
pub if_all : {X : Type 0} (P : X → Type 0) (b : Bool) (x : X) (xs : List X) → P x → All P xs →
    All P (if b then x ∷ xs else xs)
if_all P true x xs here all = All-cons P x xs here all
if_all P false x xs here all = all

pub few_lanes : (width : ℕ) (w : Window) (n : ℕ) (xs : List Entry) → All (EntrySuits width) xs →
    All (λ (b : Bar). b.lane < 64) (bars_from w n xs)
few_lanes width w n [] all = All-nil (λ (b : Bar). b.lane < 64)
few_lanes width w n (x ∷ xs) all =
    let first : EntrySuits width x = all 0 x (omega arith) in
    let rest : All (EntrySuits width) xs = All-tail (EntrySuits width) x xs all in
    if_all (λ (b : Bar). b.lane < 64) (meets w x) (bar_of w n x) (bars_from w (n + 1) xs) first.thread
    (few_lanes width w (n + 1) xs rest)
