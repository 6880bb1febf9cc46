-- Ends, lanes and boxes, one more.
use Rattle.std.proofs.Common.{◌≡◌, ◌∙◌, ℕ, zero, suc, ◌+◌, ◌*◌, ◌<◌, ◌≤◌, List, [], length-append}
use Rattle.std.proofs.Common.{◌∷◌, ◌++◌, length, map, take, drop, get_or, sym, ap}
use Rattle.std.proofs.Common.{arith, append_assoc, Bool, true, false, add-one, drop-cons}
use Rattle.std.specs.Prelude.{if◌then◌else◌, max, Option}
use Rattle.std.specs.List.{filter, range_with_len}
use Rattle.std.proofs.lemmas.List.{take_more, map_more, map_push, map-append, append-nil}
use Rattle.std.proofs.Math.Bool.{cond}
use Rattle.std.proofs.lemmas.List.Elements.{filter_more, filter-append}
use Rattle.std.proofs.lemmas.List.FromFn.{map-range_with_len_more}
use Rattle.stamp_picture.specs.declared.bar.Bar.{Bar}
use Rattle.stamp_picture.specs.declared.state.State.{State}
use Rattle.stamp_picture.specs.declared.state.Moment.{Moment}
use Rattle.stamp_picture.specs.declared.sheet.LabelledBox.{LabelledBox}
use Rattle.stamp_picture.specs.Frames.{positions_in, positions_of, lanes_in, point_x}
use Rattle.stamp_picture.specs.Sheet.{Box, box_of, boxes_of, point_box, point_boxes, same_content}
use Rattle.stamp_picture.specs.Sheet.{state_box, ribbon_boxes, content_box, held_boxes}

positions_push : (xs : List Bar) (b : Bar) → positions_of (xs ++ b ∷ []) ≡ positions_of xs ++ positions_in b
positions_push [] b = append-nil (positions_in b)
positions_push (x ∷ xs) b = ap (λ (positions : List ℕ). positions_in x ++ positions) (positions_push xs b)
    ∙ sym (append_assoc (positions_in x) (positions_of xs) (positions_in b))

pub positions_more : (xs : List Bar) (i : ℕ) (b : Bar) → i < length xs → b ≡ get_or xs i b →
    positions_of (take (i + 1) xs) ≡ positions_of (take i xs) ++ positions_in b
positions_more xs i b lt is = ap (λ (ys : List Bar). positions_of ys) (take_more xs i b lt) ∙
    ap (λ (x : Bar). positions_of (take i xs ++ x ∷ [])) (sym is) ∙ positions_push (take i xs) b

few_positions : (b : Bool) (x y z : ℕ) → length (x ∷ (if b then y ∷ z ∷ [] else z ∷ [])) ≤ 3
few_positions true x y z = omega arith
few_positions false x y z = omega arith

pub three_positions : (xs : List Bar) → length (positions_of xs) ≤ 3 * length xs
three_positions [] = omega arith
three_positions (x ∷ xs) = rw length-append
    (omega (arith, few_positions x.point_shown x.begin x.point x.end, three_positions xs))

-- the positions of a bar whose point is shown, and of one whose point is not
pub shown_positions : (b : Bar) (old new : List ℕ) → b.point_shown ≡ true →
    new ≡ ((old ++ b.begin ∷ []) ++ b.point ∷ []) ++ b.end ∷ [] → new ≡ old ++ positions_in b
shown_positions b old new on is = is ∙ append_assoc (old ++ b.begin ∷ []) (b.point ∷ []) (b.end ∷ [])
    ∙ append_assoc old (b.begin ∷ []) (b.point ∷ b.end ∷ [])
    ∙ ap (λ (m : Bool). old ++ b.begin ∷ (if m then b.point ∷ b.end ∷ [] else b.end ∷ [])) (sym on)

pub unshown_positions : (b : Bar) (old new : List ℕ) → b.point_shown ≡ false →
    new ≡ (old ++ b.begin ∷ []) ++ b.end ∷ [] → new ≡ old ++ positions_in b
unshown_positions b old new off is = is ∙ append_assoc old (b.begin ∷ []) (b.end ∷ [])
    ∙ ap (λ (m : Bool). old ++ b.begin ∷ (if m then b.point ∷ b.end ∷ [] else b.end ∷ [])) (sym off)

lanes_push : (xs : List Bar) (b : Bar) → lanes_in (xs ++ b ∷ []) ≡ max (lanes_in xs) (b.lane + 1)
lanes_push [] b = omega arith
lanes_push (x ∷ xs) b = omega (arith, lanes_push xs b)

pub lanes_more : (xs : List Bar) (i : ℕ) (b : Bar) → i < length xs → b ≡ get_or xs i b →
    lanes_in (take (i + 1) xs) ≡ max (lanes_in (take i xs)) (b.lane + 1)
lanes_more xs i b lt is = ap (λ (ys : List Bar). lanes_in ys) (take_more xs i b lt) ∙
    ap (λ (x : Bar). lanes_in (take i xs ++ x ∷ [])) (sym is) ∙ lanes_push (take i xs) b

-- one box more, as that of its item
pub boxed_more : {X : Type 0} (box : X → Box) (xs : List X) (i : ℕ) (x : X) (old new : List LabelledBox)
    (labelled : LabelledBox) (front : List Box) →
    i < length xs → x ≡ get_or xs i x → boxes_of old ≡ front ++ map box (take i xs) →
    new ≡ old ++ labelled ∷ [] → box_of labelled ≡ box x →
    boxes_of new ≡ front ++ map box (take (i + 1) xs)
boxed_more {X} box xs i x old new labelled front lt is before more at =
    let first = map box (take i xs) in
    ap (λ (s : List LabelledBox). boxes_of s) more ∙ map_push box_of old labelled
    ∙ ap (λ (bs : List Box). bs ++ box_of labelled ∷ []) before
    ∙ ap (λ (b : Box). (front ++ first) ++ b ∷ []) (at ∙ ap box is)
    ∙ append_assoc front first (box (get_or xs i x) ∷ [])
    ∙ ap (λ (bs : List Box). front ++ bs) (sym (map_more box xs i x lt))

-- one bar more, whose point is shown or not
abbrev one_point : List ℕ → Bool → Bar → List Box
one_point positions shown b = map (point_box positions) (cond shown (b ∷ []) [])

points_more : (positions : List ℕ) (xs : List Bar) (i : ℕ) (b : Bar) → i < length xs → b ≡ get_or xs i b →
    point_boxes positions (take (i + 1) xs) ≡ point_boxes positions (take i xs) ++ one_point positions b.point_shown b
points_more positions xs i b lt is =
    ap (λ (bars : List Bar). map (point_box positions) bars) (filter_more (λ (x : Bar). x.point_shown) xs i b lt)
    ∙ map-append (point_box positions) (filter (λ (x : Bar). x.point_shown) (take i xs)) _
    ∙ ap (λ (x : Bar). point_boxes positions (take i xs) ++ one_point positions x.point_shown x) (sym is)

pub shown_more : (positions : List ℕ) (xs : List Bar) (i : ℕ) (b : Bar) (old new : List LabelledBox)
    (labelled : LabelledBox) →
    i < length xs → b ≡ get_or xs i b → b.point_shown ≡ true → boxes_of old ≡ point_boxes positions (take i xs) →
    new ≡ old ++ labelled ∷ [] → box_of labelled ≡ point_box positions b →
    boxes_of new ≡ point_boxes positions (take (i + 1) xs)
shown_more positions xs i b old new labelled lt is on before more at =
    ap (λ (s : List LabelledBox). boxes_of s) more ∙ map_push box_of old labelled
    ∙ ap (λ (bs : List Box). bs ++ box_of labelled ∷ []) before
    ∙ ap (λ (x : Box). point_boxes positions (take i xs) ++ x ∷ []) at
    ∙ ap (λ (m : Bool). point_boxes positions (take i xs) ++ one_point positions m b) (sym on)
    ∙ sym (points_more positions xs i b lt is)

pub unshown_more : (positions : List ℕ) (xs : List Bar) (i : ℕ) (b : Bar) (old new : List LabelledBox) →
    i < length xs → b ≡ get_or xs i b → b.point_shown ≡ false → boxes_of old ≡ point_boxes positions (take i xs) →
    new ≡ old → boxes_of new ≡ point_boxes positions (take (i + 1) xs)
unshown_more positions xs i b old new lt is off before same =
    ap (λ (s : List LabelledBox). boxes_of s) same ∙ before ∙ sym (append-nil (point_boxes positions (take i xs)))
    ∙ ap (λ (m : Bool). point_boxes positions (take i xs) ++ one_point positions m b) (sym off)
    ∙ sym (points_more positions xs i b lt is)

-- one lane more
pub laned_more : (box : ℕ → Box) (n : ℕ) (old new : List LabelledBox) (labelled : LabelledBox) →
    boxes_of old ≡ map box (range_with_len 0 n) → new ≡ old ++ labelled ∷ [] → box_of labelled ≡ box n →
    boxes_of new ≡ map box (range_with_len 0 (n + 1))
laned_more box n old new labelled before more at =
    ap (λ (s : List LabelledBox). boxes_of s) more ∙ map_push box_of old labelled
    ∙ ap (λ (bs : List Box). bs ++ box_of labelled ∷ []) before
    ∙ ap (λ (b : Box). map box (range_with_len 0 n) ++ b ∷ []) at
    ∙ sym (map-range_with_len_more box 0 n n (omega arith))

-- one box more, which begins what is left
boxed_first : (old new : List LabelledBox) (labelled : LabelledBox) (box : Box) (left rest all : List Box) →
    new ≡ old ++ labelled ∷ [] → box_of labelled ≡ box → left ≡ box ∷ rest → boxes_of old ++ left ≡ all →
    boxes_of new ++ rest ≡ all
boxed_first old new labelled box left rest all more at is before =
    ap (λ (s : List LabelledBox). boxes_of s ++ rest) more
    ∙ ap (λ (bs : List Box). bs ++ rest) (map_push box_of old labelled)
    ∙ append_assoc (boxes_of old) (box_of labelled ∷ []) rest
    ∙ ap (λ (b : Box). boxes_of old ++ (b ∷ rest)) at ∙ ap (λ (bs : List Box). boxes_of old ++ bs) (sym is) ∙ before

first_left : (write : List Moment → List Box) (ms : List Moment) (i : ℕ) (m : Moment) →
    i < length ms → m ≡ get_or ms i m → write (drop i ms) ≡ write (m ∷ drop (i + 1) ms)
first_left write ms i m lt is =
    ap write (drop-cons ms i m lt ∙ ap (λ (n : ℕ). get_or ms i m ∷ drop n ms) (sym (add-one i)))
    ∙ ap (λ (x : Moment). write (x ∷ drop (i + 1) ms)) (sym is)

-- a state ended at one moment more
pub ribbon_more : (positions : List ℕ) (x : ℕ) (s : State) (ms : List Moment) (i : ℕ) (m : Moment)
    (old new : List LabelledBox) (labelled : LabelledBox) (all : List Box) →
    i < length ms → m ≡ get_or ms i m → new ≡ old ++ labelled ∷ [] →
    box_of labelled ≡ state_box x (point_x positions m.point) s →
    boxes_of old ++ ribbon_boxes positions x s (drop i ms) ≡ all →
    boxes_of new ++ ribbon_boxes positions (point_x positions m.point) m.state (drop (i + 1) ms) ≡ all
ribbon_more positions x s ms i m old new labelled all lt is more at before =
    boxed_first old new labelled _ _ _ all more at (first_left (ribbon_boxes positions x s) ms i m lt is) before

chosen : (b : Bool) (x y : List Box) → b ≡ true → (if b then x else y) ≡ x
chosen b x y is = ap (λ (c : Bool). if c then x else y) is

refused : (b : Bool) (x y : List Box) → b ≡ false → (if b then x else y) ≡ y
refused b x y is = ap (λ (c : Bool). if c then x else y) is

-- the content stayed the same at one moment more
pub kept_more : (positions : List ℕ) (x : ℕ) (held : Option (List ℕ)) (ms : List Moment) (i : ℕ) (m : Moment)
    (old all : List Box) →
    i < length ms → m ≡ get_or ms i m → same_content held m.state.content ≡ true →
    old ++ held_boxes positions x held (drop i ms) ≡ all → old ++ held_boxes positions x held (drop (i + 1) ms) ≡ all
kept_more positions x held ms i m old all lt is same before =
    ap (λ (bs : List Box). old ++ bs) (sym (first_left (held_boxes positions x held) ms i m lt is
    ∙ chosen (same_content held m.state.content) _ _ same)) ∙ before

-- it changed
pub changed_more : (positions : List ℕ) (x : ℕ) (held : Option (List ℕ)) (ms : List Moment) (i : ℕ) (m : Moment)
    (old new : List LabelledBox) (labelled : LabelledBox) (all : List Box) →
    i < length ms → m ≡ get_or ms i m → same_content held m.state.content ≡ false →
    new ≡ old ++ labelled ∷ [] → box_of labelled ≡ content_box x (point_x positions m.point) held →
    boxes_of old ++ held_boxes positions x held (drop i ms) ≡ all →
    boxes_of new ++ held_boxes positions (point_x positions m.point) m.state.content (drop (i + 1) ms) ≡ all
changed_more positions x held ms i m old new labelled all lt is same more at before =
    boxed_first old new labelled _ _ _ all more at (first_left (held_boxes positions x held) ms i m lt is
    ∙ refused (same_content held m.state.content) _ _ same) before

-- one column more, which the axis names or not
last_column : (a n j : ℕ) → a + n ≡ j → range_with_len a (suc n) ≡ range_with_len a n ++ j ∷ []
last_column a zero j e = let same : a ≡ j = omega arith in ap (λ (k : ℕ). k ∷ []) same
last_column a (suc n) j e = ap (λ (l : List ℕ). a ∷ l) (last_column (a + 1) n j (omega arith))

abbrev pub named : (ℕ → Bool) → (ℕ → Box) → ℕ → List Box
named is_named box n = map box (filter is_named (range_with_len 0 n))

columns_more : (is_named : ℕ → Bool) (box : ℕ → Box) (n : ℕ) →
    named is_named box (n + 1) ≡ named is_named box n ++ map box (cond (is_named n) (n ∷ []) [])
columns_more is_named box n =
    ap (λ (k : ℕ). named is_named box k) (add-one n)
    ∙ ap (λ (columns : List ℕ). map box (filter is_named columns)) (last_column 0 n n (omega arith))
    ∙ ap (λ (columns : List ℕ). map box columns) (filter-append is_named (range_with_len 0 n) (n ∷ []))
    ∙ map-append box (filter is_named (range_with_len 0 n)) _

pub named_more : (is_named : ℕ → Bool) (box : ℕ → Box) (n : ℕ) (old new : List LabelledBox) (labelled : LabelledBox) →
    is_named n ≡ true → boxes_of old ≡ named is_named box n → new ≡ old ++ labelled ∷ [] → box_of labelled ≡ box n →
    boxes_of new ≡ named is_named box (n + 1)
named_more is_named box n old new labelled on before more at =
    ap (λ (s : List LabelledBox). boxes_of s) more ∙ map_push box_of old labelled
    ∙ ap (λ (bs : List Box). bs ++ box_of labelled ∷ []) before
    ∙ ap (λ (b : Box). named is_named box n ++ b ∷ []) at
    ∙ ap (λ (m : Bool). named is_named box n ++ map box (cond m (n ∷ []) [])) (sym on)
    ∙ sym (columns_more is_named box n)

pub unnamed_more : (is_named : ℕ → Bool) (box : ℕ → Box) (n : ℕ) (old new : List LabelledBox) →
    is_named n ≡ false → boxes_of old ≡ named is_named box n → new ≡ old →
    boxes_of new ≡ named is_named box (n + 1)
unnamed_more is_named box n old new off before same =
    ap (λ (s : List LabelledBox). boxes_of s) same ∙ before ∙ sym (append-nil (named is_named box n))
    ∙ ap (λ (m : Bool). named is_named box n ++ map box (cond m (n ∷ []) [])) (sym off)
    ∙ sym (columns_more is_named box n)
