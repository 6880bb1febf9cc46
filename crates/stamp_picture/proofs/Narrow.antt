-- The lines of a picture in characters.
use Rattle.std.proofs.Common.{◌≡◌, ◌∙◌, ℕ, ◌≤◌, ◌<◌, ◌-◌, List, [], ◌∷◌, ◌++◌, length, map, take, sym, ap}
use Rattle.std.proofs.Common.{append_assoc, arith, Bool, true, false, refl, codes, length-append}
use Rattle.std.specs.Prelude.{nat_le, ◌==◌, if◌then◌else◌}
use Rattle.std.specs.List.{concat}
use Rattle.std.proofs.lemmas.List.{append-nil, length-take, map-append}
use Rattle.std.proofs.lemmas.List.Folds.{concat-append}
use Rattle.stamp_picture.specs.Markup.{escape, escaped}
use Rattle.stamp_picture.specs.Picture.{Drawn}
use Rattle.stamp_picture.specs.Labels.{shortened}
use Rattle.stamp_picture.specs.Rows.{row_text, cut_text, AreNarrow}
use Rattle.stamp_picture.specs.Rows.AreNarrow.{none, line}

-- the rows, and a last line behind them
pub rows_joined : (width : ℕ) (p : Drawn) (positions : List ℕ) (last : List ℕ) →
    concat (map (cut_text width) (map (row_text p) positions ++ last ∷ [])) ≡
    concat (map (λ (t : ℕ). cut_text width (row_text p t)) positions) ++ cut_text width last
rows_joined width p [] last = append-nil (cut_text width last)
rows_joined width p (t ∷ ts) last =
    ap (λ (rest : List ℕ). cut_text width (row_text p t) ++ rest) (rows_joined width p ts last)
    ∙ sym (append_assoc (cut_text width (row_text p t)) _ (cut_text width last))

short : (fits no_room : Bool) (width : ℕ) (row : List ℕ) → (fits ≡ true → length row ≤ width) →
    (no_room ≡ false → 0 < width) →
    length (if fits then row else if no_room then [] else take (width - 1) row ++ codes ">") ≤ width
short true no_room width row whole some = whole refl
short false true width row whole some = omega arith
short false false width row whole some = rw (length-append, length-take) (omega (arith, some refl))

few : (width : ℕ) (row : List ℕ) → length (shortened width row) ≤ width
few width row = short (nat_le (length row) width) (width == 0) width row (λ fits. grind (arith, fits))
    (λ some. grind (arith, some))

pub all_narrow : (width : ℕ) (rows : List (List ℕ)) → AreNarrow width (concat (map (cut_text width) rows))
all_narrow width [] = none
all_narrow width (row ∷ rows) = line (shortened width row) _ (few width row) (all_narrow width rows)

-- a line that is cut, as text
pub cut_escaped : (room : ℕ) (row : List ℕ) → nat_le (length row) room ≡ false → (room == 0) ≡ false →
    escaped (shortened room row) ≡ escaped (take (room - 1) row) ++ codes "&gt;"
cut_escaped room row long some =
    let kept = take (room - 1) row in
    ap (λ (fits : Bool). escaped (if fits then row else if room == 0 then [] else kept ++ codes ">")) long
    ∙ ap (λ (no_room : Bool). escaped (if no_room then [] else kept ++ codes ">")) some
    ∙ ap concat (map-append escape kept (codes ">")) ∙ concat-append (map escape kept) (map escape (codes ">"))
