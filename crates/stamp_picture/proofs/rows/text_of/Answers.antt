use Rattle.std.proofs.Common.{◌∙◌, ◌++◌, List, ℕ, sym, ap, map, subst}
use Rattle.std.specs.Prelude.{Result}
use Rattle.std.specs.List.{concat}
use Rattle.stamp_picture.specs.declared.bar.Bar.{Bar}
use Rattle.stamp_picture.specs.declared.picture.Fault.{Fault}
use Rattle.stamp_picture.specs.declared.state.State.{State}
use Rattle.stamp_picture.specs.Frames.{ArePositionsInOrder, lanes_in}
use Rattle.stamp_picture.specs.Labels.{verdict_text}
use Rattle.stamp_picture.specs.Rows.{row_text, cut_text, legend_text, at_first_text, heading_text, lines_of}
use Rattle.stamp_picture.specs.Rows.{AreNarrow}
use Rattle.stamp_picture.proofs.Appending.{onto}
use Rattle.stamp_picture.proofs.Narrow.{rows_joined, all_narrow}
use Rattle.stamp_picture.proofs.rows.text_of.Goals as goal

pub returns-clause-rows : goal.returns-clause-rows
returns-clause-rows c =
    let p = c.args.picture.now in
    let w = c.args.width in
    let positions = c.in_ok-positions.positions.items in
    let legend = cut_text w legend_text in
    let first = cut_text w (at_first_text p.opening) in
    let heading = cut_text w (heading_text (lanes_in p.bars)) in
    let rows = concat (map (λ (t : ℕ). cut_text w (row_text p t)) positions) in
    let last = cut_text w (verdict_text p.verdict) in
    let first_is = c.as_bytes-2.ensures.value ∙ c.in_ok-first.ensures
    ∙ ap (λ (s : State). at_first_text s) c.opening.ensures in
    let heading_is = c.deref.ensures.value ∙ c.in_ok-heading.ensures
    ∙ ap (λ (n : ℕ). heading_text n)
    (c.lanes_in.ensures.is ∙ ap (λ (bars : List Bar). lanes_in bars) c.bars.ensures) in
    let last_is = c.as_bytes-3.ensures.value ∙ c.in_ok-verdict.ensures.ok
    ∙ ap (λ (v : Result ℕ Fault). verdict_text v) c.verdict.ensures in
    record {
      positions = positions;
      are_in_order = subst (λ (bars : List Bar). ArePositionsInOrder bars positions) c.bars-2.ensures
          c.in_ok-positions.ensures.is;
      is =
          onto _ legend (first ++ (heading ++ (rows ++ last)))
          (rw c.as_bytes.ensures.value at c.in_ok-push_line.ensures)
          (onto _ first (heading ++ (rows ++ last)) (rw first_is at c.in_ok-push_line-2.ensures)
          (onto _ heading (rows ++ last) (rw heading_is at c.in_ok-push_line-3.ensures)
          (onto _ rows last (rw c.deref-2.ensures.value at c.in_ok-push_rows.ensures)
          (rw last_is at c.in_ok-push_line-4.ensures))))
          ∙ ap (λ (text : List ℕ). text ++ (legend ++ (first ++ (heading ++ (rows ++ last))))) c.new-text.ensures.items
          ∙ ap (λ (rest : List ℕ). legend ++ (first ++ (heading ++ rest)))
          (sym (rows_joined w p positions (verdict_text p.verdict)));
    }

pub returns-clause-narrow : goal.returns-clause-narrow
unfolding returns-clause-rows
returns-clause-narrow c =
    let p = c.args.picture.now in
    let w = c.args.width in
    subst (λ (text : List ℕ). AreNarrow w text) (sym (returns-clause-rows c).is)
    (all_narrow w (lines_of p c.in_ok-positions.positions.items))
