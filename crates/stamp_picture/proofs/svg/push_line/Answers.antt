use Rattle.std.proofs.Common.{◌∙◌, ◌++◌, ap, codes, List, ℕ, append_assoc}
use Rattle.stamp_picture.specs.Markup.{escaped, attribute_text}
use Rattle.stamp_picture.specs.Svg.{fitted}
use Rattle.stamp_picture.proofs.Appending.{onto}
use Rattle.stamp_picture.proofs.svg.push_line.Goals as goal

pub returns : goal.returns
returns c =
    let y = attribute_text (codes "y", c.args.y.now) in
    let w = c.args.width in
    let line = escaped (fitted w c.args.line.now) in
    let piece = c.in_ok-push_fitted.ensures ∙
    ap (λ (bytes : List ℕ). c.push_text-2.new.text.items ++ escaped (fitted w bytes)) c.as_bytes.ensures.value in
    onto _ (codes "<text x=\"4\"") (y ++ (codes ">" ++ (line ++ codes "</text>"))) c.in_ok-push_text.ensures
    (onto _ y (codes ">" ++ (line ++ codes "</text>")) c.in_ok-push_attribute.ensures
    (onto _ (codes ">") (line ++ codes "</text>") c.in_ok-push_text-2.ensures
    (onto _ line (codes "</text>") piece c.in_ok-push_text-3.ensures)))
    ∙ ap (λ (text : List ℕ). c.args.text.now.items ++ text) (simp append_assoc)
