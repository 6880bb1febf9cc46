use Rattle.std.proofs.Common.{◌∙◌, ap, codes}
use Rattle.std.specs.Prelude.{Option}
use Rattle.std.specs.Option.{option_map_or}
use Rattle.stamp_picture.specs.declared.bar.Bar.{Bar}
use Rattle.stamp_picture.specs.Rows.{sign_text}
use Rattle.stamp_picture.proofs.rows.lane_sign.Goals as goal

pub returns-in-Some : goal.returns-in-Some
returns-in-Some c =
    c.sign.ensures
    ∙ ap (λ (o : Option Bar). option_map_or (sign_text c.args.verdict.now c.args.position) o (codes "   "))
    c.in-Some.ensures

pub returns-in-None : goal.returns-in-None
returns-in-None c =
    ap (λ (o : Option Bar). option_map_or (sign_text c.args.verdict.now c.args.position) o (codes "   "))
    c.in-None.ensures
