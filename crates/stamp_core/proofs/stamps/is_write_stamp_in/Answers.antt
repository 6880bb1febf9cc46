use Rattle.stamp_core.proofs.WordNumbers.{write_kind}
use Rattle.stamp_core.proofs.stamps.is_write_stamp_in.Goals as goal

pub returns-in_default : goal.returns-in_default
returns-in_default c = (
  λ h. cc,
  λ s. let p =
      write_kind c.args.layout c.args.stamp s.0 c.stamp_kind_in.result c.stamp_kind_in.ensures s.1 in
      absurd (c.in_default.not-Write p.0 p.1),
)
