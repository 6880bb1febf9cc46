use Rattle.std.proofs.Common.{rules}
use Rattle.stamped_value.proofs.Taking.{allows_release}
use Rattle.stamped_value.proofs.steps.take_reader.Goals as goal

pub fetch_sub-requires : goal.fetch_sub-requires
fetch_sub-requires g c = (
  search rules,
  rw (c.requires.step.0, c.requires.step.1)
      (allows_release _ c.requires.in_range _ _ _ c.requires.held c.requires.hold),
)
