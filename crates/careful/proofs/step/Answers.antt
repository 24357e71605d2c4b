use Rattle.reading.specs.Over.{counts}
use Rattle.careful.proofs.step.Goals as goal

pub returns : goal.returns
returns c = counts 11 12 1 4 c.in_ok-from.ensures c.number_at-kind.ensures _ c.of_kind.ensures
