use Rattle.reading.specs.Over.{goes_any, gives}
use Rattle.careful.proofs.kinds.inference.Goals as goal

pub returns : goal.returns
returns c = goes_any c.in_ok-fact.ensures _ (λ r. gives _ c.fact.ensures)
