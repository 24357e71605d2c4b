use Rattle.reading.specs.Over.{goes_any, gives}
use Rattle.careful.proofs.facts.atom.Goals as goal

pub returns : goal.returns
returns c = goes_any c.in_ok-relation.ensures _ (λ x. goes_any c.in_ok-value.ensures _ (λ r. gives _ c.within.ensures))
