use Rattle.reading.specs.Over.{goes_any, gives}
use Rattle.careful.proofs.kinds.never_below.Goals as goal

pub returns : goal.returns
returns c = goes_any c.in_ok-least.ensures _ (λ x. goes_any c.in_ok-cited.ensures _ (λ a. gives _ c.below-2.ensures))
