-- What is found is what the pairs before this one say.
use Rattle.std.proofs.Common.{take}
use Rattle.windows.specs.Window.{Window}
use Rattle.pairs.specs.Pairs.{among}
use Rattle.pairs.proofs.mask.Given as goal

abbrev pub invariant-loop-pair : goal.invariant-loop-pair
invariant-loop-pair l = Window (among (take l.pair-index l.pairs) l.name) l.base.first l.found
