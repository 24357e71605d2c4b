-- What is found is what the pairs before this one say.
use Rattle.std.proofs.Common.{◌≡◌, take}
use Rattle.pairs.specs.Pairs.{among}
use Rattle.pairs.proofs.in_eight.Given as goal

abbrev pub invariant-loop-pair : goal.invariant-loop-pair
invariant-loop-pair l = l.found ≡ among (take l.pair-index l.block) l.name l.value
