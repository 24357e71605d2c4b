use Rattle.std.proofs.Common.{◌≡◌, length}
use Rattle.narrowing.specs.Load.{copied}
use Rattle.narrowing.proofs.load.Given as goal

-- the words before k are copied
abbrev pub invariant-loop-k : goal.invariant-loop-k
invariant-loop-k l = (length l.cells ≡ length l.initial.cells) × (l.cells ≡ copied l.words l.at l.k l.initial.cells)
