use Rattle.domain.specs.Box.{values}
use Rattle.all_different.specs.Chosen.{numbers}
use Rattle.all_different.specs.Crowded.{SoFar}
use Rattle.all_different.proofs.crowded.Given as goal

abbrev pub invariant-loop : goal.invariant-loop
invariant-loop l = SoFar (values l.ready.cells.words.now) (numbers l.xs) l.from l.index
