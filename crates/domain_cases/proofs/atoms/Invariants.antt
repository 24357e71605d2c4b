use Rattle.domain.specs.Box.{Formed}
use Rattle.domain_cases.proofs.atoms.Given as goal

abbrev pub invariant-loop-w : goal.invariant-loop-w
invariant-loop-w l = Formed l.cells
