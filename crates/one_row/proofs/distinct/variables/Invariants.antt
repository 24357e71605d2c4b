use Rattle.one_row.specs.Fresh.{Fresh}
use Rattle.one_row.proofs.distinct.variables.Given as goal

abbrev pub invariant-loop : goal.invariant-loop
invariant-loop l = Fresh l.v.n l.s l.from l.n l.at l.counter
