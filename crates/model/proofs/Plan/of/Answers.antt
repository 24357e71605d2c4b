use Rattle.model.specs.Planned.{planned}
use Rattle.model.proofs.Plan.of.Goals as goal

pub invariant_of-result : goal.invariant_of-result
invariant_of-result c =
    let noted = c.requires.noted in record { planned = rw (noted.is, c.variables_of.ensures, c.rows_of.ensures) (planned noted.lent c.requires.read noted.room) }
