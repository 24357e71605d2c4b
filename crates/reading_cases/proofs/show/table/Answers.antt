use Rattle.model.specs.Planned.{modelled}
use Rattle.reading_cases.proofs.show.table.Goals as goal

pub of-requires-clause-read : goal.of-requires-clause-read
of-requires-clause-read g c = modelled c.in-Ok.ensures.read
