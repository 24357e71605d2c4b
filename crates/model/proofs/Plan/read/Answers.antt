use Rattle.model.specs.Planned.{Modelled, modelled}
use Rattle.model.proofs.Plan.read.Goals as goal
use Rattle.model.proofs.Plan.read.Goals.{In_ok-read_model}

-- the table was read as a model
read_well : (c : In_ok-read_model) → Modelled c.args.model.now
read_well c = modelled c.in_ok-read_model.ensures.read

pub of-requires-clause-read : goal.of-requires-clause-read
of-requires-clause-read c = read_well (goal.at.of-requires-clause-read c).In_ok-read_model

pub returns-clause-read : goal.returns-clause-read
returns-clause-read c = (c.of.ensures.0, read_well (goal.at.returns-clause-read c).In_ok-read_model)

pub returns-clause-noted : goal.returns-clause-noted
returns-clause-noted c = rw (c.of.ensures.1) c.read_model.ensures.noted
