use Rattle.engine.specs.Gate.{begins_so}
use Rattle.engine.proofs.step_start.Goals as goal

pub returns : goal.returns
returns c = let a = c.args in begins_so a.model.now a.log.now a.places.now _ c.dimpsyholt_check-a.result c.dimpsyholt_check-a.ensures a.k c.place_of.result c.place_of.ensures
