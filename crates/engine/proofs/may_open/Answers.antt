use Rattle.engine.specs.Gate.{opens_so}
use Rattle.engine.proofs.may_open.Goals as goal

pub returns : goal.returns
returns c = let a = c.args in λ e. opens_so a.model.now a.log.now a.places.now _ c.dimpsyholt_check-a.result c.dimpsyholt_check-a.ensures (c.opens.ensures e)
