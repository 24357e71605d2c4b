use Rattle.engine.specs.Gate.{early_so}
use Rattle.engine.proofs.refused_unread.Goals as goal

pub returns : goal.returns
returns c = let a = c.args in λ e. early_so a.model.now a.log.now a.places.now _ c.dimpsyholt_check-a.result c.dimpsyholt_check-a.ensures (c.is_early.ensures e)
