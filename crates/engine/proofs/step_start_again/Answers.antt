use Rattle.engine.specs.Gate.{begins_again_so}
use Rattle.engine.proofs.step_start_again.Goals as goal

pub returns : goal.returns
returns c = let a = c.args in begins_again_so a.old.now a.new.now a.log.now a.places.now _ c.dimpsyholt_recheck-a.result c.dimpsyholt_recheck-a.ensures a.k c.place_of.result c.place_of.ensures
