use Rattle.circuit.specs.Reach.{near_start, near_more}
use Rattle.circuit.proofs.Leads.reach_back.Goals as goal

pub loop-set-init : goal.loop-set-init
loop-set-init c = (near_start _ _ c.args.self.now.some, c.sweep_back-more.ensures)

pub loop-set-preserved : goal.loop-set-preserved
loop-set-preserved c = (near_more _ _ c.loop-set.invariant.0 c.loop-set.invariant.1, c.sweep_back-more-in-loop-set.ensures)
