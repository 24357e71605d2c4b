use Rattle.circuit.specs.Trap.{tells_ahead, tells_back}
use Rattle.circuit.proofs.Leads.splits.Goals as goal

pub returns-then-reach-all : goal.returns-then-reach-all
returns-then-reach-all c = tells_ahead _ _ c.args.self.now.some c.all_below-all.ensures c.reach.ensures c.if-reach-all.true

pub returns : goal.returns
returns c = tells_back _ _ c.args.self.now.some c.all_below-all.ensures c.reach.ensures c.if-reach-all.false c.reach_back.ensures
