use Rattle.quick.specs.Ends.{fact_ends}
use Rattle.quick.proofs.facts.fact.Goals as goal

pub returns : goal.returns
returns c = fact_ends c.args.v.n _ c.in_ok-end.ensures c.consequent.ensures
