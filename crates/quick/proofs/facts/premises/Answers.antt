use Rattle.std.proofs.Common.{rules}
use Rattle.meaning.specs.Limits.{most_premises}
use Rattle.meaning.specs.Log.{atom}
use Rattle.quick.specs.Ends.{counted_times}
use Rattle.quick.proofs.facts.premises.Goals as goal

pub returns : goal.returns
returns c = counted_times (atom c.args.v.n) most_premises 3 _ c.counted.ensures (λ p n h. search rules)
