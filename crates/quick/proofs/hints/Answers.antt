use Rattle.std.proofs.Common.{rules, arith, ◌≡◌, ◌+◌, ◌*◌}
use Rattle.meaning.specs.Limits.{most_hints}
use Rattle.meaning.specs.Log.{number_below}
use Rattle.quick.specs.Ends.{counted_times}
use Rattle.quick.proofs.hints.Goals as goal

pub returns : goal.returns
returns c = counted_times (number_below c.args.k.n) most_hints 1 _ c.counted.ensures (λ p n h. let z : p + n * 1 ≡ p + n = omega arith in rw z (search rules))
