use Rattle.std.proofs.Common.{arith}
use Rattle.sure_parts.specs.Fill.{filled_of}
use Rattle.sure_parts.proofs.fill_parts.Goals as goal

pub returns : goal.returns
returns c = filled_of _ _ _ _ c.args.ready.ready.small c.requires.1 c.requires.0 (omega arith) (λ j h. c.loop-k.invariant j (omega arith))
