use Rattle.std.proofs.Common.{arith}
use Rattle.windows.specs.Window.{ones_high}
use Rattle.windows.proofs.ones.Goals as goal

pub returns : goal.returns
returns c = ones_high c.args.n (omega arith)
