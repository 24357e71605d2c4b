use Rattle.std.proofs.Common.{arith}
use Rattle.windows.specs.Window.{stretch_fits}
use Rattle.windows.proofs.stretch.Goals as goal

pub returns : goal.returns
returns c = rw c.ones.ensures (stretch_fits c.args.from c.args.to (omega arith) (omega arith))
