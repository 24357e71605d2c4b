use Rattle.std.proofs.Common.{◌≡◌}
use Rattle.cumulative.specs.Steps.{last_bad}
use Rattle.cumulative.proofs.Row.last_bad.Given as goal

abbrev pub invariant-loop-k : goal.invariant-loop-k
invariant-loop-k l = (l.e ≡ last_bad l.self.parts.now l.self.peaks.now l.self.capacity l.i l.s l.stop l.k)
