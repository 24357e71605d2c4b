use Rattle.std.proofs.Common.{◌≡◌}
use Rattle.cumulative.specs.Top.{top_of}
use Rattle.cumulative.proofs.Row.highest.Given as goal

abbrev pub invariant-loop-peak : goal.invariant-loop-peak
invariant-loop-peak l = l.top ≡ top_of l.self.peaks.now l.peak-index
