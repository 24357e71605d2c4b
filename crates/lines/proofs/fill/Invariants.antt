use Rattle.std.proofs.Common.{length, ◌≤◌}
use Rattle.lines.proofs.fill.Given as goal

abbrev pub invariant-loop-value : goal.invariant-loop-value
invariant-loop-value l = l.n ≤ length l.words

abbrev pub decreases-loop-value : goal.decreases-loop-value
decreases-loop-value l = length l.rest
