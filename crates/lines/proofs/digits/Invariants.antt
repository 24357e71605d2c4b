use Rattle.std.proofs.Common.{length, ◌≤◌}
use Rattle.lines.proofs.digits.Given as goal

abbrev pub invariant-loop-d : goal.invariant-loop-d
invariant-loop-d l = l.size ≤ 4000000000

abbrev pub decreases-loop-d : goal.decreases-loop-d
decreases-loop-d l = length l.rest
