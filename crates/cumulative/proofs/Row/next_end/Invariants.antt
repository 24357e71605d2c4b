use Rattle.std.proofs.Common.{◌≡◌, pos, ◌+ℤ◌}
use Rattle.sure_parts.specs.Table.{from_of}
use Rattle.cumulative.specs.Steps.{next_end}
use Rattle.cumulative.proofs.Row.next_end.Given as goal

abbrev pub invariant-loop-k : goal.invariant-loop-k
invariant-loop-k l = (l.u ≡ next_end l.self.parts.now l.i l.t (from_of l.self.parts.now l.i +ℤ pos 1) l.k)
