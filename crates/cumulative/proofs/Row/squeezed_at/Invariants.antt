use Rattle.std.proofs.Common.{◌+◌, ◌-◌}
use Rattle.words.specs.Int.{pp, nn}
use Rattle.reading.specs.At.{nat_at}
use Rattle.domain.specs.Box.{values}
use Rattle.cumulative.proofs.Search.{Searching}
use Rattle.cumulative.specs.Row.{activities, nobody}
use Rattle.cumulative.proofs.Row.squeezed_at.Given as goal

abbrev pub invariant-loop-s : goal.invariant-loop-s
invariant-loop-s l = Searching (values l.cells.words.now) (nat_at l.model (l.p + 1)) nobody (activities l.model l.p) l.i l.s

abbrev pub decreases-loop-s : goal.decreases-loop-s
decreases-loop-s l = pp l.last + nn l.s - (pp l.s + nn l.last)
