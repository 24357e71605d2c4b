-- Filled so far: the rows below i.
use Rattle.std.proofs.Common.{◌≡◌, length}
use Rattle.meaning.specs.Limits.{most_parts}
use Rattle.domain.specs.Box.{values}
use Rattle.reading.specs.At.{nat_at, each_at}
use Rattle.circuit.specs.Reach.{names, Rows}
use Rattle.circuit.proofs.links_of.Given as goal

abbrev pub invariant-loop-i : goal.invariant-loop-i
invariant-loop-i l = (length l.table ≡ most_parts) × Rows (names (values l.cells.words.now) (each_at nat_at 1 l.n l.model l.p)) l.n l.i l.table
