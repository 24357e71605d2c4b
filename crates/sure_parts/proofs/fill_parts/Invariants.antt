-- The first k places are filled.
use Rattle.std.proofs.Common.{◌≡◌, ◌<◌, ℕ, ◌+◌, ◌*◌, get_or}
use Rattle.model.specs.Rows.{activity_at}
use Rattle.domain.specs.Box.{values}
use Rattle.sure_parts.specs.Table.{nothing}
use Rattle.sure_parts.specs.Parts.{part_of}
use Rattle.sure_parts.proofs.fill_parts.Given as goal

abbrev pub invariant-loop-k : goal.invariant-loop-k
invariant-loop-k l = (j : ℕ) → j < l.k → get_or l.parts j nothing ≡ part_of (values l.ready.cells.words.now) (activity_at l.model (l.q + j * 3))
