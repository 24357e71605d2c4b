use Rattle.std.proofs.Common.{◌≡◌, false}
use Rattle.meaning.specs.Below.{some_below}
use Rattle.domain.specs.Box.{values}
use Rattle.cumulative.specs.Row.{squeezes}
use Rattle.cumulative.proofs.Row.some_squeezed.Given as goal

abbrev pub invariant-loop-i : goal.invariant-loop-i
invariant-loop-i l = some_below (squeezes (values l.cells.words.now) l.model l.p) l.i ≡ false
