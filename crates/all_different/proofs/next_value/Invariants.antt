use Rattle.std.proofs.Common.{◌≡◌, drop}
use Rattle.std.specs.Prelude.{None}
use Rattle.domain.specs.Box.{values}
use Rattle.all_different.specs.Chosen.{numbers}
use Rattle.all_different.specs.Soonest.{soonest_of}
use Rattle.all_different.proofs.next_value.Given as goal

abbrev pub invariant-loop-x : goal.invariant-loop-x
invariant-loop-x l = soonest_of l.from (values l.cells.words.now) None (numbers l.xs) ≡ soonest_of l.from (values l.cells.words.now) l.best (numbers (drop l.x-index l.xs))
