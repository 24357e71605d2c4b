-- The box so far has a place for each atom still to come, and they make of it what all of them make of the first box.
use Rattle.std.proofs.Common.{◌-◌, ◌≡◌, ◌*◌, ◌+◌, length}
use Rattle.domain.specs.Box.{variables}
use Rattle.boxes.specs.Boxes.{narrowed_each, Boxed}
use Rattle.boxes.proofs.narrow_each.Given as goal

abbrev pub invariant-loop-i : goal.invariant-loop-i
invariant-loop-i l = record {
  long : length l.cells ≡ length l.fn.cells;
  boxed : Boxed (variables l.fn.cells) (l.atoms.many - l.i) l.cells;
  same : narrowed_each l.log l.atoms.many l.atoms.from l.fn.cells ≡ narrowed_each l.log (l.atoms.many - l.i) (l.atoms.from + l.i * 3) l.cells;
}
