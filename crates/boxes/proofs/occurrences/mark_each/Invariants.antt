-- What is marked so far and the atoms still to come give what all of them give.
use Rattle.std.proofs.Common.{◌-◌, ◌≡◌, ◌*◌, ◌+◌, length}
use Rattle.boxes.specs.Occurrences.{marked_each}
use Rattle.boxes.proofs.occurrences.mark_each.Given as goal

abbrev pub invariant-loop-i : goal.invariant-loop-i
invariant-loop-i l = record {
  long : length l.set ≡ length l.fn.set;
  same : marked_each l.log l.atoms.many l.atoms.from l.fn.set ≡ marked_each l.log (l.atoms.many - l.i) (l.atoms.from + l.i * 3) l.set;
}
