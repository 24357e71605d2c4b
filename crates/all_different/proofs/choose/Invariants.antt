use Rattle.std.proofs.Common.{◌≡◌, ◌+◌, ◌≤◌, ◌++◌, length, take}
use Rattle.marks.specs.Marks.{marked}
use Rattle.reading.specs.At.{nat_at}
use Rattle.all_different.specs.Chosen.{numbers, chosen, to_come}
use Rattle.all_different.proofs.choose.Given as goal

abbrev pub invariant-loop-i : goal.invariant-loop-i
invariant-loop-i l =
    (l.count ≤ l.i) × (length l.room ≡ length l.fn.room) × (take l.count (numbers l.room) ++ to_come (marked l.occurring) (nat_at l.model l.p) l.model (l.p + 1) l.i ≡ chosen (marked l.occurring) (nat_at l.model l.p) l.model (l.p + 1))
