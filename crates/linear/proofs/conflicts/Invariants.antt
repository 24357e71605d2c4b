use Rattle.std.proofs.Common.{◌≡◌, ◌+◌, ◌*◌, ◌≤◌, ◌+ℤ◌, nat_abs}
use Rattle.reading.specs.At.{nat_at}
use Rattle.domain.specs.Box.{values}
use Rattle.linear.specs.Sum.{most_term, whole, rest}
use Rattle.linear.proofs.conflicts.Given as goal

abbrev pub invariant-loop-i : goal.invariant-loop-i
invariant-loop-i l =
    (nat_abs l.sum ≤ l.i * most_term) × (whole (values l.ready.cells.words.now) (nat_at l.model l.p) l.model (l.p + 2) ≡ l.sum +ℤ rest (values l.ready.cells.words.now) (nat_at l.model l.p) l.model (l.p + 2) l.i)
