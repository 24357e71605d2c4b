use Rattle.std.proofs.Common.{◌≡◌, ◌==◌, ◌<◌, ℕ, false, slice_index_or}
use Rattle.lines.proofs.find.Given as goal

-- No byte before this place is the one that is looked for.
abbrev pub invariant-loop-at : goal.invariant-loop-at
invariant-loop-at l = (k : ℕ) → k < l.at → (slice_index_or l.text k 0 == l.byte) ≡ false
