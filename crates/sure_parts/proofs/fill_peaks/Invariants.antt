-- The first k entries are there.
use Rattle.std.proofs.Common.{◌≡◌, ◌<◌, length, ℕ, get_or, pos}
use Rattle.sure_parts.specs.Table.{peak}
use Rattle.sure_parts.proofs.fill_peaks.Given as goal

abbrev pub invariant-loop-k : goal.invariant-loop-k
invariant-loop-k l = (length l.peaks ≡ length l.parts) × ((j : ℕ) → j < l.k → get_or l.peaks j (pos 0) ≡ peak l.parts (length l.parts) j)
