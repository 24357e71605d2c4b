use Rattle.std.proofs.Common.{◌≡◌, ◌≤◌, length, drop}
use Rattle.std.proofs.lemmas.List.Edits.{sets}
use Rattle.meaning.specs.Model.{row}
use Rattle.reading.specs.Over.{Turned}
use Rattle.model.specs.Starts.{row_starts, starts_left}
use Rattle.model.proofs.rows.rows.Given as goal

abbrev pub invariant-loop-start : goal.invariant-loop-start
invariant-loop-start l =
    Turned (row l.v.n) l.s l.from (length l.fn.starts) l.at l.start-index × (l.at ≤ length l.s)
    × (sets l.fn.starts 0 (row_starts l.v.n (length l.fn.starts) l.from (drop l.from l.s)) ≡ starts_left l.v.n l.s (length l.fn.starts) l.starts l.start-index l.at)
