use Rattle.std.proofs.Common.{◌-◌, ◌≤◌}
use Rattle.std.specs.Prelude.{ℕ, Result}
use Rattle.reading.specs.Turns.{Turns}
use Rattle.reading.specs.declared.refusals.Refusal.{Refusal}
use Rattle.reading.proofs.times.Given as goal

abbrev pub invariant-loop : goal.invariant-loop
invariant-loop g l = (l.counter ≤ l.n) × ((p : Result ℕ Refusal) → Turns (goal.F-post g l.one) (l.n - l.counter) l.at p → Turns (goal.F-post g l.one) l.n l.from p)
