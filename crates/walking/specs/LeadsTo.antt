-- Where a step leads.
use Rattle.std.specs.Prelude.{ℕ, ◌+◌, ◌≤◌, ◌<◌, List, ℤ, length, Result, Ok, Err}
use Rattle.steps.specs.Facts.{MadeFrom}
use Rattle.walking.specs.Told.{ConclusionIn}
use Rattle.reading.specs.declared.refusals.Refusal.{Refusal}
use Rattle.walking.specs.declared.Onward.{Onward}
use Rattle.walking.specs.declared.Onward.TheVariants as onward

-- where the walk goes on, the step that began at `at` took four words at least and made a fact; a conclusion names one of v variables; the position of a refusal fits 32 bits
abbrev pub LeadsTo : ℕ → List ℤ → ℕ → Result Onward Refusal → Type 0
LeadsTo v log at (Ok (onward.To next)) = (at + 4 ≤ next) × (next ≤ length log) × MadeFrom v log at
LeadsTo v log at (Ok (onward.End c)) = (at < length log) × ConclusionIn v c
LeadsTo v log at (Err e) = e.position ≤ 65536
