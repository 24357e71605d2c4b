-- What the engine looks at.
use Rattle.std.specs.Prelude.{ℕ, ◌≤◌, ◌<◌, ◌≡◌, List, get_or, Option, Some, None}
use Rattle.meaning.specs.Refusals.{first_of_steps}
use Rattle.answer.specs.declared.DimpsyholtAnswer.{DimpsyholtAnswer}

abbrev pub Opens : DimpsyholtAnswer → Type 0
Opens a = (a.kind ≡ 1) × (a.conclusion ≡ 3)

abbrev pub OpensAgain : DimpsyholtAnswer → DimpsyholtAnswer → Type 0
OpensAgain was again = (was.kind ≡ 1) × (again.kind ≡ 0 → ⊥) × (again.conclusion ≡ 3)

abbrev pub Early : DimpsyholtAnswer → Type 0
Early a = (a.kind ≡ 0) × (a.number < first_of_steps)

abbrev pub PlaceOf : DimpsyholtAnswer → ℕ → List ℕ → Option ℕ → Type 0
PlaceOf a k places (Some p) = (a.kind ≡ 0) × (first_of_steps ≤ a.number) × (k < a.step) × (p ≡ get_or places k 0)
PlaceOf a k places None = Unit {0}
