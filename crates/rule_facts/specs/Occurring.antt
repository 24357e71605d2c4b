-- Which variables occur in a fact, as a set of marks.
use Rattle.std.specs.Prelude.{ℕ, ◌≡◌, List}
use Rattle.marks.specs.Marks.{marked}
use Rattle.meaning.specs.Log.{Fact}
use Rattle.meaning.specs.Rule.{occurs}

-- just the marked variables occur in the fact
abbrev pub Occurring : Fact → List ℕ → Type 0
Occurring f ws = (x : ℕ) → marked ws x ≡ occurs f x
