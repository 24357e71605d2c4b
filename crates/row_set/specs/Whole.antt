-- Which rows changed, as a recheck is told: a set, or nothing where all is checked.
use Rattle.std.specs.Prelude.{ℕ, ◌≡◌, refl, Bool, true, false, Option, Some, None}
use Rattle.std.proofs.Common.{ap}

-- is the whole log checked
abbrev pub whole_in : Option ℕ → Bool
whole_in None = true
whole_in (Some set) = false

-- the set of changed rows, none where the whole log is checked
abbrev pub set_in : Option ℕ → ℕ
set_in None = 0
set_in (Some set) = set

-- the two tell it
pub only_set : (a b : Option ℕ) → whole_in a ≡ whole_in b → set_in a ≡ set_in b → a ≡ b
only_set None None e f = refl
only_set None (Some n) e f = cc
only_set (Some n) None e f = cc
only_set (Some n) (Some m) e f = ap Some f
