-- What an amended plan changes: document 01, "Rechecking an amended plan".
use Rattle.std.specs.Prelude.{ℕ, ◌≡◌, Bool, true, false, not, List, []}
use Rattle.meaning.specs.Model.{Model}
use Rattle.meaning.specs.Check.{Good, good, bad, fits_old, changes}
use Rattle.row_set.specs.Bits.{packed}

-- is the recheck the whole check: the old model is refused, or the number of variables, a bound or the number of rows differs
abbrev pub whole_of : Good → Model → Bool
whole_of bad n = true
whole_of (good o) n = not (fits_old o n)

-- the test is `fits_old`
abbrev pub changed_if : Bool → Model → Model → List Bool
changed_if true o n = changes o.rows n.rows
changed_if false o n = []

-- one flag for each row: do its words differ; none in whole mode
abbrev pub changed_of : Good → Model → List Bool
changed_of bad n = []
changed_of (good o) n = changed_if (fits_old o n) o n

-- what the comparison of the old model, as far as it is good, with the new one answers
abbrev pub Answered : Good → Model → Bool → ℕ → Type 0
Answered g n whole changed = (whole ≡ whole_of g n) × (changed ≡ packed (changed_of g n))

abbrev pub Whole : Good → Model → Type 0
Whole g n = Answered g n true 0
