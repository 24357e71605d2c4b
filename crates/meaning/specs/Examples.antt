-- Rows of each kind with an assignment that meets them and one that does not, and a model with assignments that solve it and that do not: the meaning of a row is neither empty nor all, and lies where document 01's words put it.
use Rattle.std.specs.Prelude.{List, [], ◌∷◌, get_or, ℤ, pos, negsuc}
use Rattle.meaning.specs.Model.{Model, Row, linear, all_different, cumulative, circuit}
use Rattle.meaning.specs.Meets.{Assignment, Meets, Solves}

-- the values of variables 0, 1, 2 and so on
abbrev pub given : List ℤ → Assignment
given vs x = get_or vs x (pos 0)

-- the first meets the row, the second does not
abbrev pub Splits : Row → List ℤ → List ℤ → Type 0
Splits row met unmet = Meets (given met) row × (Meets (given unmet) row → ⊥)

-- 2x + 3y <= 7, and x - y <= -1
abbrev pub sum : Row
sum = linear (pos 7) (record { coefficient = pos 2; variable = 0 } ∷ record { coefficient = pos 3; variable = 1 } ∷ [])

abbrev pub difference : Row
difference = linear (negsuc 0) (record { coefficient = pos 1; variable = 0 } ∷ record { coefficient = negsuc 0; variable = 1 } ∷ [])

abbrev pub different : Row
different = all_different (0 ∷ 1 ∷ 2 ∷ [])

-- capacity 2; (duration, usage) of the three activities: (2,1), (2,1), (1,2)
abbrev pub works : Row
works = cumulative 2 (record { start = 0; duration = 2; usage = 1 } ∷ record { start = 1; duration = 2; usage = 1 } ∷ record { start = 2; duration = 1; usage = 2 } ∷ [])

abbrev pub round : Row
round = circuit (0 ∷ 1 ∷ 2 ∷ [])

-- x in -2..1 and y in 0..5, with x - y <= -1
abbrev pub small : Model
small = record { bounds = record { low = negsuc 1; high = pos 1 } ∷ record { low = pos 0; high = pos 5 } ∷ []; rows = difference ∷ [] }

pub record MeetsExamples : Type 0 where
  -- 7 is at the bound, 8 above it
  pub at_the_bound : Splits sum (pos 2 ∷ pos 1 ∷ []) (pos 1 ∷ pos 2 ∷ [])
  pub below_zero : Splits difference (negsuc 2 ∷ negsuc 1 ∷ []) (negsuc 1 ∷ negsuc 1 ∷ [])
  -- the first and the last may not be equal either; negative values count
  pub all_apart : Splits different (negsuc 0 ∷ pos 0 ∷ pos 1 ∷ []) (pos 1 ∷ pos 0 ∷ pos 1 ∷ [])
  pub two_apart : Splits different (pos 3 ∷ pos 2 ∷ pos 1 ∷ []) (pos 2 ∷ pos 2 ∷ pos 1 ∷ [])
  -- at the capacity at 0 and 1, and the third begins as the others end; one time earlier it is above
  pub at_capacity : Splits works (pos 0 ∷ pos 0 ∷ pos 2 ∷ []) (pos 0 ∷ pos 0 ∷ pos 1 ∷ [])
  pub before_zero : Splits works (negsuc 1 ∷ pos 5 ∷ pos 0 ∷ []) (negsuc 1 ∷ pos 5 ∷ negsuc 0 ∷ [])
  -- round either way; two of three; all apart but outside 0..2
  pub one_way : Splits round (pos 1 ∷ pos 2 ∷ pos 0 ∷ []) (pos 1 ∷ pos 0 ∷ pos 2 ∷ [])
  pub other_way : Splits round (pos 2 ∷ pos 0 ∷ pos 1 ∷ []) (pos 1 ∷ pos 2 ∷ pos 3 ∷ [])
  -- at the ends of the bounds; a row not met; below a bound; above one
  pub solved : Solves (given (negsuc 1 ∷ pos 5 ∷ [])) small
  pub row_unmet : Solves (given (pos 1 ∷ pos 1 ∷ [])) small → ⊥
  pub too_low : Solves (given (negsuc 2 ∷ pos 5 ∷ [])) small → ⊥
  pub too_high : Solves (given (negsuc 1 ∷ pos 6 ∷ [])) small → ⊥
