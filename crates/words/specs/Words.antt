-- What the contracts cite, over words in ℤ. Assumes nothing.
use Rattle.std.specs.Prelude.{Bool, cond, ◌&&◌, ℤ}
use Rattle.std.specs.Int.Signed.{le_z}

-- the smaller and the larger of two
abbrev pub min_z : ℤ → ℤ → ℤ
min_z a b = cond (le_z a b) a b

abbrev pub max_z : ℤ → ℤ → ℤ
max_z a b = cond (le_z a b) b a

-- lo ≤ x ≤ hi
abbrev pub in_z : ℤ → ℤ → ℤ → Bool
in_z lo hi x = le_z lo x && le_z x hi
