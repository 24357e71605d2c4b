-- What a model means, in exact whole numbers: which assignments stay within its bounds and meet its rows.
use Rattle.std.specs.Prelude.{ℕ, zero, suc, ◌<◌, ◌≤◌, ◌≡◌, List, [], ◌∷◌, length, get_or, ℤ, pos, nat_abs, ◌+ℤ◌, ◌*ℤ◌, ◌≤ℤ◌, ◌<ℤ◌}
use Rattle.words.specs.Lists.{sum_of, All}
use Rattle.meaning.specs.Model.{Model, Bounds, Row, Term, Activity, linear, all_different, cumulative, circuit}
use Rattle.meaning.specs.Rule.{during, usage_if}

-- a whole number for each variable, by its number
abbrev pub Assignment : Type 0
Assignment = ℕ → ℤ

abbrev pub total : Assignment → List Term → ℤ
total a [] = pos 0
total a (t ∷ ts) = (t.coefficient *ℤ a t.variable) +ℤ total a ts

-- what activity j uses at t
abbrev pub used : Assignment → ℤ → Activity → ℕ
used a t j = usage_if (during (a j.start) (a j.start +ℤ pos j.duration) t) j.usage

abbrev pub running : Assignment → ℤ → List Activity → ℕ
running a t = sum_of (used a t)

-- the position that is reached from position 0 after k moves
abbrev pub reached : Assignment → List ℕ → ℕ → ℕ
reached a xs zero = 0
reached a xs (suc k) = nat_abs (a (get_or xs (reached a xs k) 0))

abbrev pub Meets : Assignment → Row → Type 0
Meets a (linear b ts) = total a ts ≤ℤ b
Meets a (all_different xs) = (i j : ℕ) → i < j → j < length xs → a (get_or xs i 0) ≡ a (get_or xs j 0) → ⊥
Meets a (cumulative c js) = (t : ℤ) → running a t js ≤ c
Meets a (circuit xs) =
    ((i : ℕ) → i < length xs → (pos 0 ≤ℤ a (get_or xs i 0)) × (a (get_or xs i 0) <ℤ pos (length xs)))
    × ((i j : ℕ) → i < j → j < length xs → reached a xs i ≡ reached a xs j → ⊥)
    × (reached a xs (length xs) ≡ 0)

abbrev pub Between : Bounds → ℤ → Type 0
Between b v = (b.low ≤ℤ v) × (v ≤ℤ b.high)

abbrev pub bounds_at : List Bounds → ℕ → Bounds
bounds_at bs x = get_or bs x (record { low = pos 0; high = pos 0 })

abbrev pub Within : Assignment → List Bounds → Type 0
Within a bs = (x : ℕ) → x < length bs → Between (bounds_at bs x) (a x)

abbrev pub Solves : Assignment → Model → Type 0
Solves a m = Within a m.bounds × All (Meets a) m.rows
