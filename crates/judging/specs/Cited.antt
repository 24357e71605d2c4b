-- The facts of the steps passed, as the places find them.
use Rattle.std.specs.Prelude.{ℕ, ◌≤◌, ◌<◌, List, ℤ, length, get_or, take}
use Rattle.std.proofs.Common.{arith, get_or-take, length-take-le}
use Rattle.steps.specs.Facts.{MadeFrom}

-- the first k places are where steps begin that made facts
pub record Cited (v : ℕ) (log : List ℤ) (places : List ℕ) (k : ℕ) : Type 0 where
  pub enough : k ≤ length places
  pub made : (i : ℕ) → i < k → MadeFrom v log (get_or places i 0)

-- where just those are lent, so many are lent
pub cited_part : {v : ℕ} {log : List ℤ} {places : List ℕ} {k : ℕ} → Cited v log places k → Cited v log (take k places) (length (take k places))
cited_part {places = places} {k = k} c =
    let e = length-take-le k places c.enough in
    record { enough = omega arith; made = λ i h. let l : i < k = omega arith in rw (get_or-take k places i 0 l) (c.made i l) }

-- of some number of variables
pub record Some (P : ℕ → Type 0) : Type 0 where
  pub number : ℕ
  pub so : P number
