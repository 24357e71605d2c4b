-- The values left to some variables, counted in rising order up to as many as there are variables.
use Rattle.std.specs.Prelude.{ℕ, ◌+◌, ◌≤◌, ◌<◌, ◌≡◌, true, false, length, ℤ, pos, nat_abs, ◌+ℤ◌}
use Rattle.std.proofs.Common.{arith, ⊎_elim, SFits, lt-ltb, le-ltb}
use Rattle.std.specs.Prelude.{Some, None}
use mathlib.Core.List.Memᴰ.{append_cases as in_either}
use mathlib.Core.List.Memᴰ.{not-nil as not-in-nil}
use mathlib.Core.List.{List, [], ◌∷◌, Memᴰ as In}
use Rattle.std.specs.Int.{w32}
use Rattle.meaning.specs.Limits.{most_value}
use Rattle.meaning.specs.Read.{neg}
use Rattle.words.specs.Int.{zz, abs_is, abs_sum, abs_fits}
use Rattle.meaning.specs.Rule.{once, union, crowded}
use Rattle.all_different.specs.Distinct.{many, many_all, many_none, many_one_more}
use Rattle.all_different.specs.Soonest.{Soonest, nothing, this}

module _ (d : ℕ → List ℤ) (small : (x : ℕ) (v : ℤ) → In v (d x) → nat_abs v ≤ most_value) where
  pub union_small : (xs : List ℕ) (v : ℤ) → In v (union d xs) → nat_abs v ≤ most_value
  union_small [] v i = absurd (not-in-nil i)
  union_small (x ∷ xs) v i = ⊎_elim (λ j. small x v j) (λ j. union_small xs v j) (in_either (d x) i)

  -- the value that was found is small too
  pub soonest_small : (xs : List ℕ) {from v : ℤ} → Soonest from (union d xs) (Some v) → nat_abs v ≤ most_value
  soonest_small xs {v = v} (this i l h) = union_small xs v i

-- so the number after it fits a word
pub after_fits : (v : ℤ) → nat_abs v ≤ most_value → SFits w32 (v +ℤ pos 1)
after_fits v h = abs_fits (v +ℤ pos 1) (omega (arith, abs_sum v (pos 1)))

module _ (d : ℕ → List ℤ) (xs : List ℕ) where
  -- so many values were found, and the others are at or above a number
  abbrev pub SoFar : ℤ → ℕ → Type 0
  SoFar from found = length (once (union d xs)) ≡ found + many from (union d xs)

  pub count_start : ((x : ℕ) (v : ℤ) → In v (d x) → nat_abs v ≤ most_value) → SoFar (neg most_value) 0
  count_start small = let e = many_all (neg most_value) (union d xs) (λ v i. let h = union_small d small xs v i in omega (arith, zz, abs_is v)) in omega arith

  pub count_next : {from v : ℤ} (found : ℕ) → Soonest from (union d xs) (Some v) → SoFar from found → SoFar (v +ℤ pos 1) (found + 1)
  count_next {from} {v} found (this i l h) e = let m = many_one_more from v (union d xs) i l h in omega arith

  -- no value is left to find: they are fewer than the variables
  pub count_used_up : {from : ℤ} (found : ℕ) → Soonest from (union d xs) None → SoFar from found → found < length xs → crowded d xs ≡ true
  count_used_up {from} found (nothing h) e l = let m = many_none from (union d xs) h in lt-ltb (length (once (union d xs))) (length xs) (omega arith)

  -- as many as the variables
  pub count_enough : (from : ℤ) (found : ℕ) → SoFar from found → length xs ≤ found → crowded d xs ≡ false
  count_enough from found e l = le-ltb (length (once (union d xs))) (length xs) (omega arith)
