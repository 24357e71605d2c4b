-- Things that stand one after the other in a table, taken one at a time: the first i of n are behind, the others still to come.
use Prim.Native.Nat.{ℕ, suc, ◌+◌, ◌*◌, ◌-◌, ◌<◌, ◌≤◌}
use Rattle.std.specs.Prelude.{◌≡◌, List, [], ◌∷◌, ℤ}
use native.Mathlib.Omega.{arith}
use Rattle.reading.specs.At.{At, each_at}

module _ {A : Type 0} (f : At A) (k n : ℕ) (s : List ℤ) (p : ℕ) where
  -- those from the i-th on
  abbrev pub each_from : ℕ → List A
  each_from i = each_at f k (n - i) s (p + i * k)

  pub from_start : each_from 0 ≡ each_at f k n s p
  from_start = let e : n - 0 ≡ n = omega arith in let q : p + 0 * k ≡ p = omega arith in rw (e, q)

  pub from_next : (i : ℕ) → i < n → each_from i ≡ f s (p + i * k) ∷ each_from (i + 1)
  unfolding each_at
  from_next i h =
      let e : n - i ≡ suc (n - (i + 1)) = omega arith in
      let q : (p + i * k) + k ≡ p + (i + 1) * k = omega arith in
      rw (e, q)

  pub from_end : (i : ℕ) → n ≤ i → each_from i ≡ []
  unfolding each_at
  from_end i h = let e : n - i ≡ 0 = omega arith in rw e
