-- What stands at a position of a table: a word, a number, several things one after the other. A table that was read well says the same as its readers.
use Prim.Native.Nat.{ℕ, zero, suc, ◌+◌, ◌*◌, ◌<◌, ◌≤◌}
use Rattle.std.specs.Prelude.{◌≡◌, List, [], ◌∷◌, ℤ, pos, nat_abs, length, get_or, ◌≤ℤ◌}
use Rattle.std.proofs.Math.Path.{refl, ap}
use Rattle.std.proofs.Common.{◌∙◌}
use native.Mathlib.Omega.{arith}

abbrev pub At : Type 0 → Type 0
At A = List ℤ → ℕ → A

abbrev pub int_at : At ℤ
int_at s p = get_or s p (pos 0)

abbrev pub nat_at : At ℕ
nat_at s p = nat_abs (get_or s p (pos 0))

-- n things from p on, each k words long
unfoldable pub each_at : {A : Type 0} → At A → ℕ → ℕ → At (List A)
each_at f k zero s p = []
each_at f k (suc n) s p = f s p ∷ each_at f k n s (p + k)

-- the word at p is the number of one of v things
pub record Names (v : ℕ) (s : List ℤ) (p : ℕ) : Type 0 where
  pub inside : p < length s
  pub signless : pos 0 ≤ℤ get_or s p (pos 0)
  pub known : nat_at s p < v

-- the word at p is a number from lo to hi
pub record Between (lo hi : ℕ) (s : List ℤ) (p : ℕ) : Type 0 where
  pub inside : p < length s
  pub signless : pos 0 ≤ℤ get_or s p (pos 0)
  pub from : lo ≤ nat_at s p
  pub upto : nat_at s p ≤ hi

-- n things from p on, each k words long and each P
pub record Each (P : List ℤ → ℕ → Type 0) (k n : ℕ) (s : List ℤ) (p : ℕ) : Type 0 where
  pub each : (i : ℕ) → i < n → P s (p + i * k)
  pub fits : p ≤ length s → p + n * k ≤ length s

module _ {A : Type 0} (f : At A) (k : ℕ) where
  pub length_each : (n : ℕ) (s : List ℤ) (p : ℕ) → length (each_at f k n s p) ≡ n
  unfolding each_at
  length_each zero s p = refl
  length_each (suc n) s p = ap suc (length_each n s (p + k))

  pub get_or_each : (n : ℕ) (s : List ℤ) (p i : ℕ) (e : A) → i < n → get_or (each_at f k n s p) i e ≡ f s (p + i * k)
  unfolding each_at
  get_or_each zero s p i e h = absurd (omega arith)
  get_or_each (suc n) s p zero e h = let q : p + 0 * k ≡ p = omega arith in rw q
  get_or_each (suc n) s p (suc i) e h = let q : (p + k) + i * k ≡ p + suc i * k = omega arith in get_or_each n s (p + k) i e (omega arith) ∙ ap (f s) q
