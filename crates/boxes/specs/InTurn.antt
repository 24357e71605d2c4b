-- Atoms that stand one after the other, three words each, taken in turn by a loop: after i of n, what is left to do.
use Rattle.std.specs.Prelude.{ℕ, zero, suc, ◌+◌, ◌*◌, ◌-◌, ◌≤◌, ◌<◌, ◌≡◌, refl, Bool, false, ◌||◌}
use Rattle.std.specs.List.{list_any, range_with_len}
use Rattle.std.proofs.Common.{ap, ◌∙◌}
use native.Mathlib.Omega.{arith}
use Rattle.std.proofs.Math.Nat.{sub-zero}

-- what each makes of the thing that the one before it left
unfoldable pub in_turn : {A : Type 0} → (ℕ → A → A) → ℕ → ℕ → A → A
in_turn f zero p a = a
in_turn f (suc n) p a = in_turn f n (p + 3) (f p a)

-- what each makes of what those behind it say, and z where there is none
unfoldable pub from_all : {A : Type 0} → (ℕ → A → A) → A → ℕ → ℕ → A
from_all f z zero p = z
from_all f z (suc n) p = f p (from_all f z n (p + 3))

module _ {A : Type 0} (f : ℕ → A → A) (n p : ℕ) where
  suc_left : (i : ℕ) → i < n → n - i ≡ suc (n - (i + 1))
  suc_left i h = omega arith

  next_at : (i : ℕ) → p + i * 3 + 3 ≡ p + (i + 1) * 3
  next_at i = omega arith

  pub turn_all : (a : A) → in_turn f n p a ≡ in_turn f (n - 0) (p + 0 * 3) a
  turn_all a = let q : p + 0 * 3 ≡ p = omega arith in rw (q, sub-zero)

  pub turn_more : (i : ℕ) (a : A) → i < n → in_turn f (n - i) (p + i * 3) a ≡ in_turn f (n - (i + 1)) (p + (i + 1) * 3) (f (p + i * 3) a)
  unfolding in_turn
  turn_more i a h = rw (suc_left i h, ← next_at i)

  pub turn_none : (i : ℕ) (a : A) → n ≤ i → in_turn f (n - i) (p + i * 3) a ≡ a
  unfolding in_turn
  turn_none i a h = let z : n - i ≡ 0 = omega arith in rw z

  module _ (z : A) where
    -- what those from the i-th on say
    abbrev pub rest : ℕ → A
    rest i = from_all f z (n - i) (p + i * 3)

    pub rest_all : from_all f z n p ≡ rest 0
    rest_all = let q : p + 0 * 3 ≡ p = omega arith in rw (q, sub-zero)

    pub rest_more : (i : ℕ) → i < n → rest i ≡ f (p + i * 3) (rest (i + 1))
    unfolding from_all
    rest_more i h = rw (suc_left i h, ← next_at i)

    pub rest_none : (i : ℕ) → n ≤ i → rest i ≡ z
    unfolding from_all
    rest_none i h = let e : n - i ≡ 0 = omega arith in rw e

-- does one of n things pass a test
module _ (t : ℕ → Bool) (p : ℕ) where
  some_on : (n i : ℕ) → list_any (λ j. t (p + j * 3)) (range_with_len i n) ≡ from_all (λ q b. t q || b) false n (p + i * 3)
  unfolding from_all
  some_on zero i = refl
  some_on (suc n) i = let q : p + i * 3 + 3 ≡ p + (i + 1) * 3 = omega arith in rw q (ap (λ b. t (p + i * 3) || b) (some_on n (i + 1)))

  pub some_in_turn : (n : ℕ) → list_any (λ j. t (p + j * 3)) (range_with_len 0 n) ≡ from_all (λ q b. t q || b) false n p
  some_in_turn n = let q : p + 0 * 3 ≡ p = omega arith in some_on n 0 ∙ rw q
