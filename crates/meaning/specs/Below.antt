-- Tests of the numbers below n, as a loop over them makes them.
use Rattle.std.specs.Prelude.{ℕ, zero, suc, ◌<◌, ◌≡◌, refl, Bool, true, false, ◌||◌, ◌⊎◌, ltb}
use Rattle.std.proofs.Common.{subst, inl, inr, ⊎_elim, arith, ltb-true, ltb-false}
use Rattle.words.specs.ListFacts.{clash, tested, or_cases, or_left, or_right}

-- below suc n: below n, or n
pub up_to_lem : {i n : ℕ} → i < suc n → (i < n) ⊎ (i ≡ n)
up_to_lem {i} {n} h = go (tested (ltb i n))
  where
    go : (ltb i n ≡ true) ⊎ (ltb i n ≡ false) → (i < n) ⊎ (i ≡ n)
    go (inl e) = inl (ltb-true i n e)
    go (inr e) = inr (omega (arith, ltb-false i n e))

-- a test is true of some number below n
abbrev pub some_below : (ℕ → Bool) → ℕ → Bool
some_below p zero = false
some_below p (suc n) = some_below p n || p n

pub some_found : (p : ℕ → Bool) (n : ℕ) → some_below p n ≡ true → (i : ℕ) × (i < n) × (p i ≡ true)
some_found p zero h = absurd (clash h refl)
some_found p (suc n) h = go (or_cases (some_below p n) (p n) h) (some_found p n)
  where
    go : (some_below p n ≡ true) ⊎ (p n ≡ true) → (some_below p n ≡ true → (i : ℕ) × (i < n) × (p i ≡ true)) → (i : ℕ) × (i < suc n) × (p i ≡ true)
    go (inl e) f = let r = f e in (r.0, omega (arith, r.1), r.2)
    go (inr e) f = (n, omega arith, e)

pub some_holds : (p : ℕ → Bool) (n i : ℕ) → i < n → p i ≡ true → some_below p n ≡ true
some_holds p zero i l e = absurd (omega arith)
some_holds p (suc n) i l e = ⊎_elim (λ k. or_left (p n) (some_holds p n i k e)) (λ q. or_right (some_below p n) (subst (λ z. p z ≡ true) q e)) (up_to_lem l)
