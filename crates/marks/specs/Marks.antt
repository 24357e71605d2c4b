-- A set of numbers in 64-bit words: n is in it where bit n % 64 of word n / 64 is set.
use Rattle.std.specs.Prelude.{ℕ, zero, suc, ◌*◌, ◌/◌, ◌%◌, ◌^◌, ◌<◌, ◌≡◌, refl, Bool, true, false, ◌||◌, List, eqb, length, get_or, set, replicate}
use Rattle.std.proofs.Common.{sym, ap, ◌∙◌, ⊎_elim, arith, one-mul, length-set, shl_exact, get_or-set_same, get_or-set_other, eqb-true, eq-eqb, ne_eqb}
use Rattle.std.specs.Int.Bits.{bit_or}
use Rattle.std.proofs.lemmas.List.{length-replicate}
use Rattle.std.proofs.lemmas.Bool.{eqb-false}
use Rattle.words.specs.ListFacts.{tested}
use Rattle.words.specs.Bits.{bit, bit_or_lem, bit_zero, bit_power}

unfoldable pub marked : List ℕ → ℕ → Bool
marked ws n = bit (get_or ws (n / 64) 0) (n % 64)

unfoldable pub added : List ℕ → ℕ → List ℕ
added ws n = set ws (n / 64) (bit_or (get_or ws (n / 64) 0) (2 ^ (n % 64)))

-- n words of 0
abbrev pub blank : ℕ → List ℕ
blank n = replicate n 0

-- the bit of a number, as the code makes it
pub one_shifted : (k : ℕ) → k < 64 → (1 * 2 ^ k) % 2 ^ 64 ≡ 2 ^ k
one_shifted k h = shl_exact {a = 1} 1 k 64 (omega arith) (omega arith) ∙ one-mul (2 ^ k)

pub blank_length : (n : ℕ) → length (blank n) ≡ n
blank_length n = length-replicate n 0

pub added_length : (ws : List ℕ) (n : ℕ) → length (added ws n) ≡ length ws
unfolding added
added_length ws n = length-set ws (n / 64) (bit_or (get_or ws (n / 64) 0) (2 ^ (n % 64)))

-- ---- the law: blank words are the set that has none, and adding n changes nothing but whether n is in it
pub blank_none : (n m : ℕ) → marked (blank n) m ≡ false
unfolding marked
blank_none n m = ap (λ w. bit w (m % 64)) (word n (m / 64)) ∙ bit_zero (m % 64)
  where
    word : (n j : ℕ) → get_or (blank n) j 0 ≡ 0
    word zero j = refl
    word (suc n) zero = refl
    word (suc n) (suc j) = word n j

pub added_is : (ws : List ℕ) (n m : ℕ) → n < 64 * length ws → marked (added ws n) m ≡ (eqb m n || marked ws m)
unfolding marked added
added_is ws n m h = ⊎_elim (λ e. same (eqb-true (m / 64) (n / 64) e)) (λ e. other (eqb-false (m / 64) (n / 64) e)) (tested (eqb (m / 64) (n / 64)))
  where
    inside : n / 64 < length ws
    inside = omega arith

    or_comm : (a b : Bool) → a || b ≡ b || a
    or_comm true true = refl
    or_comm true false = refl
    or_comm false true = refl
    or_comm false false = refl

    -- in the word of n
    bits : m / 64 ≡ n / 64 → eqb (n % 64) (m % 64) ≡ eqb m n
    bits q = ⊎_elim (λ e. let r = eqb-true (n % 64) (m % 64) e in e ∙ sym (eq-eqb m n (omega arith))) (λ e. let r = eqb-false (n % 64) (m % 64) e in e ∙ sym (ne_eqb m n (λ s. r (ap (λ z. z % 64) (sym s))))) (tested (eqb (n % 64) (m % 64)))

    same : m / 64 ≡ n / 64 → bit (get_or (set ws (n / 64) (bit_or (get_or ws (n / 64) 0) (2 ^ (n % 64)))) (m / 64) 0) (m % 64) ≡ (eqb m n || bit (get_or ws (m / 64) 0) (m % 64))
    same q =
        rw (q, get_or-set_same ws (n / 64) (bit_or (get_or ws (n / 64) 0) (2 ^ (n % 64))) 0 inside, bit_or_lem (get_or ws (n / 64) 0) (2 ^ (n % 64)) (m % 64), bit_power (n % 64) (m % 64), bits q)
        (or_comm (bit (get_or ws (n / 64) 0) (m % 64)) (eqb m n))

    -- in another word
    other : (m / 64 ≡ n / 64 → ⊥) → bit (get_or (set ws (n / 64) (bit_or (get_or ws (n / 64) 0) (2 ^ (n % 64)))) (m / 64) 0) (m % 64) ≡ (eqb m n || bit (get_or ws (m / 64) 0) (m % 64))
    other q =
        rw (ne_eqb m n (λ e. q (ap (λ z. z / 64) e)))
        (ap (λ w. bit w (m % 64)) (get_or-set_other ws (n / 64) (m / 64) (bit_or (get_or ws (n / 64) 0) (2 ^ (n % 64))) 0 q))
