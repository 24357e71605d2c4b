-- Words of two tables held against each other.
use Prim.Native.Nat.{ℕ, zero, suc, ◌+◌, ◌*◌, ◌-◌, ◌≤◌, ◌<◌}
use Rattle.std.specs.Prelude.{◌≡◌, Bool, true, false, ◌&&◌, List, [], ◌∷◌, ℤ, pos, length, get_or, take, drop}
use Rattle.std.proofs.Math.Path.{refl}
use lib.Pointwise.{pointwise}
use Rattle.std.proofs.Common.{int_eq, sym, ap, ◌∙◌, add-zero, add-one, length-take, length-drop, drop-cons}
use Rattle.std.proofs.Math.Nat.{sub-zero}
use native.Mathlib.Omega.{arith}
use Rattle.std.proofs.lemmas.Bool.Decides.{Decides-int_eq}
use Rattle.std.specs.Bool.{Decides}
use Rattle.words.specs.Int.{eq_z, eq_z_eq, eq_z_t}
use Rattle.meaning.specs.Model.{Bounds}
use Rattle.meaning.specs.Check.{same_words, same_bounds}
use Rattle.reading.specs.At.{each_at}
use Rattle.model.specs.Rows.{bounds_at}

-- n words from p on
abbrev pub words_at : List ℤ → ℕ → ℕ → List ℤ
words_at s p n = take n (drop p s)

words_next : (s : List ℤ) (p n : ℕ) → p < length s → words_at s p (suc n) ≡ get_or s p (pos 0) ∷ words_at s (p + 1) n
words_next s p n h = rw (drop-cons s p (pos 0), add-one)

pub words_length : (s : List ℤ) (p n : ℕ) → p + n ≤ length s → length (words_at s p n) ≡ n
words_length s p n h = simp (length-take, length-drop) (omega arith)

-- lists of different lengths are not the same
pub other_words : (xs ys : List ℤ) → (length xs ≡ length ys → ⊥) → same_words xs ys ≡ false
other_words [] [] h = absurd (h refl)
other_words [] (y ∷ ys) h = refl
other_words (x ∷ xs) [] h = refl
other_words (x ∷ xs) (y ∷ ys) h = rw (other_words xs ys (λ e. h (ap suc e))) (none (eq_z x y))
  where
    none : (b : Bool) → b && false ≡ false
    none true = refl
    none false = refl

pub other_bounds : (xs ys : List Bounds) → (length xs ≡ length ys → ⊥) → same_bounds xs ys ≡ false
other_bounds [] [] h = absurd (h refl)
other_bounds [] (y ∷ ys) h = refl
other_bounds (x ∷ xs) [] h = refl
other_bounds (x ∷ xs) (y ∷ ys) h = rw (other_bounds xs ys (λ e. h (ap suc e))) (none (eq_z x.low y.low) (eq_z x.high y.high))
  where
    none : (a b : Bool) → a && (b && false) ≡ false
    none true true = refl
    none true false = refl
    none false b = refl

module _ (a b : List ℤ) where
  -- ---- n words: what is left to compare after i of them
  module _ (p q n : ℕ) where
    abbrev pub words_left : ℕ → Bool
    words_left i = same_words (words_at a (p + i) (n - i)) (words_at b (q + i) (n - i))

    pub words_all : same_words (words_at a p n) (words_at b q n) ≡ words_left 0
    words_all = rw (sub-zero n, add-zero p, add-zero q)

    pub words_none : (i : ℕ) → n ≤ i → words_left i ≡ true
    words_none i h = let z : n - i ≡ 0 = omega arith in rw z

  module _ (p q n : ℕ) (fa : p + n ≤ length a) (fb : q + n ≤ length b) where
    words_step : (i : ℕ) → i < n → words_left p q n i ≡ eq_z (get_or a (p + i) (pos 0)) (get_or b (q + i) (pos 0)) && words_left p q n (i + 1)
    words_step i h =
        let s : n - i ≡ suc (n - (i + 1)) = omega arith in
        let x : p + (i + 1) ≡ p + i + 1 = omega arith in
        let y : q + (i + 1) ≡ q + i + 1 = omega arith in
        rw (s, x, y, words_next a (p + i) (n - (i + 1)) (omega arith), words_next b (q + i) (n - (i + 1)) (omega arith))

    pub words_more : (i : ℕ) → i < n → eq_z (get_or a (p + i) (pos 0)) (get_or b (q + i) (pos 0)) ≡ true → words_left p q n i ≡ words_left p q n (i + 1)
    words_more i h e = words_step i h ∙ rw e

    pub words_stop : (i : ℕ) → i < n → eq_z (get_or a (p + i) (pos 0)) (get_or b (q + i) (pos 0)) ≡ false → words_left p q n i ≡ false
    words_stop i h e = words_step i h ∙ rw e

  -- ---- v pairs of bounds are compared by their words
  pub bounds_words : (v p q : ℕ) → p + v * 2 ≤ length a → q + v * 2 ≤ length b → same_bounds (each_at bounds_at 2 v a p) (each_at bounds_at 2 v b q) ≡ same_words (words_at a p (v * 2)) (words_at b q (v * 2))
  unfolding each_at
  bounds_words zero p q fa fb = refl
  bounds_words (suc v) p q fa fb =
      let s : suc v * 2 ≡ suc (suc (v * 2)) = omega arith in
      let x : p + 2 ≡ p + 1 + 1 = omega arith in
      let y : q + 2 ≡ q + 1 + 1 = omega arith in
      rw (bounds_words v (p + 2) (q + 2) (omega arith) (omega arith), s, x, y, words_next a p (suc (v * 2)) (omega arith), words_next a (p + 1) (v * 2) (omega arith), words_next b q (suc (v * 2)) (omega arith), words_next b (q + 1) (v * 2) (omega arith))

-- ---- as a comparison of slices tells it
one_answer : (P : Type 0) (a b : Bool) → Decides a P → Decides b P → a ≡ b
one_answer P true true p q = refl
one_answer P true false p q = sym (q.1 (p.0 refl))
one_answer P false true p q = p.1 (q.0 refl)
one_answer P false false p q = refl

int_eq_z : (x y : ℤ) → int_eq x y ≡ eq_z x y
int_eq_z x y = one_answer (x ≡ y) (int_eq x y) (eq_z x y) (Decides-int_eq x y) (eq_z_eq x y, λ q. eq_z_t q)

pub pointwise_same : (xs ys : List ℤ) → pointwise int_eq xs ys ≡ same_words xs ys
pointwise_same [] [] = refl
pointwise_same [] (y ∷ ys) = refl
pointwise_same (x ∷ xs) [] = refl
pointwise_same (x ∷ xs) (y ∷ ys) = rw (int_eq_z x y, pointwise_same xs ys)
