-- 64 numbers from `base` on, a bit for each that passes a test.
use Rattle.std.specs.Prelude.{ℕ, ◌+◌, ◌-◌, ◌*◌, ◌/◌, ◌%◌, ◌^◌, ◌≤◌, ◌<◌, ◌≡◌, refl, Bool, true, false, not, ◌&&◌, ◌||◌, eqb, leb, ltb, ℤ, pos, ◌+ℤ◌, ◌≤ℤ◌, ◌<ℤ◌}
use Rattle.std.proofs.Common.{sym, ap, ap₂, ◌∙◌, ⊎_elim, arith, one-mul, eqb-true, eq-eqb, leb-true, le-leb, ltb-true, lt-ltb, pow_mono, shl_lt, shl_exact, SFits, to_z, to_z-of_z}
use Rattle.std.specs.Int.Bits.{bit_or, bit_and, bit_xor, and_lt}
use Rattle.std.proofs.lemmas.Nat.{or_lt, xor_lt, leading_le, trailing_le}
use Rattle.std.specs.Int.Count.{count_leading_zeros, count_trailing_zeros}
use Rattle.std.proofs.Math.Pow.{pow-lt, ones_lt, ones_split, high}
use Rattle.std.specs.Int.Signed.{le_z}
use Rattle.std.specs.Int.{w32}
use Rattle.words.specs.Int.{zz, fits_read, sum, eq_z, eq_z_eq, eq_z_t, eq_z_f}
use Rattle.words.specs.Words.{min_z, max_z, in_z}
use Rattle.words.specs.ListFacts.{tested, clash, same_test, and_true, and_both, le_of, of_le}
use Rattle.words.specs.Bits.{bit, bit_or_lem, bit_but, bit_zero, bit_power, bit_full, bit_shifted, bits_same, lowest, highest}

-- ---- the smaller and the larger of two
module _ (a b : ℤ) where
  pub min_under : (min_z a b ≤ℤ a) × (min_z a b ≤ℤ b)
  min_under = ⊎_elim (λ e. rw e (omega (arith, zz))) (λ e. rw e (omega (arith, zz))) (tested (le_z a b))

  pub under_min : {v : ℤ} → v ≤ℤ a → v ≤ℤ b → v ≤ℤ min_z a b
  under_min h k = ⊎_elim (λ e. rw e h) (λ e. rw e k) (tested (le_z a b))

  pub max_above : (a ≤ℤ max_z a b) × (b ≤ℤ max_z a b)
  max_above = ⊎_elim (λ e. rw e (omega (arith, zz))) (λ e. rw e (omega (arith, zz))) (tested (le_z a b))

  pub above_max : {v : ℤ} → a ≤ℤ v → b ≤ℤ v → max_z a b ≤ℤ v
  above_max h k = ⊎_elim (λ e. rw e k) (λ e. rw e h) (tested (le_z a b))

pub record Window (p : ℤ → Bool) (base : ℤ) (m : ℕ) : Type 0 where
  pub below : m < 2 ^ 64
  pub bits : (i : ℕ) → i < 64 → bit m i ≡ p (base +ℤ pos i)

-- ---- how many come before the first that passes, from the low end or from the high end
abbrev pub zeros : Bool → ℕ → ℕ
zeros true m = count_trailing_zeros 64 m
zeros false m = count_leading_zeros 64 m

pub zeros_few : (up : Bool) (m : ℕ) → zeros up m ≤ 64
zeros_few true m = trailing_le 64 m
zeros_few false m = leading_le 64 m

pub zeros_fewer : (up : Bool) (m : ℕ) → 0 < m → m < 2 ^ 64 → zeros up m < 64
zeros_fewer true m p h = (lowest 64 m p h).0
zeros_fewer false m p h = let t = highest 64 m p h in omega (arith, t.1)

-- ---- a number that is small enough is a word
pub small_word : (n : ℕ) → n < 2147483648 → to_z w32 n ≡ pos n
small_word n h = let f : SFits w32 (pos n) = record { sfits = omega arith } in to_z-of_z f

-- so is the last one of a window
pub last_word : (base : ℤ) → SFits w32 base → base ≤ℤ pos 2147483584 → SFits w32 (base +ℤ pos 63)
last_word base g h = omega (arith, zz, fits_read g, sum base (pos 63))

-- ---- the numbers that the code makes
pub ones_high : (n : ℕ) → n ≤ 64 → 18446744073709551615 / 2 ^ (64 - n) ≡ 2 ^ n - 1
ones_high n h =
    let e : 64 ≡ n + (64 - n) = omega arith in
    ap (λ z. (2 ^ z - 1) / 2 ^ (64 - n)) e ∙ ap (λ z. z / 2 ^ (64 - n)) (ones_split n (64 - n)) ∙ high (2 ^ n - 1) (64 - n) (ones_lt (64 - n))

pub stretch_fits : (f t : ℕ) → f ≤ t → t < 64 → ((2 ^ (t + 1 - f) - 1) * 2 ^ f) % 2 ^ 64 ≡ (2 ^ (t + 1 - f) - 1) * 2 ^ f
stretch_fits f t o s = shl_exact {a = 2 ^ (t + 1 - f) - 1} (t + 1 - f) f 64 (ones_lt (t + 1 - f)) (omega arith)

pub one_shifted : (k : ℕ) → k < 64 → (1 * 2 ^ k) % 2 ^ 64 ≡ 2 ^ k
one_shifted k h = shl_exact {a = 1} 1 k 64 (omega arith) (omega arith) ∙ one-mul (2 ^ k)

-- ---- there is one number that says so
pub window_one : {p : ℤ → Bool} {base : ℤ} {m n : ℕ} → Window p base m → Window p base n → m ≡ n
window_one {m} {n} v w = bits_same 64 m n v.below w.below (λ i h. v.bits i h ∙ sym (w.bits i h))

pub window_none : (base : ℤ) → Window (λ v. false) base 0
window_none base = record { below = omega arith; bits = λ i h. bit_zero i }

pub window_same : {p q : ℤ → Bool} {base : ℤ} {m : ℕ} → ((v : ℤ) → p v ≡ q v) → Window p base m → Window q base m
window_same {base} e w = record { below = w.below; bits = λ i h. w.bits i h ∙ e (base +ℤ pos i) }

module _ {p q : ℤ → Bool} {base : ℤ} {m n : ℕ} (v : Window p base m) (w : Window q base n) where
  pub window_or : Window (λ z. p z || q z) base (bit_or m n)
  window_or = record { below = or_lt 64 m n v.below w.below; bits = λ i h. bit_or_lem m n i ∙ ap₂ ◌||◌ (v.bits i h) (w.bits i h) }

  -- the first has it, and the second has not
  pub window_but : Window (λ z. p z && not (q z)) base (bit_xor m (bit_and m n))
  window_but = record { below = xor_lt 64 m (bit_and m n) v.below (and_lt 64 m n v.below w.below); bits = λ i h. bit_but m n i ∙ ap₂ (λ a b. a && not b) (v.bits i h) (w.bits i h) }

-- ---- one value
module _ (base v : ℤ) where
  pub window_bit : (j : ℕ) → j < 64 → base +ℤ pos j ≡ v → Window (eq_z v) base (2 ^ j)
  window_bit j h e = record { below = pow-lt {i = j} {j = 64} h; bits = λ i k. bit_power j i ∙ at i }
    where
      at : (i : ℕ) → eqb j i ≡ eq_z v (base +ℤ pos i)
      at i =
          same_test (eqb j i) (eq_z v (base +ℤ pos i)) (λ t. let q = eqb-true j i t in eq_z_t {a = v} {b = base +ℤ pos i} (sym e ∙ ap (λ n. base +ℤ pos n) q))
          (λ t. let q : (base +ℤ pos j) ≡ (base +ℤ pos i) = e ∙ eq_z_eq v (base +ℤ pos i) t in eq-eqb j i (omega (arith, zz)))

  beyond : ((i : ℕ) → i < 64 → v ≡ base +ℤ pos i → ⊥) → Window (eq_z v) base 0
  beyond h = record { below = omega arith; bits = λ i k. bit_zero i ∙ sym (eq_z_f {a = v} {b = base +ℤ pos i} (h i k)) }

  pub window_under : v <ℤ base → Window (eq_z v) base 0
  window_under h = beyond (λ i k e. omega (arith, zz))

  pub window_over : (base +ℤ pos 63) <ℤ v → Window (eq_z v) base 0
  window_over h = beyond (λ i k e. omega (arith, zz))

  pub window_out : in_z base (base +ℤ pos 63) v ≡ false → Window (eq_z v) base 0
  window_out n = beyond (λ i k e. clash (and_both (le_z base v) (le_z v (base +ℤ pos 63)) (of_le (low i e)) (of_le (high i k e))) n)
    where
      low : (i : ℕ) → v ≡ base +ℤ pos i → base ≤ℤ v
      low i e = omega (arith, zz)

      high : (i : ℕ) → i < 64 → v ≡ base +ℤ pos i → v ≤ℤ (base +ℤ pos 63)
      high i k e = omega (arith, zz)

-- where another test says no, there is none
pub window_if : {p : ℤ → Bool} {base : ℤ} {m : ℕ} (c : Bool) → c ≡ true → Window p base m → Window (λ v. c && p v) base m
window_if c e w = rw e w

pub window_never : (p : ℤ → Bool) (base : ℤ) (c : Bool) → c ≡ false → Window (λ v. c && p v) base 0
window_never p base c e = rw e (window_none base)

-- ---- a range
module _ (base low high : ℤ) where
  inside : (i : ℕ) → i < 64 → in_z low high (base +ℤ pos i) ≡ true → (max_z low base ≤ℤ (base +ℤ pos i)) × ((base +ℤ pos i) ≤ℤ min_z high (base +ℤ pos 63))
  inside i h t =
      let a = and_true (le_z low (base +ℤ pos i)) (le_z (base +ℤ pos i) high) t in
      (above_max low base (le_of _ _ a.0) (omega (arith, zz)), under_min high (base +ℤ pos 63) (le_of _ _ a.1) (omega (arith, zz)))

  pub window_empty : min_z high (base +ℤ pos 63) <ℤ max_z low base → Window (in_z low high) base 0
  window_empty h = record { below = omega arith; bits = λ i k. bit_zero i ∙ sym (not_is (λ t. let n = inside i k t in crossed (base +ℤ pos i) n.0 n.1 h)) }
    where
      not_is : {b : Bool} → (b ≡ true → ⊥) → b ≡ false
      not_is {b = true} f = absurd (f refl)
      not_is {b = false} f = refl

      crossed : {a b : ℤ} (v : ℤ) → a ≤ℤ v → v ≤ℤ b → b <ℤ a → ⊥
      crossed v p q r = omega (arith, zz)

  pub window_range : (f t : ℕ) → f ≤ t → t < 64 → base +ℤ pos f ≡ max_z low base → base +ℤ pos t ≡ min_z high (base +ℤ pos 63) → Window (in_z low high) base ((2 ^ (t + 1 - f) - 1) * 2 ^ f)
  window_range f t o s p q = record { below = small; bits = λ i k. bit_shifted (2 ^ (t + 1 - f) - 1) f i ∙ rw (bit_full (t + 1 - f) (i - f)) (at i k) }
    where
      small : (2 ^ (t + 1 - f) - 1) * 2 ^ f < 2 ^ 64
      small =
          let l = shl_lt {a = 2 ^ (t + 1 - f) - 1} (t + 1 - f) f (ones_lt (t + 1 - f)) in
          let m : 2 ^ (t + 1 - f + f) ≤ 2 ^ 64 = pow_mono {i = t + 1 - f + f} {j = 64} (omega arith) in
          omega (arith, l, m)

      at : (i : ℕ) → i < 64 → (leb f i && ltb (i - f) (t + 1 - f)) ≡ in_z low high (base +ℤ pos i)
      at i k =
          same_test (leb f i && ltb (i - f) (t + 1 - f)) (in_z low high (base +ℤ pos i))
          (λ e.
          let a = and_true (leb f i) (ltb (i - f) (t + 1 - f)) e in
          let b = leb-true f i a.0 in
          let c = ltb-true (i - f) (t + 1 - f) a.1 in
          let u = (max_above low base).0 in
          let v = (min_under high (base +ℤ pos 63)).0 in
          and_both (le_z low (base +ℤ pos i)) (le_z (base +ℤ pos i) high) (of_le (up low (max_z low base) u p b)) (of_le (down high (min_z high (base +ℤ pos 63)) v q (omega arith))))
          (λ e. let n = inside i k e in and_both (leb f i) (ltb (i - f) (t + 1 - f)) (le-leb f i (back f i (max_z low base) n.0 p)) (lt-ltb (i - f) (t + 1 - f) (let g = back f i (max_z low base) n.0 p in let h = forth i t (min_z high (base +ℤ pos 63)) n.1 q in omega arith)))
        where
          up : (l m : ℤ) → l ≤ℤ m → base +ℤ pos f ≡ m → f ≤ i → l ≤ℤ (base +ℤ pos i)
          up l m u p b = omega (arith, zz)

          down : (l m : ℤ) → m ≤ℤ l → base +ℤ pos t ≡ m → i ≤ t → (base +ℤ pos i) ≤ℤ l
          down l m u p b = omega (arith, zz)

          back : (f i : ℕ) (m : ℤ) → m ≤ℤ (base +ℤ pos i) → base +ℤ pos f ≡ m → f ≤ i
          back f i m u p = omega (arith, zz)

          forth : (i t : ℕ) (m : ℤ) → (base +ℤ pos i) ≤ℤ m → base +ℤ pos t ≡ m → i ≤ t
          forth i t m u p = omega (arith, zz)
