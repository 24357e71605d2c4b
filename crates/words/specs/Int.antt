-- ℤ as a difference of two naturals, and the rules by which `omega` reads ℤ.
-- z is `pp z - nn z`. A rule turns a fact of ℤ into one of `pp` and `nn`, and a goal likewise, so `omega (arith, zz)` proves what is linear in ℤ.
-- Assumes nothing.
use Rattle.std.specs.Prelude.{◌≡◌, refl, Bool, true, false, not, cond, ◌≢◌, ℕ, zero, suc, ◌+◌, ◌*◌, ◌-◌, ◌^◌, ◌≤◌, ◌<◌, min, max, T, eqb, leb, ltb, ℤ, pos, negsuc, neg_ℤ, nat_abs, ◌+ℤ◌, ◌-ℤ◌, ◌*ℤ◌, ◌≤ℤ◌, ◌<ℤ◌}
use Rattle.std.proofs.Common.{sym, ap, ◌∙◌, subst, arith, leb→le, le→leb, ltb→lt, lt→ltb, nltb→le, mul-le-mul, mul-le-mul_left, eqb-true, eq-eqb, ltb-true, ltb-false}
use Rattle.std.proofs.Math.Dec.{nleb→lt}
use Rattle.std.proofs.Math.IntN.{sub_ℕ}
use Rattle.std.specs.Int.Signed.{le_z, lt_z, mag, nat_abs-le}
use Rattle.std.proofs.lemmas.Bool.{eqb-false}
use Rattle.std.specs.Int.{Width, w32, w64}
use mir.Val.{SFits, hbits, to_z, of_z}
use Rattle.std.proofs.lemmas.Int.{to_z-of_z}
use Rattle.std.proofs.Math.Facts.{sfits_widen, sfits_lit}

abbrev pub pp : ℤ → ℕ
pp (pos n) = n
pp (negsuc n) = 0

abbrev pub nn : ℤ → ℕ
nn (pos n) = 0
nn (negsuc n) = suc n

T_no : (t : Bool) → (T t → ⊥) → T (not t)
T_no true h = h tt
T_no false h = tt

-- ---- the orders, read and shown
pub le_read : {a b : ℤ} → a ≤ℤ b → pp a + nn b ≤ pp b + nn a
le_read {a = pos a} {b = pos b} h = omega (arith, leb→le a b h.le)
le_read {a = pos a} {b = negsuc b} h = absurd h.le
le_read {a = negsuc a} {b = pos b} h = omega arith
le_read {a = negsuc a} {b = negsuc b} h = omega (arith, leb→le b a h.le)

pub le_show : {a b : ℤ} → pp a + nn b ≤ pp b + nn a → a ≤ℤ b
le_show {a = pos a} {b = pos b} h = record { le = le→leb a b (omega arith) }
le_show {a = pos a} {b = negsuc b} h = absurd (omega arith)
le_show {a = negsuc a} {b = pos b} h = record { le = tt }
le_show {a = negsuc a} {b = negsuc b} h = record { le = le→leb b a (omega arith) }

pub lt_read : {a b : ℤ} → a <ℤ b → pp a + nn b < pp b + nn a
lt_read {a = pos a} {b = pos b} h = omega (arith, ltb→lt a b h.lt)
lt_read {a = pos a} {b = negsuc b} h = absurd h.lt
lt_read {a = negsuc a} {b = pos b} h = omega arith
lt_read {a = negsuc a} {b = negsuc b} h = omega (arith, ltb→lt b a h.lt)

pub lt_show : {a b : ℤ} → pp a + nn b < pp b + nn a → a <ℤ b
lt_show {a = pos a} {b = pos b} h = record { lt = lt→ltb a b (omega arith) }
lt_show {a = pos a} {b = negsuc b} h = absurd (omega arith)
lt_show {a = negsuc a} {b = pos b} h = record { lt = tt }
lt_show {a = negsuc a} {b = negsuc b} h = record { lt = lt→ltb b a (omega arith) }

pub eq_read : {a b : ℤ} → a ≡ b → pp a + nn b ≡ pp b + nn a
eq_read {a} {b} e = subst (λ (x : ℤ). pp a + nn x ≡ pp x + nn a) e refl

pub eq_show : {a b : ℤ} → pp a + nn b ≡ pp b + nn a → a ≡ b
eq_show {a = pos a} {b = pos b} h = ap pos (omega arith)
eq_show {a = pos a} {b = negsuc b} h = absurd (omega arith)
eq_show {a = negsuc a} {b = pos b} h = absurd (omega arith)
eq_show {a = negsuc a} {b = negsuc b} h = ap negsuc (omega arith)

pub nle_read : {a b : ℤ} → (a ≤ℤ b → ⊥) → pp b + nn a < pp a + nn b
nle_read {a = pos a} {b = pos b} h = omega (arith, nleb→lt a b (T_no (leb a b) (λ t. h (record { le = t }))))
nle_read {a = pos a} {b = negsuc b} h = omega arith
nle_read {a = negsuc a} {b = pos b} h = absurd (h (record { le = tt }))
nle_read {a = negsuc a} {b = negsuc b} h = omega (arith, nleb→lt b a (T_no (leb b a) (λ t. h (record { le = t }))))

pub nlt_read : {a b : ℤ} → (a <ℤ b → ⊥) → pp b + nn a ≤ pp a + nn b
nlt_read {a = pos a} {b = pos b} h = omega (arith, nltb→le a b (T_no (ltb a b) (λ t. h (record { lt = t }))))
nlt_read {a = pos a} {b = negsuc b} h = omega arith
nlt_read {a = negsuc a} {b = pos b} h = absurd (h (record { lt = tt }))
nlt_read {a = negsuc a} {b = negsuc b} h = omega (arith, nltb→le b a (T_no (ltb b a) (λ t. h (record { lt = t }))))

pub ne_read : {a b : ℤ} → (a ≡ b → ⊥) → pp a + nn b ≢ pp b + nn a
ne_read h e = h (eq_show e)

-- ---- the tests, as a branch leaves them
pub le_z_t : (a b : ℤ) → le_z a b ≡ true → pp a + nn b ≤ pp b + nn a
le_z_t a b e = le_read {a = a} {b = b} (record { le = subst T (sym e) tt })

pub le_z_f : (a b : ℤ) → le_z a b ≡ false → pp b + nn a < pp a + nn b
le_z_f a b e = nle_read {a = a} {b = b} (λ h. subst T e h.le)

pub lt_z_t : (a b : ℤ) → lt_z a b ≡ true → pp a + nn b < pp b + nn a
lt_z_t a b e = lt_read {a = a} {b = b} (record { lt = subst T (sym e) tt })

pub lt_z_f : (a b : ℤ) → lt_z a b ≡ false → pp b + nn a ≤ pp a + nn b
lt_z_f a b e = nlt_read {a = a} {b = b} (λ h. subst T e h.lt)

pub T_le_z_read : (a b : ℤ) → T (le_z a b) → pp a + nn b ≤ pp b + nn a
T_le_z_read a b t = le_read {a = a} {b = b} (record { le = t })

pub T_le_z_show : (a b : ℤ) → pp a + nn b ≤ pp b + nn a → T (le_z a b)
T_le_z_show a b h = (le_show {a = a} {b = b} h).le

pub T_lt_z_read : (a b : ℤ) → T (lt_z a b) → pp a + nn b < pp b + nn a
T_lt_z_read a b t = lt_read {a = a} {b = b} (record { lt = t })

pub T_lt_z_show : (a b : ℤ) → pp a + nn b < pp b + nn a → T (lt_z a b)
T_lt_z_show a b h = (lt_show {a = a} {b = b} h).lt

is_true : (t : Bool) → T t → t ≡ true
is_true true h = refl
is_true false h = absurd h

is_false : (t : Bool) → (T t → ⊥) → t ≡ false
is_false true h = absurd (h tt)
is_false false h = refl

pub le_z_is_t : (a b : ℤ) → pp a + nn b ≤ pp b + nn a → le_z a b ≡ true
le_z_is_t a b h = is_true (le_z a b) (le_show {a = a} {b = b} h).le

pub le_z_is_f : (a b : ℤ) → pp b + nn a < pp a + nn b → le_z a b ≡ false
le_z_is_f a b h = is_false (le_z a b) (λ t. omega (arith, le_read {a = a} {b = b} (record { le = t })))

pub lt_z_is_t : (a b : ℤ) → pp a + nn b < pp b + nn a → lt_z a b ≡ true
lt_z_is_t a b h = is_true (lt_z a b) (lt_show {a = a} {b = b} h).lt

pub lt_z_is_f : (a b : ℤ) → pp b + nn a ≤ pp a + nn b → lt_z a b ≡ false
lt_z_is_f a b h = is_false (lt_z a b) (λ t. omega (arith, lt_read {a = a} {b = b} (record { lt = t })))

-- ---- a number that fits, and what the machine reads back from its bits
pub fits_read : {w : Width} {z : ℤ} → SFits w z → (pp z < 2 ^ hbits w) × (nn z ≤ 2 ^ hbits w)
fits_read {z = pos n} f = omega (arith, f.sfits)
fits_read {z = negsuc n} f = omega (arith, f.sfits)

-- pp z < nn z + 2 ^ hbits w and nn z ≤ pp z + 2 ^ hbits w, in one
pub fits_show : {w : Width} {z : ℤ} → max (suc (pp z + pp z)) (nn z + nn z) ≤ pp z + nn z + 2 ^ hbits w → SFits w z
fits_show {z = pos n} h = record { sfits = omega arith }
fits_show {z = negsuc n} h = record { sfits = omega arith }

pub back : {w : Width} {z : ℤ} → SFits w z → pp (to_z w (of_z w z)) + nn z ≡ pp z + nn (to_z w (of_z w z))
back {w} {z} f = eq_read (to_z-of_z w z f)

-- ---- sums, differences
module _ (a b : ℕ) where
  sub_pp : pp (sub_ℕ a b) ≡ a - b
  sub_pp = go (ltb a b) refl
    where
      go : (t : Bool) → ltb a b ≡ t → pp (cond t (negsuc (b - suc a)) (pos (a - b))) ≡ a - b
      go true e = omega (arith, ltb-true a b e)
      go false e = refl

  sub_nn : nn (sub_ℕ a b) ≡ b - a
  sub_nn = go (ltb a b) refl
    where
      go : (t : Bool) → ltb a b ≡ t → nn (cond t (negsuc (b - suc a)) (pos (a - b))) ≡ b - a
      go true e = omega (arith, ltb-true a b e)
      go false e = omega (arith, ltb-false a b e)

pub sum : (a b : ℤ) → pp (a +ℤ b) + (nn a + nn b) ≡ nn (a +ℤ b) + (pp a + pp b)
sum (pos a) (pos b) = omega arith
sum (pos a) (negsuc b) = omega (arith, sub_pp a (suc b), sub_nn a (suc b))
sum (negsuc a) (pos b) = omega (arith, sub_pp b (suc a), sub_nn b (suc a))
sum (negsuc a) (negsuc b) = omega arith

pub neg_pp : (a : ℤ) → pp (neg_ℤ a) ≡ nn a
neg_pp (pos zero) = refl
neg_pp (pos (suc n)) = refl
neg_pp (negsuc n) = refl

pub neg_nn : (a : ℤ) → nn (neg_ℤ a) ≡ pp a
neg_nn (pos zero) = refl
neg_nn (pos (suc n)) = refl
neg_nn (negsuc n) = refl

pub neg : (a : ℤ) → (pp (neg_ℤ a) ≡ nn a) × (nn (neg_ℤ a) ≡ pp a)
neg a = (neg_pp a, neg_nn a)

-- one of the two is 0
pub one_side : (a : ℤ) → min (pp a) (nn a) ≡ 0
one_side (pos n) = omega arith
one_side (negsuc n) = omega arith

pub diff : (a b : ℤ) → pp (a -ℤ b) + (nn a + pp b) ≡ nn (a -ℤ b) + (pp a + nn b)
diff a b = omega (arith, sum a (neg_ℤ b), neg_pp b, neg_nn b)

ruleset zz₀ = (le_read, le_show, lt_read, lt_show, eq_read, eq_show)

-- ---- products
pub prod : (a b : ℤ) → pp (a *ℤ b) + (pp a * nn b + nn a * pp b) ≡ nn (a *ℤ b) + (pp a * pp b + nn a * nn b)
prod (pos a) (pos b) = omega arith
prod (pos a) (negsuc b) = omega (arith, neg_pp (pos (a * suc b)), neg_nn (pos (a * suc b)))
prod (negsuc a) (pos b) = omega (arith, neg_pp (pos (suc a * b)), neg_nn (pos (suc a * b)))
prod (negsuc a) (negsuc b) = omega arith

pub mul_mono : (c : ℤ) {a b : ℤ} → pos 0 ≤ℤ c → a ≤ℤ b → (c *ℤ a) ≤ℤ (c *ℤ b)
mul_mono c {a} {b} p h = go c p
  where
    go : (c : ℤ) → pos 0 ≤ℤ c → (c *ℤ a) ≤ℤ (c *ℤ b)
    go (pos k) p = omega (arith, zz₀, prod (pos k) a, prod (pos k) b, mul-le-mul_left k (le_read h))
    go (negsuc k) p = absurd p.le

pub mul_anti : (c : ℤ) {a b : ℤ} → c ≤ℤ pos 0 → a ≤ℤ b → (c *ℤ b) ≤ℤ (c *ℤ a)
mul_anti c {a} {b} p h = go c p
  where
    zero_of : (k : ℕ) → k + 0 ≤ 0 + 0 → k ≡ 0
    zero_of k h = omega arith

    go : (c : ℤ) → c ≤ℤ pos 0 → (c *ℤ b) ≤ℤ (c *ℤ a)
    go (pos k) p = omega (arith, zz₀, prod (pos k) a, prod (pos k) b, mul-le-mul_left k (le_read h), ap (λ (n : ℕ). n * pp a) (zero_of k (le_read p)), ap (λ (n : ℕ). n * nn a) (zero_of k (le_read p)), ap (λ (n : ℕ). n * pp b) (zero_of k (le_read p)), ap (λ (n : ℕ). n * nn b) (zero_of k (le_read p)))
    go (negsuc k) p = omega (arith, zz₀, prod (negsuc k) a, prod (negsuc k) b, mul-le-mul_left (suc k) (le_read h))

-- ---- sizes
pub abs_is : (z : ℤ) → nat_abs z ≡ pp z + nn z
abs_is (pos n) = omega arith
abs_is (negsuc n) = omega arith

pub abs_fits : {w : Width} (z : ℤ) → nat_abs z < 2 ^ hbits w → SFits w z
abs_fits (pos n) h = record { sfits = h }
abs_fits (negsuc n) h = record { sfits = omega arith }

pub abs_sum : (a b : ℤ) → nat_abs (a +ℤ b) ≤ nat_abs a + nat_abs b
abs_sum (pos a) (pos b) = omega arith
abs_sum (pos a) (negsuc b) = omega (arith, abs_is (sub_ℕ a (suc b)), sub_pp a (suc b), sub_nn a (suc b))
abs_sum (negsuc a) (pos b) = omega (arith, abs_is (sub_ℕ b (suc a)), sub_pp b (suc a), sub_nn b (suc a))
abs_sum (negsuc a) (negsuc b) = omega arith

abs_neg : (z : ℤ) → nat_abs (neg_ℤ z) ≡ nat_abs z
abs_neg (pos zero) = refl
abs_neg (pos (suc n)) = refl
abs_neg (negsuc n) = refl

pub abs_mul : (a b : ℤ) → nat_abs (a *ℤ b) ≡ nat_abs a * nat_abs b
abs_mul (pos a) (pos b) = refl
abs_mul (pos a) (negsuc b) = abs_neg (pos (a * suc b))
abs_mul (negsuc a) (pos b) = abs_neg (pos (suc a * b))
abs_mul (negsuc a) (negsuc b) = refl

pub abs_mul_le : (a b : ℤ) {m n : ℕ} → nat_abs a ≤ m → nat_abs b ≤ n → nat_abs (a *ℤ b) ≤ m * n
abs_mul_le a b {m} {n} h k = rw (abs_mul a b) (mul-le-mul h k)

-- what a read of an element and a call's result hand over, `c.x.given` and `c.f.ok`, as the record that `to_z-of_z` and the rule `back` ask: `let m = fit w32 c.f.result c.f.ok in`
pub fit : (w : Width) (z : ℤ) → mag z < 2 ^ hbits w → SFits w z
fit w z p = record { sfits = p }

-- a word's number fits 64 bits
pub wide : {z : ℤ} → SFits w32 z → SFits w64 z
wide f = sfits_widen tt f

-- two words' product fits 64 bits
pub mul_fits : {a b : ℤ} → SFits w32 a → SFits w32 b → SFits w64 (a *ℤ b)
mul_fits {a} {b} f g = abs_fits (a *ℤ b) (omega (arith, abs_mul_le a b (nat_abs-le a f.sfits) (nat_abs-le b g.sfits)))

-- ---- a sum on one side or on both is opened: these stand first in `zz`, since `omega` takes the first rule that fits
pub le_read_lr : (a b c d : ℤ) → (a +ℤ b) ≤ℤ (c +ℤ d) → (pp a + pp b) + (nn c + nn d) ≤ (pp c + pp d) + (nn a + nn b)
le_read_lr a b c d h = omega (arith, zz₀, sum a b, sum c d)

pub le_show_lr : (a b c d : ℤ) → (pp a + pp b) + (nn c + nn d) ≤ (pp c + pp d) + (nn a + nn b) → (a +ℤ b) ≤ℤ (c +ℤ d)
le_show_lr a b c d h = omega (arith, zz₀, sum a b, sum c d)

pub le_read_l : (a b c : ℤ) → (a +ℤ b) ≤ℤ c → (pp a + pp b) + nn c ≤ pp c + (nn a + nn b)
le_read_l a b c h = omega (arith, zz₀, sum a b)

pub le_show_l : (a b c : ℤ) → (pp a + pp b) + nn c ≤ pp c + (nn a + nn b) → (a +ℤ b) ≤ℤ c
le_show_l a b c h = omega (arith, zz₀, sum a b)

pub le_read_r : (a b c : ℤ) → a ≤ℤ (b +ℤ c) → pp a + (nn b + nn c) ≤ (pp b + pp c) + nn a
le_read_r a b c h = omega (arith, zz₀, sum b c)

pub le_show_r : (a b c : ℤ) → pp a + (nn b + nn c) ≤ (pp b + pp c) + nn a → a ≤ℤ (b +ℤ c)
le_show_r a b c h = omega (arith, zz₀, sum b c)

pub lt_read_lr : (a b c d : ℤ) → (a +ℤ b) <ℤ (c +ℤ d) → (pp a + pp b) + (nn c + nn d) < (pp c + pp d) + (nn a + nn b)
lt_read_lr a b c d h = omega (arith, zz₀, sum a b, sum c d)

pub lt_show_lr : (a b c d : ℤ) → (pp a + pp b) + (nn c + nn d) < (pp c + pp d) + (nn a + nn b) → (a +ℤ b) <ℤ (c +ℤ d)
lt_show_lr a b c d h = omega (arith, zz₀, sum a b, sum c d)

pub lt_read_l : (a b c : ℤ) → (a +ℤ b) <ℤ c → (pp a + pp b) + nn c < pp c + (nn a + nn b)
lt_read_l a b c h = omega (arith, zz₀, sum a b)

pub lt_show_l : (a b c : ℤ) → (pp a + pp b) + nn c < pp c + (nn a + nn b) → (a +ℤ b) <ℤ c
lt_show_l a b c h = omega (arith, zz₀, sum a b)

pub lt_read_r : (a b c : ℤ) → a <ℤ (b +ℤ c) → pp a + (nn b + nn c) < (pp b + pp c) + nn a
lt_read_r a b c h = omega (arith, zz₀, sum b c)

pub lt_show_r : (a b c : ℤ) → pp a + (nn b + nn c) < (pp b + pp c) + nn a → a <ℤ (b +ℤ c)
lt_show_r a b c h = omega (arith, zz₀, sum b c)

pub eq_read_lr : (a b c d : ℤ) → (a +ℤ b) ≡ (c +ℤ d) → (pp a + pp b) + (nn c + nn d) ≡ (pp c + pp d) + (nn a + nn b)
eq_read_lr a b c d h = omega (arith, zz₀, sum a b, sum c d)

pub eq_show_lr : (a b c d : ℤ) → (pp a + pp b) + (nn c + nn d) ≡ (pp c + pp d) + (nn a + nn b) → (a +ℤ b) ≡ (c +ℤ d)
eq_show_lr a b c d h = omega (arith, zz₀, sum a b, sum c d)

pub eq_read_l : (a b c : ℤ) → (a +ℤ b) ≡ c → (pp a + pp b) + nn c ≡ pp c + (nn a + nn b)
eq_read_l a b c h = omega (arith, zz₀, sum a b)

pub eq_show_l : (a b c : ℤ) → (pp a + pp b) + nn c ≡ pp c + (nn a + nn b) → (a +ℤ b) ≡ c
eq_show_l a b c h = omega (arith, zz₀, sum a b)

pub eq_read_r : (a b c : ℤ) → a ≡ (b +ℤ c) → pp a + (nn b + nn c) ≡ (pp b + pp c) + nn a
eq_read_r a b c h = omega (arith, zz₀, sum b c)

pub eq_show_r : (a b c : ℤ) → pp a + (nn b + nn c) ≡ (pp b + pp c) + nn a → a ≡ (b +ℤ c)
eq_show_r a b c h = omega (arith, zz₀, sum b c)

-- what `omega` is handed beside `arith` to read and to prove facts of ℤ
pub ruleset zz = (le_read_lr, le_show_lr, le_read_l, le_show_l, le_read_r, le_show_r, lt_read_lr, lt_show_lr, lt_read_l, lt_show_l, lt_read_r, lt_show_r, eq_read_lr, eq_show_lr, eq_read_l, eq_show_l, eq_read_r, eq_show_r, le_read, le_show, lt_read, lt_show, eq_read, eq_show, le_z_t, le_z_f, lt_z_t, lt_z_f, le_z_is_t, le_z_is_f, lt_z_is_t, lt_z_is_f, T_le_z_read, T_le_z_show, T_lt_z_read, T_lt_z_show, back, fits_show)

-- ---- a test of two words' bits, said of the words: equations that `search` rewrites by
module _ (a b : ℤ) (f : SFits w32 a) (g : SFits w32 b) where
  pub le32_t : le_z (to_z w32 (of_z w32 a)) (to_z w32 (of_z w32 b)) ≡ true → le_z a b ≡ true
  le32_t e = omega (arith, zz)

  pub le32_f : le_z (to_z w32 (of_z w32 a)) (to_z w32 (of_z w32 b)) ≡ false → le_z a b ≡ false
  le32_f e = omega (arith, zz)

  pub le32_nlt : lt_z (to_z w32 (of_z w32 b)) (to_z w32 (of_z w32 a)) ≡ false → le_z a b ≡ true
  le32_nlt e = omega (arith, zz)

  pub le32_lt : lt_z (to_z w32 (of_z w32 b)) (to_z w32 (of_z w32 a)) ≡ true → le_z a b ≡ false
  le32_lt e = omega (arith, zz)

  pub lt32_t : lt_z (to_z w32 (of_z w32 a)) (to_z w32 (of_z w32 b)) ≡ true → lt_z a b ≡ true
  lt32_t e = omega (arith, zz)

  pub lt32_f : lt_z (to_z w32 (of_z w32 a)) (to_z w32 (of_z w32 b)) ≡ false → lt_z a b ≡ false
  lt32_f e = omega (arith, zz)

-- ---- equal words. A test of equality compares bits
abbrev pub eq_z : ℤ → ℤ → Bool
eq_z (pos a) (pos b) = eqb a b
eq_z (pos a) (negsuc b) = false
eq_z (negsuc a) (pos b) = false
eq_z (negsuc a) (negsuc b) = eqb a b

pub eq_z_refl : (a : ℤ) → eq_z a a ≡ true
eq_z_refl (pos a) = eq-eqb a a refl
eq_z_refl (negsuc a) = eq-eqb a a refl

pub eq_z_eq : (a b : ℤ) → eq_z a b ≡ true → a ≡ b
eq_z_eq (pos a) (pos b) e = ap pos (eqb-true a b e)
eq_z_eq (pos a) (negsuc b) e = absurd (subst T (sym e) tt)
eq_z_eq (negsuc a) (pos b) e = absurd (subst T (sym e) tt)
eq_z_eq (negsuc a) (negsuc b) e = ap negsuc (eqb-true a b e)

pub eq_z_t : {a b : ℤ} → a ≡ b → eq_z a b ≡ true
eq_z_t {a} {b} e = subst (λ (x : ℤ). eq_z a x ≡ true) e (eq_z_refl a)

pub eq_z_f : {a b : ℤ} → (a ≡ b → ⊥) → eq_z a b ≡ false
eq_z_f {a} {b} h = is_false (eq_z a b) (λ t. h (eq_z_eq a b (is_true (eq_z a b) t)))

pub bits_eq : {w : Width} {a b : ℤ} → SFits w a → SFits w b → of_z w a ≡ of_z w b → a ≡ b
bits_eq {w} {a} {b} f g e = sym (to_z-of_z w a f) ∙ ap (to_z w) e ∙ to_z-of_z w b g

-- a word that was found equal to a literal
pub is_lit : {a : ℤ} (b : ℤ) → SFits w32 a → of_z w32 a ≡ of_z w32 b → T (ltb (mag b) (2 ^ 31)) → a ≡ b
is_lit {a} b f e t = bits_eq {w = w32} f (sfits_lit t) e

pub eq32_t : (a b : ℤ) → SFits w32 a → SFits w32 b → of_z w32 a ≡ of_z w32 b → eq_z a b ≡ true
eq32_t a b f g e = eq_z_t (bits_eq f g e)

pub eq32_f : (a b : ℤ) → (of_z w32 a ≡ of_z w32 b → ⊥) → eq_z a b ≡ false
eq32_f a b h = eq_z_f {a = a} {b = b} (λ e. h (ap (of_z w32) e))

pub eqb_bits : {a b : ℤ} → SFits w32 a → SFits w32 b → eqb (of_z w32 a) (of_z w32 b) ≡ eq_z a b
eqb_bits {a} {b} f g = go (eqb (of_z w32 a) (of_z w32 b)) refl
  where
    go : (t : Bool) → eqb (of_z w32 a) (of_z w32 b) ≡ t → t ≡ eq_z a b
    go true e = sym (eq32_t a b f g (eqb-true (of_z w32 a) (of_z w32 b) e))
    go false e = sym (eq32_f a b (eqb-false (of_z w32 a) (of_z w32 b) e))

-- two words' sum and difference fit 64 bits
pub add_fits : {a b : ℤ} → SFits w32 a → SFits w32 b → SFits w64 (a +ℤ b)
add_fits {a} {b} f g = omega (arith, zz, fits_read f, fits_read g, sum a b)

pub sub_fits : {a b : ℤ} → SFits w32 a → SFits w32 b → SFits w64 (a -ℤ b)
sub_fits {a} {b} f g = omega (arith, zz, fits_read f, fits_read g, diff a b)

-- what `search` is handed beside `needs`
pub ruleset words = (wide, mul_fits, add_fits, sub_fits, eqb_bits)
