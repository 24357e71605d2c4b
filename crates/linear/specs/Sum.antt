-- The sum of a linear row's least terms, term by term, and its size.
use Rattle.std.specs.Prelude.{ℕ, ◌+◌, ◌*◌, ◌≤◌, ◌<◌, ◌≡◌, refl, true, false, ℤ, pos, negsuc, nat_abs, ◌+ℤ◌, ◌*ℤ◌}
use Rattle.std.proofs.Common.{ap, arith, SFits}
use mathlib.Core.List.{List, Memᴰ as In}
use Rattle.std.specs.Int.Signed.{lt_z}
use Rattle.std.specs.Int.{w64}
use Rattle.meaning.specs.Limits.{most_parts, most_value, most_coefficient}
use Rattle.words.specs.Int.{zz, sum, abs_sum, abs_fits, abs_mul_le}
use Rattle.words.specs.Lists.{least, largest}
use Rattle.meaning.specs.Rule.{least_term, least_sum}
use Rattle.reading.specs.At.{each_at, int_at, nat_at}
use Rattle.model.specs.Rows.{term_at}
use Rattle.rule_facts.specs.Ready.{least_small, largest_small}
use Rattle.rule_facts.specs.Each.{each_from, from_start, from_next, from_end}

-- ---- a coefficient below zero takes the largest value left, any other the smallest
pub term_below : (c : ℤ) (vs : List ℤ) → lt_z c (pos 0) ≡ true → least_term c vs ≡ c *ℤ largest vs
term_below (pos n) vs e = absurd (omega (arith, zz))
term_below (negsuc n) vs e = refl

pub term_above : (c : ℤ) (vs : List ℤ) → lt_z c (pos 0) ≡ false → least_term c vs ≡ c *ℤ least vs
term_above (pos n) vs e = refl
term_above (negsuc n) vs e = absurd (omega (arith, zz))

-- the most that a term can be
abbrev pub most_term : ℕ
most_term = most_coefficient * most_value

pub term_small : (c : ℤ) (vs : List ℤ) → nat_abs c ≤ most_coefficient → ((v : ℤ) → In v vs → nat_abs v ≤ most_value) → nat_abs (least_term c vs) ≤ most_term
term_small (pos n) vs h k = abs_mul_le (pos n) (least vs) h (least_small most_value vs k)
term_small (negsuc n) vs h k = abs_mul_le (negsuc n) (largest vs) h (largest_small most_value vs k)

-- one term more than i: as many as a row can have fit a word
pub more_small : (s t : ℤ) (i : ℕ) → i < most_parts → nat_abs s ≤ i * most_term → nat_abs t ≤ most_term → (nat_abs (s +ℤ t) ≤ (i + 1) * most_term) × SFits w64 (s +ℤ t)
more_small s t i h hs ht =
    let n : nat_abs (s +ℤ t) ≤ (i + 1) * most_term = omega (arith, abs_sum s t) in
    (n, abs_fits (s +ℤ t) (omega arith))

-- ---- the sum: what was added up and what is still to come make the whole
module _ (d : ℕ → List ℤ) (n : ℕ) (m : List ℤ) (p : ℕ) where
  -- the i-th term's part
  abbrev pub part : ℕ → ℤ
  part i = least_term (int_at m (p + i * 2)) (d (nat_at m (p + i * 2 + 1)))

  abbrev pub whole : ℤ
  whole = least_sum d (each_at term_at 2 n m p)

  abbrev pub rest : ℕ → ℤ
  rest i = least_sum d (each_from term_at 2 n m p i)

  pub sum_start : whole ≡ pos 0 +ℤ rest 0
  sum_start = rw (from_start term_at 2 n m p) (omega (arith, zz))

  pub sum_next : (i : ℕ) (s : ℤ) → i < n → whole ≡ s +ℤ rest i → whole ≡ (s +ℤ part i) +ℤ rest (i + 1)
  sum_next i s h e = let q = ap (least_sum d) (from_next term_at 2 n m p i h) in omega (arith, zz, sum s (part i), sum (part i) (rest (i + 1)))

  pub sum_end : (i : ℕ) (s : ℤ) → n ≤ i → whole ≡ s +ℤ rest i → s ≡ whole
  sum_end i s h e = let q = ap (least_sum d) (from_end term_at 2 n m p i h) in omega (arith, zz)
