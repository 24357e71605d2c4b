-- A set of rows as one number, with one bit for each row: bit r is the r-th flag.
use Rattle.std.specs.Prelude.{ℕ, zero, suc, ◌+◌, ◌*◌, ◌/◌, ◌%◌, ◌^◌, ◌<◌, ◌≡◌, refl, Bool, true, false, List, [], ◌∷◌, ◌++◌, eqb, length, take, get_or}
use Rattle.std.proofs.Common.{sym, ap, ◌∙◌, mod-eq_of_lt, one-mul, div-one, add-one, arith, length-take, take-suc}
use Rattle.std.proofs.Math.Nat.{two-pow-succ, pow-zero, pow-succ', zero-div, div-div-eq-div-mul}
use Rattle.std.specs.Int.Bits.{bit_or, or_shifted_r}
use Rattle.std.specs.Int.Count.{ones, ones_in, ones_step}
use Rattle.std.proofs.Math.Pow.{pow-lt}
use Rattle.meaning.specs.Check as says

-- is row r in the set
abbrev pub bit_at : ℕ → ℕ → Bool
bit_at set r = eqb (set / 2 ^ r % 2) 1

abbrev pub bit : Bool → ℕ
bit true = 1
bit false = 0

-- the set with a bit for each flag that is true
abbrev pub packed : List Bool → ℕ
packed [] = 0
packed (b ∷ bs) = bit b + packed bs * 2

bit_small : (b : Bool) → bit b < 2
bit_small true = omega arith
bit_small false = omega arith

odd : (b : Bool) (n : ℕ) → (bit b + n * 2) % 2 ≡ bit b
odd true n = omega arith
odd false n = omega arith

half : (b : Bool) (n : ℕ) → (bit b + n * 2) / 2 ≡ n
half true n = omega arith
half false n = omega arith

pub ones_packed : (bs : List Bool) → ones (packed bs) ≡ says.ones bs
unfolding ones ones_in
ones_packed [] = refl
ones_packed (true ∷ bs) = ones_step (packed (true ∷ bs)) ∙ rw (odd true (packed bs), half true (packed bs), ones_packed bs) (omega arith)
ones_packed (false ∷ bs) = ones_step (packed (false ∷ bs)) ∙ rw (odd false (packed bs), half false (packed bs), ones_packed bs) (omega arith)

pub bit_packed : (bs : List Bool) (r : ℕ) → bit_at (packed bs) r ≡ get_or bs r false
bit_packed [] r = rw zero-div
bit_packed (true ∷ bs) zero = rw (pow-zero 2, div-one, odd true (packed bs))
bit_packed (false ∷ bs) zero = rw (pow-zero 2, div-one, odd false (packed bs))
bit_packed (b ∷ bs) (suc r) = rw (pow-succ' 2 r, ← div-div-eq-div-mul (bit b + packed bs * 2) 2 (2 ^ r), half b (packed bs)) (bit_packed bs r)

pub packed_lt : (bs : List Bool) → packed bs < 2 ^ length bs
packed_lt [] = omega arith
packed_lt (b ∷ bs) = let h = packed_lt bs in let k = bit_small b in rw two-pow-succ (omega arith)

packed_more : (bs : List Bool) (b : Bool) → packed (bs ++ (b ∷ [])) ≡ packed bs + bit b * 2 ^ length bs
packed_more [] b = omega arith
packed_more (c ∷ bs) true = let h = packed_more bs true in rw two-pow-succ (omega arith)
packed_more (c ∷ bs) false = let h = packed_more bs false in omega arith

-- the set of the first k rows with row k in it or not, as the code makes it
module _ (bs : List Bool) (k : ℕ) (h : k < length bs) where
  next_flag : {b : Bool} → get_or bs k false ≡ b → packed (take (k + 1) bs) ≡ packed (take k bs) + bit b * 2 ^ k
  next_flag {b} e =
      let z : length (take k bs) ≡ k = simp length-take (omega arith) in
      rw (add-one k, take-suc bs k false h, e) (packed_more (take k bs) b ∙ ap (λ n. packed (take k bs) + bit b * 2 ^ n) z)

  pub row_left : get_or bs k false ≡ false → packed (take k bs) ≡ packed (take (k + 1) bs)
  row_left e = sym (next_flag e ∙ omega arith)

  pub row_put : k < 64 → get_or bs k false ≡ true → bit_or (packed (take k bs)) ((1 * 2 ^ k) % 2 ^ 64) ≡ packed (take (k + 1) bs)
  row_put l e =
      let s : 1 * 2 ^ k < 2 ^ 64 = rw one-mul (pow-lt {i = k} {j = 64} l) in
      let z : length (take k bs) ≡ k = simp length-take (omega arith) in
      let small : packed (take k bs) < 2 ^ k = rw z at (packed_lt (take k bs)) in
      ap (bit_or (packed (take k bs))) (mod-eq_of_lt s) ∙ or_shifted_r 1 k (packed (take k bs)) small ∙ sym (next_flag e ∙ omega arith)
