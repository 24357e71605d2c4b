-- Where the rows of a model begin.
use Rattle.std.specs.Prelude.{ℕ, zero, suc, ◌+◌, ◌-◌, ◌≤◌, ◌<◌, ◌≡◌, refl, List, [], ◌∷◌, ◌++◌, ℤ, set, take, drop, length}
use Rattle.std.proofs.Math.Nat.{sub-zero}
use Rattle.std.proofs.Common.{sym, ap, ◌∙◌, add-one, length-set}
use Rattle.std.proofs.lemmas.List.{set-append_left, length-take-le, take-append-drop}
use native.Mathlib.Omega.{arith}
use Rattle.std.proofs.lemmas.List.Edits.{sets}
use Rattle.meaning.specs.Limits.{most_variables, most_rows}
use Rattle.meaning.specs.Read.{Got, got, refused, times}
use Rattle.reading.specs.Reading.{skim, skim_got, skim_refused}
use Rattle.meaning.specs.Model.{number, bounds_pair, row}

abbrev pub starts_on : {A : Type 0} → Got A → (A → ℕ → List ℤ → List ℕ) → List ℕ
starts_on (got a n ws) k = k a n ws
starts_on (refused num p) k = []

-- the first words of the rows that are read, the one that is refused included
unfoldable pub row_starts : ℕ → ℕ → ℕ → List ℤ → List ℕ
row_starts v zero at ws = []
row_starts v (suc c) at ws = at ∷ starts_on (row v at ws) (λ r n vs. row_starts v c n vs)

unfoldable pub model_starts : List ℤ → List ℕ
model_starts s =
    starts_on (number 1 most_variables 0 s) (λ v at ws.
    starts_on (times v bounds_pair at ws) (λ bs at ws.
    starts_on (number 0 most_rows at ws) (λ c at ws. row_starts v c at ws)))

-- ---- a loop over c rows: what is left to note after i of them
module _ (v : ℕ) (s : List ℤ) (c : ℕ) where
  abbrev pub starts_left : List ℕ → ℕ → ℕ → List ℕ
  starts_left l i at = sets l i (row_starts v (c - i) at (drop at s))

  pub starts_all : (l : List ℕ) (at : ℕ) → sets l 0 (row_starts v c at (drop at s)) ≡ starts_left l 0 at
  starts_all l at = rw sub-zero

  suc_left : (i : ℕ) → i < c → c - i ≡ suc (c - (i + 1))
  suc_left i h = omega arith

  pub starts_more : (l : List ℕ) (i at : ℕ) {m : ℕ} → i < c → skim (row v at (drop at s)) ≡ got tt m (drop m s) → starts_left l i at ≡ starts_left (set l i at) (i + 1) m
  unfolding row_starts
  starts_more l i at h e = let (r, q) = skim_got (row v at (drop at s)) e in rw (suc_left i h, q, add-one)

  pub starts_stop : (l : List ℕ) (i at : ℕ) {num p : ℕ} → i < c → skim (row v at (drop at s)) ≡ refused num p → starts_left l i at ≡ set l i at
  unfolding row_starts
  starts_stop l i at h e = rw (suc_left i h, skim_refused (row v at (drop at s)) e)

  pub starts_none : (l : List ℕ) (i at : ℕ) → c ≤ i → starts_left l i at ≡ l
  unfolding row_starts
  starts_none l i at h = let z : c - i ≡ 0 = omega arith in rw z

-- ---- the rows have the first entries of a table, and the others stay
few_on : {A : Type 0} (g : Got A) (k : A → ℕ → List ℤ → List ℕ) (c : ℕ) → ((a : A) (n : ℕ) (ws : List ℤ) → length (k a n ws) ≤ c) → length (starts_on g k) ≤ c
few_on (got a n ws) k c h = h a n ws
few_on (refused num p) k c h = omega arith

few_starts : (v c at : ℕ) (ws : List ℤ) → length (row_starts v c at ws) ≤ c
unfolding row_starts
few_starts v zero at ws = omega arith
few_starts v (suc c) at ws = omega (arith, few_on (row v at ws) (λ r n vs. row_starts v c n vs) c (λ r n vs. few_starts v c n vs))

sets_front : (l r xs : List ℕ) (i : ℕ) → i + length xs ≤ length l → sets (l ++ r) i xs ≡ sets l i xs ++ r
sets_front l r [] i h = refl
sets_front l r (x ∷ xs) i h =
    let e : i < length l = omega arith in
    rw (set-append_left l r i x e) (sets_front (set l i x) r xs (suc i) (omega (arith, length-set l i x)))

pub starts_first : (v c at : ℕ) (ws : List ℤ) (l : List ℕ) → c ≤ length l → sets (take c l) 0 (row_starts v c at ws) ++ drop c l ≡ sets l 0 (row_starts v c at ws)
starts_first v c at ws l h =
    let xs = row_starts v c at ws in
    sym (sets_front (take c l) (drop c l) xs 0 (omega (arith, few_starts v c at ws, length-take-le c l h))) ∙ ap (λ (k : List ℕ). sets k 0 xs) (take-append-drop c l)
