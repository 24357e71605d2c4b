-- The pigeonhole: different values in a list are no more than the list is long; so n different numbers below n are all the numbers below n.
use Prim.Native.Nat.{ℕ, zero, suc, ◌≤◌, ◌<◌}
use Rattle.std.proofs.Common.{arith, ◌∙◌, inl, inr, ⊎_elim, eqb-true, eq-eqb}
use Rattle.std.specs.Prelude.{◌≡◌, true, false, ◌⊎◌, eqb, length, get_or}
use Rattle.std.proofs.Math.Path.{refl, sym, ap}
use mathlib.Core.List.Memᴰ.{head as here}
use mathlib.Core.List.Memᴰ.{not-nil as not-in-nil}
use mathlib.Core.List.Memᴰ.{tail as there}
use mathlib.Core.List.{List, [], ◌∷◌, Memᴰ as In}
use Rattle.words.specs.Lists.{All, also}
use Rattle.words.specs.ListFacts.{tested, clash, each_in, each_of, each_at_lem, each_from}
use Rattle.meaning.specs.Below.{some_below, some_found, some_holds, up_to_lem}

-- ---- a list without one of its members
module _ {A : Type 0} where
  without : {v : A} {vs : List A} → In v vs → List A
  without (here {xs = vs} e) = vs
  without (there {x = w} i) = w ∷ without i

  without_length : {v : A} {vs : List A} (i : In v vs) → suc (length (without i)) ≡ length vs
  unfolding without
  without_length (here e) = refl
  without_length (there i) = ap suc (without_length i)

  without_in : {v w : A} {vs : List A} (i : In v vs) → In w vs → (v ≡ w → ⊥) → In w (without i)
  unfolding without
  without_in (here e) (here e') d = absurd (d (e ∙ sym e'))
  without_in (here e) (there j) d = j
  without_in (there i) (here e) d = here e
  without_in (there i) (there j) d = there (without_in i j d)

module _ {A B : Type 0} (f : B → A) where
  -- no two of these have the same value
  abbrev pub Apart : List B → Type 0
  Apart [] = Unit {0}
  Apart (x ∷ xs) = All (λ (y : B). f x ≡ f y → ⊥) xs × Apart xs

  pub apart_of : (d : B) (xs : List B) → ((i j : ℕ) → i < j → j < length xs → f (get_or xs i d) ≡ f (get_or xs j d) → ⊥) → Apart xs
  apart_of d [] h = tt
  apart_of d (x ∷ xs) h = (each_from d xs (λ j k. h 0 (suc j) (omega arith) (omega arith)), apart_of d xs (λ i j k l. h (suc i) (suc j) (omega arith) (omega arith)))

  pub apart_at : (d : B) (xs : List B) → Apart xs → (i j : ℕ) → i < j → j < length xs → f (get_or xs i d) ≡ f (get_or xs j d) → ⊥
  apart_at d [] h i j k l = absurd (omega arith)
  apart_at d (x ∷ xs) h i zero k l = absurd (omega arith)
  apart_at d (x ∷ xs) h zero (suc j) k l = each_at_lem d j (omega arith) h.0
  apart_at d (x ∷ xs) h (suc i) (suc j) k l = apart_at d xs h.1 i j (omega arith) (omega arith)

  pub pigeonhole : (xs : List B) (vs : List A) → Apart xs → All (λ (x : B). In (f x) vs) xs → length xs ≤ length vs
  pigeonhole [] vs d h = omega arith
  pigeonhole (x ∷ xs) vs d (also i is) =
      let l = pigeonhole xs (without i) d.1 (each_of xs (λ y j. without_in i (each_in is j) (each_in d.0 j))) in
      omega (arith, without_length i)

-- ---- the numbers below n
up_to : ℕ → List ℕ
up_to zero = []
up_to (suc n) = n ∷ up_to n

up_to_length : (n : ℕ) → length (up_to n) ≡ n
unfolding up_to
up_to_length zero = refl
up_to_length (suc n) = ap suc (up_to_length n)

in_up_to : {i : ℕ} (n : ℕ) → In i (up_to n) → i < n
unfolding up_to
in_up_to zero m = absurd (not-in-nil m)
in_up_to (suc n) (here e) = omega arith
in_up_to (suc n) (there m) = let h = in_up_to n m in omega arith

up_to_in : {i : ℕ} (n : ℕ) → i < n → In i (up_to n)
unfolding up_to
up_to_in zero h = absurd (omega arith)
up_to_in (suc n) h = ⊎_elim (λ l. there (up_to_in n l)) (λ e. here e) (up_to_lem h)

abbrev pub Below : ℕ → ℕ → (ℕ → ℕ) → Type 0
Below m n f = (i : ℕ) → i < m → f i < n

abbrev pub Different : ℕ → (ℕ → ℕ) → Type 0
Different m f = (i j : ℕ) → i < j → j < m → f i ≡ f j → ⊥

different_apart : (n : ℕ) (f : ℕ → ℕ) → Different n f → Apart f (up_to n)
unfolding up_to
different_apart zero f dif = tt
different_apart (suc n) f dif = (each_of (up_to n) (λ i m e. dif i n (in_up_to n m) (omega arith) (sym e)), different_apart n f (λ i j h k. dif i j h (omega arith)))

pub all_met : (n : ℕ) (f : ℕ → ℕ) → Below n n f → Different n f → (v : ℕ) → v < n → (k : ℕ) × (k < n) × (f k ≡ v)
all_met n f b dif v h = go (tested (some_below (λ k. eqb (f k) v) n))
  where
    missed : ((k : ℕ) → k < n → f k ≡ v → ⊥) → ⊥
    missed miss =
        let i = up_to_in n h in
        let l = pigeonhole f (up_to n) (without i) (different_apart n f dif) (each_of (up_to n) (λ k m. without_in i (up_to_in n (b k (in_up_to n m))) (λ e. miss k (in_up_to n m) (sym e)))) in
        omega (arith, without_length i, up_to_length n)

    go : (some_below (λ k. eqb (f k) v) n ≡ true) ⊎ (some_below (λ k. eqb (f k) v) n ≡ false) → (k : ℕ) × (k < n) × (f k ≡ v)
    go (inl e) = let (k, l, q) = some_found (λ k. eqb (f k) v) n e in (k, l, eqb-true (f k) v q)
    go (inr e) = absurd (missed (λ k l q. clash (some_holds (λ k. eqb (f k) v) n k l (eq-eqb (f k) v q)) e))

-- a list that has every number below n is at least n long
pub not_fewer : (n : ℕ) (vs : List ℕ) → ((i : ℕ) → i < n → In i vs) → n ≤ length vs
not_fewer n vs h = let l = pigeonhole (λ i. i) (up_to n) vs (different_apart n (λ i. i) (λ i j k g e. omega arith)) (each_of (up_to n) (λ i m. h i (in_up_to n m))) in omega (arith, up_to_length n)
