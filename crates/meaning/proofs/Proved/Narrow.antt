-- What one atom more does to a box: it narrows its own variable's set and leaves the others as they are; so that set alone can become empty.
use Rattle.std.specs.Prelude.{ℕ, zero, suc, ◌<◌, ◌≡◌, refl, Bool, true, false, not, ◌&&◌, ◌||◌, List, [], ◌∷◌, eqb, length}
use Rattle.std.proofs.Common.{arith, sym, ap, ap₂, subst, ◌∙◌, ⊎_elim, eqb-true, eq-eqb}
use Rattle.words.specs.Lists.{all, keep_if, keep, is_empty}
use Rattle.words.specs.ListFacts.{tested, clash, same_test, or_cases, or_left, or_right, or_none_lem}
use Rattle.meaning.specs.Model.{Bounds}
use Rattle.meaning.specs.Log.{Atom}
use Rattle.meaning.specs.Box.{meets, met_by, declared_at, left, any_empty}
use Rattle.meaning.specs.Below.{up_to_lem}

-- ---- what two tests keep
module _ {A : Type 0} where
  pub keep_and : (p q : A → Bool) (xs : List A) → keep (λ x. p x && q x) xs ≡ keep p (keep q xs)
  keep_and p q [] = refl
  keep_and p q (x ∷ xs) = ap (keep_if (p x && q x) x) (keep_and p q xs) ∙ go (p x) refl (q x)
    where
      go : (a : Bool) → p x ≡ a → (b : Bool) → keep_if (a && b) x (keep p (keep q xs)) ≡ keep p (keep_if b x (keep q xs))
      go true e true = ap (λ c. keep_if c x (keep p (keep q xs))) (sym e)
      go true e false = refl
      go false e true = ap (λ c. keep_if c x (keep p (keep q xs))) (sym e)
      go false e false = refl

  pub keep_same : (p q : A → Bool) (xs : List A) → ((x : A) → p x ≡ q x) → keep p xs ≡ keep q xs
  keep_same p q [] h = refl
  keep_same p q (x ∷ xs) h = ap₂ (λ b ys. keep_if b x ys) (h x) (keep_same p q xs h)

  pub keep_all : (p : A → Bool) (xs : List A) → ((x : A) → p x ≡ true) → keep p xs ≡ xs
  keep_all p [] h = refl
  keep_all p (x ∷ xs) h = ap₂ (λ b ys. keep_if b x ys) (h x) (keep_all p xs h)

module _ (bs : List Bounds) (c : Atom) (box : List Atom) where
  pub left_narrowed : (x : ℕ) → left bs (c ∷ box) x ≡ keep (λ v. met_by x v c) (left bs box x)
  left_narrowed x = keep_and (λ v. met_by x v c) (λ v. all (met_by x v) box) (declared_at bs x)

  -- the atom's own variable
  pub left_own : left bs (c ∷ box) c.variable ≡ keep (λ v. meets c.relation v c.value) (left bs box c.variable)
  left_own =
      left_narrowed c.variable
      ∙ keep_same (λ v. met_by c.variable v c) (λ v. meets c.relation v c.value) (left bs box c.variable) (λ v. ap (λ b. not b || meets c.relation v c.value) (eq-eqb c.variable c.variable refl))

  -- any other
  pub left_other : (x : ℕ) → eqb x c.variable ≡ false → left bs (c ∷ box) x ≡ left bs box x
  left_other x n = left_narrowed x ∙ keep_all (λ v. met_by x v c) (left bs box x) (λ v. ap (λ b. not b || meets c.relation v c.value) n)

  own_empty : (x : ℕ) → is_empty (left bs box x) ≡ false → is_empty (left bs (c ∷ box) x) ≡ true → is_empty (left bs (c ∷ box) c.variable) ≡ true
  own_empty x h e =
      ⊎_elim (λ y. subst (λ z. is_empty (left bs (c ∷ box) z) ≡ true) (eqb-true x c.variable y) e) (λ n. clash (sym (ap is_empty (left_other x n)) ∙ e) h)
      (tested (eqb x c.variable))

  some_empty : (n : ℕ) → any_empty bs box n ≡ false → any_empty bs (c ∷ box) n ≡ true → is_empty (left bs (c ∷ box) c.variable) ≡ true
  some_empty zero h e = clash e refl
  some_empty (suc n) h e =
      ⊎_elim (own_empty n (or_none_lem (is_empty (left bs box n)) (any_empty bs box n) h).0) (some_empty n (or_none_lem (is_empty (left bs box n)) (any_empty bs box n) h).1)
      (or_cases (is_empty (left bs (c ∷ box) n)) (any_empty bs (c ∷ box) n) e)

  empty_some : (n x : ℕ) → x < n → is_empty (left bs (c ∷ box) x) ≡ true → any_empty bs (c ∷ box) n ≡ true
  empty_some zero x l e = absurd (omega arith)
  empty_some (suc n) x l e =
      ⊎_elim (λ k. or_right (is_empty (left bs (c ∷ box) n)) (empty_some n x k e)) (λ q. or_left (any_empty bs (c ∷ box) n) (subst (λ z. is_empty (left bs (c ∷ box) z) ≡ true) q e)) (up_to_lem l)

  -- a box that was not empty is emptied exactly where the atom's own set is
  pub emptied_is : c.variable < length bs → any_empty bs box (length bs) ≡ false → any_empty bs (c ∷ box) (length bs) ≡ is_empty (left bs (c ∷ box) c.variable)
  emptied_is l h = same_test (any_empty bs (c ∷ box) (length bs)) (is_empty (left bs (c ∷ box) c.variable)) (some_empty (length bs) h) (empty_some (length bs) c.variable l)
