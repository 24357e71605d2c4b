-- The cumulative row by positions: the activities at the other positions, and the second test as a loop over positions.
use Rattle.std.specs.Prelude.{ℕ, zero, suc, ◌+◌, ◌<◌, ◌≡◌, refl, Bool, true, ◌≢◌, length, get_or, take, drop, ℤ}
use Rattle.std.proofs.Common.{sym, ap, subst, ◌∙◌, arith, length-append}
use mathlib.Core.List.Memᴰ
use mathlib.Core.List.Memᴰ.{head as here}
use mathlib.Core.List.Memᴰ.{tail as there}
use mathlib.Core.List.{List, [], ◌∷◌, ◌++◌, Memᴰ as In}
use Rattle.std.proofs.Math.Seq.{split_at, get_or-append_seam}
use Rattle.words.specs.Lists.{all, sum_of}
use Rattle.words.specs.ListFacts.{same_test, all_at, all_by, get_or_in, in_at, sum_part}
use Rattle.meaning.specs.Model.{Activity}
use Rattle.meaning.specs.Rule.{blocked_from, squeezed}
use Rattle.meaning.specs.Below.{some_below, some_found, some_holds}
use Rattle.meaning.proofs.Proved.Loads.{Blocked, blocked_of, blocked_by, Squeeze, squeeze_of, squeezed_by}

module _ {A : Type 0} where
  -- the list without its element at p
  abbrev pub others_of : ℕ → List A → List A
  others_of p xs = take p xs ++ drop (suc p) xs

  pub sum_others : (f : A → ℕ) (xs : List A) (p : ℕ) (e : A) → p < length xs → f (get_or xs p e) + sum_of f (others_of p xs) ≡ sum_of f xs
  sum_others f xs p e h = sym (ap (sum_of f) (split_at xs p e h) ∙ sum_part f (take p xs) (get_or xs p e) (drop (suc p) xs))

  pub others_in : (xs : List A) (p q : ℕ) (e : A) → q < length xs → q ≢ p → In (get_or xs q e) (others_of p xs)
  others_in [] p q e h n = absurd (omega arith)
  others_in (x ∷ xs) zero zero e h n = absurd (n refl)
  others_in (x ∷ xs) zero (suc q) e h n = get_or_in xs q e (omega arith)
  others_in (x ∷ xs) (suc p) zero e h n = here refl
  others_in (x ∷ xs) (suc p) (suc q) e h n = there (others_in xs p q e (omega arith) (λ r. n (ap suc r)))

  pub others_at : (xs : List A) (p : ℕ) (e : A) {x : A} → In x (others_of p xs) → (q : ℕ) × (q < length xs) × (q ≢ p) × (get_or xs q e ≡ x)
  others_at [] zero e m = absurd (Memᴰ.not-nil m)
  others_at [] (suc p) e m = absurd (Memᴰ.not-nil m)
  others_at (x ∷ xs) zero e m = let r = in_at e m in (suc r.0, omega (arith, r.1), omega arith, r.2)
  others_at (x ∷ xs) (suc p) e (here q) = (0, omega arith, omega arith, sym q)
  others_at (x ∷ xs) (suc p) e (there m) = let r = others_at xs p e m in (suc r.0, omega (arith, r.1), omega (arith, r.2), r.3)

  middle_others : (l : List A) (x : A) (r : List A) → others_of (length l) (l ++ x ∷ r) ≡ l ++ r
  middle_others [] x r = refl
  middle_others (y ∷ l) x r = ap (λ z. y ∷ z) (middle_others l x r)

module _ (d : ℕ → List ℤ) (c : ℕ) (none : Activity) where
  abbrev pub squeezed_at : List Activity → ℕ → Bool
  squeezed_at acts p = all (blocked_from d c (get_or acts p none) (others_of p acts)) (d (get_or acts p none).start)

  -- one activity of a row is squeezed: at its position
  at_middle : (l : List Activity) (j : Activity) (r : List Activity) → ((s : ℤ) → In s (d j.start) → Blocked d c j (l ++ r) s) → squeezed_at (l ++ j ∷ r) (length l) ≡ true
  at_middle l j r f = rw (get_or-append_seam l j r none, middle_others l j r) (all_by (blocked_from d c j (l ++ r)) (d j.start) (λ s m. blocked_by d c j (l ++ r) s (f s m)))

  pub squeezed_at_some : (acts : List Activity) → squeezed d c [] acts ≡ some_below (squeezed_at acts) (length acts)
  squeezed_at_some acts = same_test (squeezed d c [] acts) (some_below (squeezed_at acts) (length acts)) (λ h. from (squeeze_of d c [] acts h)) (λ h. to (some_found (squeezed_at acts) (length acts) h))
    where
      from : Squeeze d c acts → some_below (squeezed_at acts) (length acts) ≡ true
      from q =
          let n = length q.before in
          some_holds (squeezed_at acts) (length acts) n (omega (arith, ap length q.parts, length-append q.before (q.activity ∷ q.after)))
          (subst (λ js. squeezed_at js n ≡ true) (sym q.parts) (at_middle q.before q.activity q.after q.blocked))

      to : (p : ℕ) × (p < length acts) × (squeezed_at acts p ≡ true) → squeezed d c [] acts ≡ true
      to (p, l, e) =
          let j = get_or acts p none in
          subst (λ js. squeezed d c [] js ≡ true) (sym (split_at acts p none l))
          (squeezed_by d c [] (take p acts) j (drop (suc p) acts) (λ s m. blocked_of d c j (others_of p acts) s (all_at (blocked_from d c j (others_of p acts)) e m)))
