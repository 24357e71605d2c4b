-- The next value of several sets in rising order: the least value at or above a number that is left to one of the variables.
use Rattle.std.specs.Prelude.{ℕ, ◌+◌, ◌<◌, ◌≤◌, ◌≡◌, refl, Bool, true, false, cond, length, drop, get_or, ℤ, ◌≤ℤ◌, ◌<ℤ◌}
use Rattle.std.proofs.Common.{add-one, arith, sym, ⊎_elim, drop_of_length-le, drop-cons}
use Rattle.std.specs.Prelude.{Option, Some, None}
use mathlib.Core.List.Memᴰ.{append_cases as in_either}
use mathlib.Core.List.Memᴰ.{append_left as in-first}
use mathlib.Core.List.Memᴰ.{append_right as in-second}
use mathlib.Core.List.Memᴰ.{not-nil as not-in-nil}
use mathlib.Core.List.{List, [], ◌∷◌, ◌++◌, append_assoc, append-nil, Memᴰ as In}
use Rattle.std.specs.Int.Signed.{le_z}
use Rattle.words.specs.Int.{zz}
use Rattle.words.specs.Laws.{not_≤}
use Rattle.words.specs.Words.{min_z}
use Rattle.words.specs.ListFacts.{Rising}
use Rattle.meaning.specs.Rule.{union}
use Rattle.domain.specs.Sets.{first_from, first_from_in, first_from_least, none_from_left}

-- the smaller of two values, where there are two
abbrev pub sooner : Option ℤ → Option ℤ → Option ℤ
sooner None o = o
sooner (Some v) None = Some v
sooner (Some v) (Some w) = Some (min_z v w)

-- the first that is found, or one that a further variable has before it
abbrev pub soonest_of : ℤ → (ℕ → List ℤ) → Option ℤ → List ℕ → Option ℤ
soonest_of from d o [] = o
soonest_of from d o (x ∷ xs) = soonest_of from d (sooner o (first_from from (d x))) xs

-- ---- what it is: the least of the values from there on
pub data Soonest (from : ℤ) (us : List ℤ) : Option ℤ → Type 0 where
  nothing : ((w : ℤ) → In w us → w <ℤ from) → Soonest from us None
  this : {v : ℤ} → In v us → from ≤ℤ v → ((w : ℤ) → In w us → from ≤ℤ w → v ≤ℤ w) → Soonest from us (Some v)

first_soonest : (from : ℤ) (vs : List ℤ) → Rising vs → Soonest from vs (first_from from vs)
first_soonest from vs r = go (first_from from vs) refl
  where
    go : (o : Option ℤ) → first_from from vs ≡ o → Soonest from vs o
    go None e = nothing (λ w i. not_≤ from w (none_from_left from vs e w i))
    go (Some v) e = let k = first_from_in from vs e in this k.0 k.1 (first_from_least from vs r e)

-- of two lists
on_both : (Q : ℤ → Type 0) (us vs : List ℤ) → ((w : ℤ) → In w us → Q w) → ((w : ℤ) → In w vs → Q w) → (w : ℤ) → In w (us ++ vs) → Q w
on_both Q us vs f g w i = ⊎_elim (λ j. f w j) (λ j. g w j) (in_either us i)

both_soonest : {from : ℤ} (us vs : List ℤ) {a b : Option ℤ} → Soonest from us a → Soonest from vs b → Soonest from (us ++ vs) (sooner a b)
both_soonest {from} us vs (nothing f) (nothing g) = nothing (on_both (λ w. w <ℤ from) us vs f g)
both_soonest {from} us vs (nothing f) (this {v} i l g) = this (in-second us i) l (on_both (λ w. from ≤ℤ w → v ≤ℤ w) us vs (λ w j k. let m = f w j in absurd (omega (arith, zz))) g)
both_soonest {from} us vs (this {v} i l f) (nothing g) = this (in-first vs i) l (on_both (λ w. from ≤ℤ w → v ≤ℤ w) us vs f (λ w j k. let m = g w j in absurd (omega (arith, zz))))
both_soonest {from} us vs (this {v} i l f) (this {v = u} j m g) = go (le_z v u) refl
  where
    go : (t : Bool) → le_z v u ≡ t → Soonest from (us ++ vs) (Some (cond t v u))
    go true e = this (in-first vs i) l (on_both (λ w. from ≤ℤ w → v ≤ℤ w) us vs f (λ w j k. let n = g w j k in omega (arith, zz)))
    go false e = this (in-second us j) m (on_both (λ w. from ≤ℤ w → u ≤ℤ w) us vs (λ w i k. let n = f w i k in omega (arith, zz)) g)

-- of all the variables' sets
more_soonest : (from : ℤ) (d : ℕ → List ℤ) → ((x : ℕ) → Rising (d x)) → (us : List ℤ) {o : Option ℤ} (xs : List ℕ) → Soonest from us o → Soonest from (us ++ union d xs) (soonest_of from d o xs)
more_soonest from d r us {o} [] s = rw (append-nil us) s
more_soonest from d r us {o} (x ∷ xs) s = rw (sym (append_assoc us (d x) (union d xs))) (more_soonest from d r (us ++ d x) xs (both_soonest us (d x) s (first_soonest from (d x) (r x))))

pub soonest : (from : ℤ) (d : ℕ → List ℤ) → ((x : ℕ) → Rising (d x)) → (xs : List ℕ) → Soonest from (union d xs) (soonest_of from d None xs)
soonest from d r xs = more_soonest from d r [] xs (nothing (λ w i. absurd (not-in-nil i)))

-- ---- one variable after the other: the first i of them are behind
module _ (from : ℤ) (d : ℕ → List ℤ) (xs : List ℕ) where
  pub soonest_next : (i : ℕ) (o p : Option ℤ) → i < length xs → p ≡ sooner o (first_from from (d (get_or xs i 0))) → soonest_of from d o (drop i xs) ≡ soonest_of from d p (drop (i + 1) xs)
  soonest_next i o p h e = rw (e, add-one, drop-cons xs i 0)

  pub soonest_end : (i : ℕ) (o : Option ℤ) → length xs ≤ i → soonest_of from d o (drop i xs) ≡ o
  soonest_end i o h = rw (drop_of_length-le xs h)
