-- How many different values a list has, counted from the least up: each value that is next in rising order is one more.
use Rattle.std.specs.Prelude.{ℕ, suc, ◌≤◌, ◌≡◌, true, false, ◌⊎◌, length, ℤ, ◌+ℤ◌, ◌≤ℤ◌, ◌<ℤ◌}
use Rattle.std.proofs.Common.{arith, le_antisymm, sym, subst, inl, inr, ⊎_elim}
use mathlib.Core.List.Memᴰ.{cases_cons as in-cons}
use mathlib.Core.List.Memᴰ.{head as here}
use mathlib.Core.List.Memᴰ.{not-nil as not-in-nil}
use mathlib.Core.List.Memᴰ.{tail as there}
use mathlib.Core.List.{List, [], ◌∷◌, Memᴰ as In}
use Rattle.std.proofs.Math.IntN.{pos}
use Rattle.std.specs.Int.Signed.{le_z}
use Rattle.words.specs.Int.{zz, eq_z}
use Rattle.words.specs.Lists.{member, keep}
use Rattle.words.specs.ListFacts.{tested, clash, choose, member_in, in_member, keep_in, in_keep, each_of, le_of, of_le}
use Rattle.meaning.specs.Rule.{once}
use Rattle.meaning.proofs.Proved.Pigeons.{Apart, pigeonhole}

-- ---- each value once: the same members, no two of them equal
once_in : {v : ℤ} (vs : List ℤ) → In v vs → In v (once vs)
once_in [] i = i
once_in {v} (w ∷ vs) (here e) = choose (In v) (member eq_z w vs) (λ y. once_in vs (subst (λ u. In u vs) (sym e) (member_in w vs y))) (λ n. here e)
once_in {v} (w ∷ vs) (there i) = choose (In v) (member eq_z w vs) (λ y. once_in vs i) (λ n. there (once_in vs i))

in_once : {v : ℤ} (vs : List ℤ) → In v (once vs) → In v vs
in_once [] i = i
in_once {v} (w ∷ vs) i = choose (λ us. In v us → In v (w ∷ vs)) (member eq_z w vs) (λ y j. there (in_once vs j)) (λ n j. ⊎_elim (λ e. here e) (λ k. there (in_once vs k)) (in-cons j)) i

abbrev Different : List ℤ → Type 0
Different = Apart (λ (v : ℤ). v)

once_different : (vs : List ℤ) → Different (once vs)
once_different [] = tt
once_different (w ∷ vs) =
    choose Different (member eq_z w vs) (λ y. once_different vs)
    (λ n. (each_of (once vs) (λ v i e. clash (in_member (subst (λ u. In u vs) (sym e) (in_once vs i))) n), once_different vs))

-- different values, all of them in a list, are no more than it has
no_more : (us vs : List ℤ) → Different us → ((v : ℤ) → In v us → In v vs) → length us ≤ length vs
no_more us vs d h = pigeonhole (λ (v : ℤ). v) us vs d (each_of us h)

-- so different values that are the members of a list are as many as it has different ones
pub as_many : (us vs : List ℤ) → Different us → ((v : ℤ) → In v us → In v vs) → ((v : ℤ) → In v vs → In v us) → length (once vs) ≡ length us
as_many us vs d h k =
    le_antisymm (no_more (once vs) us (once_different vs) (λ v i. k v (in_once vs i))) (no_more us (once vs) d (λ v i. once_in vs (h v i)))

-- ---- the values of a list from a number on
abbrev pub many : ℤ → List ℤ → ℕ
many from us = length (once (keep (le_z from) us))

-- none is below it: all of them
pub many_all : (from : ℤ) (us : List ℤ) → ((v : ℤ) → In v us → from ≤ℤ v) → many from us ≡ length (once us)
many_all from us h =
    as_many (once us) (keep (le_z from) us) (once_different us) (λ v i. keep_in (le_z from) us (in_once us i) (of_le (h v (in_once us i)))) (λ v i. once_in us (in_keep (le_z from) us i).0)

-- all are below it: none
pub many_none : (from : ℤ) (us : List ℤ) → ((v : ℤ) → In v us → v <ℤ from) → many from us ≡ 0
many_none from us h =
    as_many [] (keep (le_z from) us) tt (λ v i. absurd (not-in-nil i))
    (λ v i. let k = in_keep (le_z from) us i in let l = h v k.0 in let m = le_of from v k.1 in absurd (omega (arith, zz)))

-- the least of them is one, and the others are those above it
module _ (from v : ℤ) (us : List ℤ) (i : In v us) (l : from ≤ℤ v) (h : (w : ℤ) → In w us → from ≤ℤ w → v ≤ℤ w) where
  above : List ℤ
  above = keep (le_z (v +ℤ pos 1)) us

  above_later : (w : ℤ) → In w (once above) → In w us × (v <ℤ w)
  unfolding above
  above_later w j = let k = in_keep (le_z (v +ℤ pos 1)) us (in_once above j) in (k.0, let m = le_of (v +ℤ pos 1) w k.1 in omega (arith, zz))

  back : (w : ℤ) → In w (v ∷ once above) → In w (keep (le_z from) us)
  back w (here e) = keep_in (le_z from) us (subst (λ u. In u us) (sym e) i) (of_le (subst (λ u. from ≤ℤ u) (sym e) l))
  back w (there j) = let k = above_later w j in keep_in (le_z from) us k.0 (let m = k.1 in omega (arith, zz))

  forth : (w : ℤ) → In w (keep (le_z from) us) → In w (v ∷ once above)
  unfolding above
  forth w j = let k = in_keep (le_z from) us j in go (tested (le_z w v)) k.0 (h w k.0 (le_of from w k.1))
    where
      go : (le_z w v ≡ true) ⊎ (le_z w v ≡ false) → In w us → v ≤ℤ w → In w (v ∷ once above)
      go (inl e) k m = here {x = v} (omega (arith, zz))
      go (inr e) k m = there (once_in above (keep_in (le_z (v +ℤ pos 1)) us k (of_le {v = v +ℤ pos 1} {w = w} (omega (arith, zz)))))

  pub many_one_more : many from us ≡ suc (many (v +ℤ pos 1) us)
  unfolding above
  many_one_more =
      as_many (v ∷ once above) (keep (le_z from) us)
      (each_of (once above) (λ w j e. let k = (above_later w j).1 in omega (arith, zz)), once_different above) back forth
