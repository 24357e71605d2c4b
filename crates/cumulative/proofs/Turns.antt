-- A turn of each loop of the search, and how large its sums are.
use Rattle.std.specs.Prelude.{ℕ, ◌+◌, ◌≡◌, true, false, List, ℤ, pos, negsuc, ◌+ℤ◌, ◌-ℤ◌, ◌≤ℤ◌}
use Rattle.std.proofs.Math.Path.{refl}
use Rattle.std.proofs.Common.{add-one, arith, SFits}
use Rattle.std.specs.Int.Signed.{lt_z}
use Rattle.std.specs.Int.{w32}
use Rattle.words.specs.Int.{zz}
use Rattle.sure_parts.specs.declared.Part.{Part}
use Rattle.sure_parts.specs.Table.{from_of}
use Rattle.sure_parts.specs.Sizes.{near_fits}
use Rattle.cumulative.specs.Steps.{over, nearer, next_end, later, last_bad, leap, Start}

module _ (ps : List Part) (i : ℕ) (t u : ℤ) (k : ℕ) where
  pub next_none : next_end ps i t u 0 ≡ u
  unfolding next_end
  next_none = refl

  pub next_more : next_end ps i t u (k + 1) ≡ nearer ps i t k (next_end ps i t u k)
  unfolding next_end
  next_more = rw (add-one k)

module _ (ps : List Part) (peaks : List ℤ) (c : ℤ) (i : ℕ) (s stop : ℤ) (k : ℕ) where
  pub bad_none : last_bad ps peaks c i s stop 0 ≡ s
  unfolding last_bad
  bad_none = refl

  pub bad_more : last_bad ps peaks c i s stop (k + 1) ≡ later ps peaks c i stop k (last_bad ps peaks c i s stop k)
  unfolding last_bad
  bad_more = rw (add-one k)

module _ (ps : List Part) (peaks : List ℤ) (n : ℕ) (c : ℤ) (i : ℕ) (s lasts : ℤ) where
  pub leap_over : over ps n c i ((s +ℤ lasts) -ℤ pos 1) ≡ true → leap ps peaks n c i s lasts ≡ next_end ps i ((s +ℤ lasts) -ℤ pos 1) (from_of ps i +ℤ pos 1) n
  unfolding leap
  leap_over e = rw e

  pub leap_under : over ps n c i ((s +ℤ lasts) -ℤ pos 1) ≡ false → leap ps peaks n c i s lasts ≡ last_bad ps peaks c i s (s +ℤ lasts) n
  unfolding leap
  leap_under e = rw e

pub not_below : (a b : ℤ) → lt_z b a ≡ false → a ≤ℤ b
not_below a b h = omega (arith, zz)

pub start_fits : (s lasts : ℤ) → Start s lasts → SFits w32 (s +ℤ lasts) × SFits w32 ((s +ℤ lasts) -ℤ pos 1)
start_fits s lasts h = (near_fits s lasts (omega (arith, zz)) (omega (arith, zz)), near_fits (s +ℤ lasts) (negsuc 0) (omega (arith, zz)) (omega (arith, zz)))
