-- What the search for a start computes from the table of sure parts.
use Rattle.std.specs.Prelude.{ℕ, zero, suc, Bool, cond, not, ◌&&◌, List, eqb, ℤ, pos, ◌+ℤ◌, ◌-ℤ◌, get_or, ◌≤ℤ◌}
use Rattle.std.specs.Int.Signed.{le_z, lt_z}
use Rattle.meaning.specs.Limits.{most_value, most_usage, most_duration}
use Rattle.meaning.specs.Read.{neg}
use Rattle.sure_parts.specs.declared.Part.{Part}
use Rattle.sure_parts.specs.Table.{from_of, until_of, usage_of, used_at, load}

-- activity i and the sure parts of the others use more than c at a time t when all surely use l
abbrev pub over_by : List Part → ℤ → ℕ → ℤ → ℤ → Bool
over_by ps c i t l = lt_z (c +ℤ used_at ps t i) (usage_of ps i +ℤ l)

abbrev pub over : List Part → ℕ → ℤ → ℕ → ℤ → Bool
over ps n c i t = over_by ps c i t (load ps t n)

-- the first end of a sure part after t, of the first n but for i; u where none comes before it
abbrev pub nearer : List Part → ℕ → ℤ → ℕ → ℤ → ℤ
nearer ps i t k u = cond (not (eqb k i) && (lt_z t (until_of ps k) && lt_z (until_of ps k) u)) (until_of ps k) u

unfoldable pub next_end : List Part → ℕ → ℤ → ℤ → ℕ → ℤ
next_end ps i t u zero = u
next_end ps i t u (suc n) = nearer ps i t n (next_end ps i t u n)

-- the last end of a sure part after s, `stop` at most, just before which activity i finds no room; s where there is none
abbrev pub later : List Part → List ℤ → ℤ → ℕ → ℤ → ℕ → ℤ → ℤ
later ps peaks c i stop k e = cond (lt_z e (until_of ps k) && (le_z (until_of ps k) stop && over_by ps c i (until_of ps k -ℤ pos 1) (get_or peaks k (pos 0)))) (until_of ps k) e

unfoldable pub last_bad : List Part → List ℤ → ℤ → ℕ → ℤ → ℤ → ℕ → ℤ
last_bad ps peaks c i s stop zero = s
last_bad ps peaks c i s stop (suc n) = later ps peaks c i stop n (last_bad ps peaks c i s stop n)

-- where a start s of activity i, which lasts so long, lets the search go on: at s where it is not blocked
unfoldable pub leap : List Part → List ℤ → ℕ → ℤ → ℕ → ℤ → ℤ → ℤ
leap ps peaks n c i s lasts =
    cond (over ps n c i ((s +ℤ lasts) -ℤ pos 1))
    (next_end ps i ((s +ℤ lasts) -ℤ pos 1) (from_of ps i +ℤ pos 1) n)
    (last_bad ps peaks c i s (s +ℤ lasts) n)

-- ---- the words are small, so that no sum of them overflows
pub record Capacity (c : ℤ) : Type 0 where
  pub signless : pos 0 ≤ℤ c
  pub upto : c ≤ℤ pos most_usage

-- a start, and how long the activity lasts
pub record Start (s lasts : ℤ) : Type 0 where
  pub from : neg most_value ≤ℤ s
  pub upto : s ≤ℤ pos most_value
  pub some : pos 0 ≤ℤ lasts
  pub short : lasts ≤ℤ pos most_duration
