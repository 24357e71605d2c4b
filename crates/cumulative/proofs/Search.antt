-- The search for a start of one activity: it starts at the least start left, leaps, and goes on at the next start left.
use Rattle.std.specs.Prelude.{ℕ, ◌≤◌, ◌<◌, ◌≡◌, refl, true, false, ℤ, pos, get_or, ◌≤ℤ◌, ◌<ℤ◌}
use Rattle.std.proofs.Common.{⊎_elim, arith}
use mathlib.Core.List.{List, [], ◌∷◌, Memᴰ as In}
use Rattle.std.specs.Prelude.{Some, None}
use Rattle.words.specs.Int.{zz, nlt_read}
use Rattle.words.specs.Lists.{least, is_empty}
use Rattle.words.specs.ListFacts.{Rising, clash, least_in, largest_above, lt_or_not}
use Rattle.meaning.specs.Model.{Activity}
use Rattle.cumulative.specs.Jumps.{Passed, passed_none, passed_gap, passed_all, stopped}
use Rattle.meaning.proofs.Proved.Positions.{others_of, squeezed_at}
use Rattle.domain.specs.Sets.{first_from, first_from_in, first_from_least, none_from_left}
use Rattle.sure_parts.specs.declared.Part.{Part}
use Rattle.sure_parts.specs.Table.{from_of}
use Rattle.cumulative.specs.Steps.{leap}
use Rattle.cumulative.proofs.Leaps.{Tables, Leapt, free, onward, leapt}

-- s is a start left, and all before it are blocked
pub record Searching (d : ℕ → List ℤ) (c : ℕ) (nobody : Activity) (acts : List Activity) (i : ℕ) (s : ℤ) : Type 0 where
  pub left : In s (d (get_or acts i nobody).start)
  pub passed : Passed d c (get_or acts i nobody) (others_of i acts) s

least_left : (vs : List ℤ) → is_empty vs ≡ false → In (least vs) vs
least_left [] e = clash {b = true} refl e
least_left (v ∷ vs) e = least_in v vs

module _ (d : ℕ → List ℤ) (rising : (x : ℕ) → Rising (d x)) (c : ℕ) (nobody : Activity) (acts : List Activity) (i : ℕ) where
  abbrev own : Activity
  own = get_or acts i nobody

  pub search_start : is_empty (d own.start) ≡ false → Searching d c nobody acts i (least (d own.start))
  search_start e = record { left = least_left (d own.start) e; passed = passed_none d c own (others_of i acts) (rising own.start) }

  module _ (n : ℕ) (ps : List Part) (peaks : List ℤ) (tables : Tables d nobody acts n ps peaks) (here : i < n) (lasts : 1 ≤ own.duration) (s : ℤ) (at : Searching d c nobody acts i s) where
    abbrev others : List Activity
    others = others_of i acts

    abbrev to : ℤ
    to = leap ps peaks n (pos c) i s (pos own.duration)

    by_leap : Leapt d c own others s to
    by_leap =
        let g = largest_above (d own.start) (rising own.start) at.left in
        let e = (tables.parts i here).from_is in
        leapt d c nobody acts n ps peaks tables i here s lasts (omega (arith, zz))

    -- the leap stays: a start is not blocked
    pub search_free : to ≤ℤ s → squeezed_at d c nobody acts i ≡ false
    search_free h = go by_leap h
      where
        go : {u : ℤ} → Leapt d c own others s u → u ≤ℤ s → squeezed_at d c nobody acts i ≡ false
        go (free f) h = stopped d c own others s at.left f
        go (onward l f) h = absurd (omega (arith, zz))

    module _ (h : s <ℤ to) where
      passed_to : Passed d c own others to
      passed_to = go by_leap h
        where
          go : {u : ℤ} → Leapt d c own others s u → s <ℤ u → Passed d c own others u
          go (free f) h = absurd (omega (arith, zz))
          go (onward l f) h = f at.passed

      -- no start is left from there on: all are blocked
      pub search_over : ((v : ℤ) → In v (d own.start) → to ≤ℤ v → ⊥) → squeezed_at d c nobody acts i ≡ true
      search_over f = passed_all d c own others (λ v m. passed_to v m (⊎_elim (λ l. l) (λ n. absurd (f v m (omega (arith, zz, nlt_read {a = v} {b = to} n)))) (lt_or_not v to)))

      pub search_beyond : from_of ps i <ℤ to → squeezed_at d c nobody acts i ≡ true
      search_beyond l = search_over (λ v m k. let g = largest_above (d own.start) (rising own.start) m in let e = (tables.parts i here).from_is in omega (arith, zz))

      pub search_none : first_from to (d own.start) ≡ None → squeezed_at d c nobody acts i ≡ true
      search_none e = search_over (none_from_left to (d own.start) e)

      -- else the search goes on at the next one
      pub search_on : (v : ℤ) → first_from to (d own.start) ≡ Some v → Searching d c nobody acts i v × (s <ℤ v)
      search_on v e =
          let f = first_from_in to (d own.start) e in
          let m = f.1 in
          (record { left = f.0; passed = passed_gap d c own others to v passed_to (first_from_least to (d own.start) (rising own.start) e) }, omega (arith, zz))
