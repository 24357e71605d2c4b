-- At a point no rule is weaker than the meaning: the box that leaves each variable one value conflicts with a row exactly where those values do not meet it.
use Prim.Native.Nat.{ℕ, zero, suc, ◌+◌, ◌-◌, ◌<◌, ◌≤◌}
use native.Mathlib.Omega.{arith}
use Rattle.std.specs.Prelude.{◌≡◌, Bool, true, false, not, ◌||◌, ◌↔◌, ◌⊎◌, eqb, ltb, length, get_or, ℤ, pos, negsuc, nat_abs, ◌+ℤ◌, ◌*ℤ◌, ◌≤ℤ◌, ◌<ℤ◌}
use Rattle.std.proofs.Math.Path.{refl, ap, subst}
use Rattle.std.proofs.Common.{sym, ap₂, ◌∙◌, inl, inr, ⊎_elim, ltb-true, ltb-false, le-ltb, eqb-true, eq-eqb}
use mathlib.Core.List.Memᴰ.{head as here}
use mathlib.Core.List.Memᴰ.{not-nil as not-in-nil}
use mathlib.Core.List.Memᴰ.{tail as there}
use mathlib.Core.List.{List, [], ◌∷◌, ◌++◌, Memᴰ as In}
use Rattle.std.specs.Int.Signed.{lt_z}
use Rattle.std.proofs.lemmas.Bool.{not-true}
use Rattle.words.specs.Int.{zz, eq_z, abs_is, one_side, nlt_read}
use Rattle.words.specs.Lists.{member, keep, least, largest, All, empty, also}
use Rattle.words.specs.ListFacts.{clash, tested, choose, any_found, any_holds, in_member, each_in, each_of, each_map, each_at_lem, each_from, of_le, or_none_lem, Rising, lt_or_not}
use Rattle.meaning.specs.Model.{Bounds, Model, Term, Activity, Row, linear, all_different, cumulative, circuit}
use Rattle.meaning.specs.Log.{Fact, inference}
use Rattle.meaning.specs.Rule.{least_term, least_sum, during, usage_if, sure, overloaded, squeezed, occurs, once, union, crowded, trapped, conflicts}
use Rattle.meaning.specs.Box.{left, box_of, any_empty}
use Rattle.meaning.specs.Judge.{fails, row_at, inferred, judge}
use Rattle.meaning.specs.Meets.{Assignment, Meets, Solves, total, running, reached}
use Rattle.meaning.specs.Faithful.{BoxSays, Occurs, Stays, in_set, below_all, above_all, Closed}
use Rattle.meaning.specs.Ranges.{BoundsInRange, TermInRange, ActivityInRange, RowInRange, InRange}
use Rattle.meaning.specs.Point.{point, Named}
use Rattle.meaning.proofs.Proved.ReadModel.{KnownBounds}
use Rattle.meaning.proofs.Proved.BoxFacts.{left_rising}
use Rattle.meaning.proofs.Proved.BoxSays.{box_says}
use Rattle.meaning.specs.Below.{some_below, some_found, some_holds}
use Rattle.meaning.proofs.Proved.Pigeons.{Apart, apart_of, apart_at, pigeonhole, all_met, not_fewer}
use Rattle.meaning.proofs.Proved.Loads.{overloaded_by, cumulative_refuses}
use Rattle.meaning.proofs.Proved.RowSound.{once_in}
use Rattle.meaning.proofs.Proved.RuleSays.{of_occurs, of_closed}
use Rattle.meaning.proofs.Proved.Tour.{trapped_refuses}

-- a test that cannot be true is false
not_so : (b : Bool) → (b ≡ true → ⊥) → b ≡ false
not_so true h = absurd (h refl)
not_so false h = refl

-- the member of a list of one
eq_of_one : {v w : ℤ} → In v (w ∷ []) → v ≡ w
eq_of_one (here e) = e
eq_of_one (there m) = absurd (not-in-nil m)

-- ---- all-different, at a point
module _ (a : Assignment) where
  union_length : (xs : List ℕ) → length (union (point a) xs) ≡ length xs
  union_length [] = refl
  union_length (x ∷ xs) = ap suc (union_length xs)

  once_length : (vs : List ℤ) → length (once vs) ≤ length vs
  once_length [] = omega arith
  once_length (v ∷ vs) = choose (λ us. length us ≤ suc (length vs)) (member eq_z v vs) (λ e. omega (arith, once_length vs)) (λ e. omega (arith, once_length vs))

  in_point : {x : ℕ} (xs : List ℕ) → In x xs → In (a x) (union (point a) xs)
  in_point [] m = absurd (not-in-nil m)
  in_point (y ∷ xs) (here e) = here (ap a e)
  in_point (y ∷ xs) (there m) = there (in_point xs m)

  -- nothing dropped, so no two equal
  apart_once : (xs : List ℕ) → length xs ≤ length (once (union (point a) xs)) → Apart a xs
  apart_once [] h = tt
  apart_once (x ∷ xs) h = go (tested (member eq_z (a x) (union (point a) xs))) (apart_once xs)
    where
      vs : List ℤ
      vs = union (point a) xs

      grown : (b : Bool) → member eq_z (a x) vs ≡ b → length (once (a x ∷ vs)) ≡ elim b [ true ↦ length (once vs) | false ↦ suc (length (once vs)) ]
      grown true e = rw (e, once)
      grown false e = rw (e, once)

      go : (member eq_z (a x) vs ≡ true) ⊎ (member eq_z (a x) vs ≡ false) → (length xs ≤ length (once vs) → Apart a xs) → Apart a (x ∷ xs)
      go (inl e) f = absurd (let g = grown true e in omega (arith, once_length vs, union_length xs))
      go (inr e) f = (each_of xs (λ y m q. clash (in_member (subst (λ v. In v vs) (sym q) (in_point xs m))) e), f (let g = grown false e in omega arith))

  crowded_point : (xs : List ℕ) → (crowded (point a) xs ≡ false) ↔ Meets a (all_different xs)
  crowded_point xs = (
    λ e. apart_at a 0 xs (apart_once xs (ltb-false (length (once (union (point a) xs))) (length xs) e)),
    λ m. le-ltb (length (once (union (point a) xs))) (length xs) (pigeonhole a xs (once (union (point a) xs)) (apart_of a 0 xs m) (each_of xs (λ y i. once_in (union (point a) xs) (in_point xs i)))),
  )

-- every variable of the row occurs in the fact
all_kept : (f : Fact) (xs : List ℕ) → All (Occurs f) xs → keep (occurs f) xs ≡ xs
all_kept f [] empty = refl
all_kept f (x ∷ xs) (also o os) = rw (of_occurs f x o) (ap (λ ys. x ∷ ys) (all_kept f xs os))

-- ---- sets that leave each of v variables its value alone
module _ (a : Assignment) (v : ℕ) (d : ℕ → List ℤ) (fixed : (x : ℕ) → x < v → d x ≡ point a x) (rising : (x : ℕ) → Rising (d x)) where
  left_alone : (x : ℕ) → x < v → In (a x) (d x)
  left_alone x l = subst (In (a x)) (sym (fixed x l)) (here refl)

  -- ---- linear
  term_fixed : (c w : ℤ) → least_term c (w ∷ []) ≡ c *ℤ w
  term_fixed (pos n) w = refl
  term_fixed (negsuc n) w = refl

  sum_fixed : {ts : List Term} → All (TermInRange v) ts → least_sum d ts ≡ total a ts
  sum_fixed empty = refl
  sum_fixed (also {x = t} h hs) = ap₂ ◌+ℤ◌ (ap (least_term t.coefficient) (fixed t.variable h.variable_in) ∙ term_fixed t.coefficient (a t.variable)) (sum_fixed hs)

  linear_sharp : (b : ℤ) (ts : List Term) → All (TermInRange v) ts → (lt_z b (least_sum d ts) ≡ false) ↔ Meets a (linear b ts)
  linear_sharp b ts k = (
    λ e. let h : lt_z b (total a ts) ≡ false = subst (λ s. lt_z b s ≡ false) (sum_fixed k) e in omega (arith, zz),
    λ m. subst (λ s. lt_z b s ≡ false) (sym (sum_fixed k)) (let h : total a ts ≤ℤ b = m in omega (arith, zz)),
  )

  -- ---- cumulative
  sure_fixed : (t : ℤ) {js : List Activity} → All (ActivityInRange v) js → sure d t js ≡ running a t js
  sure_fixed t empty = refl
  sure_fixed t (also {x = j} h hs) = ap₂ ◌+◌ (ap (λ vs. usage_if (during (largest vs) (least vs +ℤ pos j.duration) t) j.usage) (fixed j.start h.start_in)) (sure_fixed t hs)

  cumulative_sharp : (c : ℕ) (js : List Activity) → All (ActivityInRange v) js → ((overloaded d c js || squeezed d c [] js) ≡ false) ↔ Meets a (cumulative c js)
  cumulative_sharp c js k = (
    λ e t. go (or_none_lem (overloaded d c js) (squeezed d c [] js) e).0 t (ltb c (running a t js)) refl,
    λ m. not_so _ (λ e. cumulative_refuses d rising c js a e (λ j i. left_alone j.start (each_in k i).start_in) m),
  )
    where
      go : overloaded d c js ≡ false → (t : ℤ) (b : Bool) → ltb c (running a t js) ≡ b → running a t js ≤ c
      go e t true h = clash (overloaded_by d rising c js t (subst (λ n. c < n) (sym (sure_fixed t k)) (ltb-true c (running a t js) h))) e
      go e t false h = ltb-false c (running a t js) h

  -- ---- all-different
  union_fixed : {xs : List ℕ} → All (λ x. x < v) xs → union d xs ≡ union (point a) xs
  union_fixed empty = refl
  union_fixed (also {x = x} h hs) = ap₂ ◌++◌ (fixed x h) (union_fixed hs)

  crowded_sharp : (xs : List ℕ) → All (λ x. x < v) xs → (crowded d xs ≡ false) ↔ Meets a (all_different xs)
  crowded_sharp xs k = subst (λ vs. (ltb (length (once vs)) (length xs) ≡ false) ↔ Meets a (all_different xs)) (sym (union_fixed k)) (crowded_point a xs)

  -- ---- circuit
  module _ (xs : List ℕ) (two : 2 ≤ length xs) (known : All (λ x. x < v) xs) (free : trapped d xs ≡ false) where
    -- the value at position p
    abbrev at : ℕ → ℤ
    at p = a (get_or xs p 0)

    -- no set of positions is closed
    open_set : (S : ℕ → Bool) → Closed d xs S → ⊥
    open_set S c = clash (of_closed d xs S c) free

    -- the one value left at position p
    only : (p : ℕ) → p < length xs → {w : ℤ} → In w (d (get_or xs p 0)) → w ≡ at p
    only p l {w} m = eq_of_one (subst (In w) (fixed (get_or xs p 0) (each_at_lem 0 p l known)) m)

    -- the set of position i alone, which is not all: a value outside 0..n-1 would close it
    alone : (i : ℕ) → i < length xs → Stays (length xs) (λ p. eqb p i) (at i) → ⊥
    alone i l s = open_set (λ p. eqb p i) (record {
      not_empty = (i, l, eq-eqb i i refl);
      not_all = other i (tested (eqb 0 i));
      stays = λ p h e w m. subst (Stays (length xs) (λ p. eqb p i)) (sym (only p h m ∙ ap at (eqb-true p i e))) s;
    })
      where
        other : (i : ℕ) → (eqb 0 i ≡ true) ⊎ (eqb 0 i ≡ false) → (p : ℕ) × (p < length xs) × (eqb p i ≡ false)
        other i (inl e) = (1, two, not_so (eqb 1 i) (λ h. let p = eqb-true 0 i e in let q = eqb-true 1 i h in omega arith))
        other i (inr e) = (0, omega arith, e)

    in_range : (i : ℕ) → i < length xs → (pos 0 ≤ℤ at i) × (at i <ℤ pos (length xs))
    in_range i l = (
      ⊎_elim (λ h. absurd (alone i l (below_all h))) (λ n. omega (arith, zz, nlt_read {a = at i} {b = pos 0} n)) (lt_or_not (at i) (pos 0)),
      ⊎_elim (λ h. h) (λ n. absurd (alone i l (above_all {v = at i} (omega (arith, zz, nlt_read {a = at i} {b = pos (length xs)} n))))) (lt_or_not (at i) (pos (length xs))),
    )

    below : (k : ℕ) → reached a xs k < length xs
    below zero = omega arith
    below (suc k) = let z = at (reached a xs k) in let r = in_range (reached a xs k) (below k) in omega (arith, zz, r.0, r.1, abs_is z, one_side z)

    -- the positions reached after i moves, i + 1, and so on, m of them
    visits : ℕ → ℕ → List ℕ
    visits i zero = []
    visits i (suc m) = reached a xs i ∷ visits (suc i) m

    visits_length : (i m : ℕ) → length (visits i m) ≡ m
    unfolding visits
    visits_length i zero = refl
    visits_length i (suc m) = ap suc (visits_length (suc i) m)

    in_visits : (i m : ℕ) {p : ℕ} → In p (visits i m) → (k : ℕ) × (k < m) × (p ≡ reached a xs (k + i))
    unfolding visits
    in_visits i zero n = absurd (not-in-nil n)
    in_visits i (suc m) (here e) = let q : i ≡ 0 + i = omega arith in (0, omega arith, e ∙ ap (reached a xs) q)
    in_visits i (suc m) (there n) = let (k, l, e) = in_visits (suc i) m n in let q : k + suc i ≡ suc k + i = omega arith in (suc k, omega arith, e ∙ ap (reached a xs) q)

    visits_in : (i m k : ℕ) → k < m → In (reached a xs (k + i)) (visits i m)
    unfolding visits
    visits_in i zero k l = absurd (omega arith)
    visits_in i (suc m) zero l = here (let q : 0 + i ≡ i = omega arith in ap (reached a xs) q)
    visits_in i (suc m) (suc k) l = there (let q : k + suc i ≡ suc k + i = omega arith in subst (λ z. In (reached a xs z) (visits (suc i) m)) q (visits_in (suc i) m k (omega arith)))

    visits_first : (i m : ℕ) → 0 < m → In (reached a xs i) (visits i m)
    unfolding visits
    visits_first i zero l = absurd (omega arith)
    visits_first i (suc m) l = here refl

    -- the set of these positions
    abbrev on : ℕ → ℕ → ℕ → Bool
    on i m p = member eqb p (visits i m)

    found : (i m p : ℕ) → on i m p ≡ true → In p (visits i m)
    found i m p h = let (q, n, e) = any_found (eqb p) (visits i m) h in subst (λ z. In z (visits i m)) (sym (eqb-true p q e)) n

    held : (i m : ℕ) {p : ℕ} → In p (visits i m) → on i m p ≡ true
    held i m {p} n = any_holds (eqb p) n (eq-eqb p p refl)

    -- a way that comes back after m moves goes through all positions
    comes_back : (i m : ℕ) → 0 < m → reached a xs (m + i) ≡ reached a xs i → length xs ≤ m
    comes_back i m some e = ⊎_elim (λ h. absurd (shut (some_found (λ p. not (on i m p)) (length xs) h))) (λ h. whole h) (tested (some_below (λ p. not (on i m p)) (length xs)))
      where
        whole : some_below (λ p. not (on i m p)) (length xs) ≡ false → length xs ≤ m
        whole h = let l = not_fewer (length xs) (visits i m) (λ p k. found i m p (⊎_elim (λ e. e) (λ e. clash (some_holds (λ p. not (on i m p)) (length xs) p k (ap not e)) h) (tested (on i m p)))) in omega (arith, visits_length i m)

        -- from a position on the way the next one is on the way
        next : (k : ℕ) → k < m → In (reached a xs (suc (k + i))) (visits i m)
        next k l =
            ⊎_elim (λ h. let q : suc k + i ≡ suc (k + i) = omega arith in subst (λ z. In (reached a xs z) (visits i m)) q (visits_in i m (suc k) (ltb-true (suc k) m h)))
            (λ h. let q : suc (k + i) ≡ m + i = omega (arith, ltb-false (suc k) m h) in subst (λ z. In z (visits i m)) (sym (ap (reached a xs) q ∙ e)) (visits_first i m some)) (tested (ltb (suc k) m))

        shut : (p : ℕ) × (p < length xs) × (not (on i m p) ≡ true) → ⊥
        shut (p, l, n) = open_set (on i m) (record {
          not_empty = (reached a xs i, below i, held i m (visits_first i m some));
          not_all = (p, l, not-true (on i m p) n);
          stays = stays;
        })
          where
            named : (z : ℤ) → pos 0 ≤ℤ z → z ≡ pos (nat_abs z)
            named (pos n) h = refl
            named (negsuc n) h = absurd (omega (arith, zz))

            stays : (q : ℕ) → q < length xs → on i m q ≡ true → (w : ℤ) → In w (d (get_or xs q 0)) → Stays (length xs) (on i m) w
            stays q h t w n =
                let (k, l, e) = in_visits i m (found i m q t) in
                in_set (reached a xs (suc (k + i))) (only q h n ∙ named (at q) (in_range q h).0 ∙ ap (λ z. pos (nat_abs (at z))) e) (held i m (next k l))

    tour : Meets a (circuit xs)
    tour = (in_range, apart, home (all_met (length xs) (reached a xs) (λ i h. below i) apart (reached a xs (length xs)) (below (length xs))))
      where
        apart : (i j : ℕ) → i < j → j < length xs → reached a xs i ≡ reached a xs j → ⊥
        apart i j h l e = let q : (j - i) + i ≡ j = omega arith in let k = comes_back i (j - i) (omega arith) (ap (reached a xs) q ∙ sym e) in omega arith

        home : (k : ℕ) × (k < length xs) × (reached a xs k ≡ reached a xs (length xs)) → reached a xs (length xs) ≡ 0
        home (zero, l, e) = sym e
        home (suc k, l, e) = absurd (let q : (length xs - suc k) + suc k ≡ length xs = omega arith in let h = comes_back (suc k) (length xs - suc k) (omega arith) (ap (reached a xs) q ∙ sym e) in omega arith)

  circuit_sharp : (xs : List ℕ) → 2 ≤ length xs → All (λ x. x < v) xs → (trapped d xs ≡ false) ↔ Meets a (circuit xs)
  circuit_sharp xs two known = (tour xs two known, λ m. not_so (trapped d xs) (λ e. trapped_refuses d xs e a (λ x i. left_alone x (each_in known i)) m))

  -- ---- the four kinds
  pub sharp_fixed : (f : Fact) (row : Row) → RowInRange v row → Named f row → (conflicts f d row ≡ false) ↔ Meets a row
  sharp_fixed f (linear b ts) h n = linear_sharp b ts h.2
  sharp_fixed f (all_different xs) h n = subst (λ ys. (crowded d ys ≡ false) ↔ Meets a (all_different xs)) (sym (all_kept f xs n)) (crowded_sharp xs h.1)
  sharp_fixed f (cumulative c js) h n = cumulative_sharp c js h.2
  sharp_fixed f (circuit xs) h n = circuit_sharp xs h.0.0 h.1

-- at the point itself
pub sharp : (a : Assignment) (f : Fact) (v : ℕ) (row : Row) → RowInRange v row → Named f row → (conflicts f (point a) row ≡ false) ↔ Meets a row
sharp a f v row h n = sharp_fixed a v (point a) (λ x l. refl) (λ x. (λ w m. absurd (not-in-nil m), tt)) f row h n

known_bounds : (b : Bounds) → BoundsInRange b → KnownBounds b
known_bounds b h = record { low_least = of_le h.low_in.0; low_high = of_le h.high_in.0; high_most = of_le h.high_in.1 }

-- ---- an inference whose box leaves each variable its value alone is refused with 21 exactly where the values meet the row
pub judged : (m : Model) → InRange m → (facts : ℕ → Fact) (a : Assignment) (r : ℕ) (f : Fact) → r < length m.rows → Named f (row_at m r)
    → ((x : ℕ) → x < length m.bounds → left m.bounds (box_of f) x ≡ point a x) → (judge m facts (inference r f) ≡ fails 21 0) ↔ Meets a (row_at m r)
judged m h facts a r f l n fixed = (λ e. sharpness.0 (to e), λ k. ap₂ inferred none (sharpness.1 k))
  where
    none : any_empty m.bounds (box_of f) (length m.bounds) ≡ false
    none = not_so (any_empty m.bounds (box_of f) (length m.bounds)) λ e.
        let (x, k, gone) = ((box_says m.bounds (each_map known_bounds h.bounds_in)).empty_is (box_of f)).0 e in
        gone (a x) (subst (In (a x)) (sym (fixed x k)) (here refl))

    sharpness : (conflicts f (left m.bounds (box_of f)) (row_at m r) ≡ false) ↔ Meets a (row_at m r)
    sharpness = sharp_fixed a (length m.bounds) (left m.bounds (box_of f)) fixed (left_rising m.bounds (box_of f)) f (row_at m r) (each_at_lem (linear (pos 0) []) r l h.rows_in) n

    to : judge m facts (inference r f) ≡ fails 21 0 → conflicts f (left m.bounds (box_of f)) (row_at m r) ≡ false
    to e = go (any_empty m.bounds (box_of f) (length m.bounds)) none (conflicts f (left m.bounds (box_of f)) (row_at m r)) e
      where
        go : (b : Bool) → b ≡ false → (c : Bool) → inferred b c ≡ fails 21 0 → c ≡ false
        go true z c e = clash refl z
        go false z true e = absurd (let q : ◌≡◌ {A = ℕ} 0 1 = cc in omega arith)
        go false z false e = refl

-- ---- an assignment solves the model exactly where the box of no atoms leaves each of its values and no row conflicts at its point
named : (f : Fact) (v : ℕ) → ((x : ℕ) → x < v → Occurs f x) → (row : Row) → RowInRange v row → Named f row
named f v all (linear b ts) h = tt
named f v all (all_different xs) h = each_map all h.1
named f v all (cumulative c js) h = tt
named f v all (circuit xs) h = tt

pub solved : (m : Model) → InRange m → (a : Assignment) (f : Fact) → ((x : ℕ) → x < length m.bounds → Occurs f x)
    → Solves a m ↔ (((x : ℕ) → x < length m.bounds → In (a x) (left m.bounds [] x)) × ((r : ℕ) → r < length m.rows → conflicts f (point a) (row_at m r) ≡ false))
solved m h a f all = (
  λ s. (λ x l. (box.left_is [] x l (a x)).1 (s.0 x l, empty), λ r l. (at r l).1 (each_at_lem none r l s.1)),
  λ s. (λ x l. ((box.left_is [] x l (a x)).0 (s.0 x l)).0, each_from none m.rows (λ r l. (at r l).0 (s.1 r l))),
)
  where
    none : Row
    none = linear (pos 0) []

    box : BoxSays m.bounds
    box = box_says m.bounds (each_map known_bounds h.bounds_in)

    at : (r : ℕ) → r < length m.rows → (conflicts f (point a) (row_at m r) ≡ false) ↔ Meets a (row_at m r)
    at r l = let k = each_at_lem (linear (pos 0) []) r l h.rows_in in sharp a f (length m.bounds) (row_at m r) k (named f (length m.bounds) all (row_at m r) k)
