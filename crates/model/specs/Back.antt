-- The model's parts read back from a position: bounds and rows, and what is known of their words.
use Rattle.std.specs.Prelude.{ℕ, zero, suc, ◌+◌, ◌*◌, ◌≤◌, ◌≡◌, refl, Bool, true, false, List, [], ◌∷◌, eqb, ℤ, pos, nat_abs, length, get_or, drop, ◌≤ℤ◌}
use Rattle.std.proofs.Common.{subst, arith}
use Rattle.words.specs.Int.{zz, abs_is, one_side}
use Rattle.words.specs.Lists.{member}
use Rattle.meaning.specs.Limits.{most_parts, most_value, most_coefficient, most_duration, most_usage}
use Rattle.meaning.specs.Read.{Got, got, refused, neg}
use Rattle.meaning.specs.Model.{variable_of, fresh_word, fresh, distinct, bounds_pair, term, activity, row_of_kind, row}
use Rattle.reading.specs.At.{At, int_at, nat_at, each_at, Names, Between, Each}
use Rattle.reading.specs.Back.{Known, Back, Ranged, said_as, one, word_back, count_back, below_back, give_back, refuse_back, bind_back, times_back, none_each, more_each, ranged_orders, ranged_size, between_orders}
use Rattle.model.specs.Rows.{bounds_at, term_at, activity_at, row_kind_at, row_at, Counted, TermsIn, VariablesIn, ActivitiesIn, KindIn, linear_in, all_different_in, cumulative_in, circuit_in, RowIn}

two : (p : ℕ) → p + 1 + 1 ≡ p + 2
two p = omega arith

-- ---- bounds: low and high are ordered and within the limit of 0
pub record BoundsIn (s : List ℤ) (p : ℕ) : Type 0 where
  pub fits : p + 2 ≤ length s
  pub low : nat_abs (get_or s p (pos 0)) ≤ most_value
  pub high : nat_abs (get_or s (p + 1) (pos 0)) ≤ most_value
  pub ordered : get_or s p (pos 0) ≤ℤ get_or s (p + 1) (pos 0)

bounds_in : (s : List ℤ) (p : ℕ) → Ranged (neg most_value) (pos most_value) s p → Ranged (int_at s p) (pos most_value) s (p + 1) → BoundsIn s p
bounds_in s p l h =
    let a = int_at s p in
    let b = int_at s (p + 1) in
    let m = ranged_orders (neg most_value) (pos most_value) a l.1 in
    let o = ranged_orders a (pos most_value) b h.1 in
    record { fits = omega (arith, h.0); low = ranged_size most_value (omega arith) a l.1; high = omega (arith, zz, m.0, o.0, o.1, abs_is b, one_side b); ordered = o.0 }

pub bounds_back : Back bounds_pair bounds_at (λ s p. p + 2) BoundsIn
bounds_back =
    said_as (bind_back (word_back 4 5 (neg most_value) (pos most_value)) (λ l. bind_back (word_back 4 5 l (pos most_value)) (λ h. give_back _)))
    (λ s p h. refl)
    (λ s p h. omega arith)
    (λ s p h. bounds_in s p h.0 h.1.0)

-- ---- one part of a row
abbrev TermIn : ℕ → Known
TermIn v s p = (nat_abs (int_at s p) ≤ most_coefficient) × Names v s (p + 1)

term_back : (v : ℕ) → Back (term v) term_at (λ s p. p + 2) (TermIn v)
term_back v =
    said_as (bind_back (word_back 4 5 (neg most_coefficient) (pos most_coefficient)) (λ c. bind_back (below_back 4 5 v) (λ x. give_back _)))
    (λ s p h. refl)
    (λ s p h. omega arith)
    (λ s p h. (ranged_size most_coefficient (omega arith) (int_at s p) h.0.1, h.1.0))

abbrev ActivityIn : ℕ → Known
ActivityIn v s p = Names v s p × Between 1 most_duration s (p + 1) × Between 0 most_usage s (p + 2)

activity_back : (v : ℕ) → Back (activity v) activity_at (λ s p. p + 3) (ActivityIn v)
activity_back v =
    said_as (bind_back (below_back 4 5 v) (λ x. bind_back (count_back 4 5 1 most_duration) (λ d. bind_back (count_back 4 5 0 most_usage) (λ u. give_back _))))
    (λ s p h. rw (two p))
    (λ s p h. omega arith)
    (λ s p h. (h.0, h.1.0, rw (two p) at h.1.1.0))

-- ---- variables of which none stands twice
fresh_by : (b : Bool) (at : ℕ) {x n m y : ℕ} {ws vs : List ℤ} → ◌≡◌ {A = Got ℕ} (elim b [ true ↦ refused 6 at | false ↦ got x n ws ]) (got y m vs) → got x n ws ≡ got y m vs
fresh_by true at e = let q : ◌≡◌ {A = ℕ} 0 1 = cc in absurd (omega arith)
fresh_by false at e = e

fresh_got : (seen : List ℕ) (at : ℕ) (g : Got ℕ) {y m : ℕ} {vs : List ℤ} → fresh_word seen at g ≡ got y m vs → g ≡ got y m vs
fresh_got seen at (got x n ws) e = fresh_by (member eqb x seen) at e
fresh_got seen at (refused num p) e = e

fresh_back : (v : ℕ) (seen : List ℕ) → Back (fresh v seen) nat_at one (Names v)
fresh_back v seen = record { back = λ s at e. (below_back 4 5 v).back s at (fresh_got seen at (variable_of v at (drop at s)) e) }

distinct_back : (v n : ℕ) (seen : List ℕ) → Back (distinct v n seen) (each_at nat_at 1 n) (λ s p. p + n * 1) (Each (Names v) 1 n)
unfolding each_at
distinct_back v zero seen = said_as (give_back {A = List ℕ} []) (λ s p h. refl) (λ s p h. omega arith) (λ s p h. none_each (Names v) 1 s p)
distinct_back v (suc n) seen =
    said_as (bind_back (fresh_back v seen) (λ x. bind_back (distinct_back v n (x ∷ seen)) (λ xs. give_back (x ∷ xs))))
    (λ s p h. refl)
    (λ s p h. omega arith)
    (λ s p h. more_each 1 n s p h.0 (λ l. omega (arith, h.0.inside)) h.1.0)

-- ---- a row: its kind and what comes after it
abbrev pub row_kind_next : ℕ → At ℕ
row_kind_next zero s p = p
row_kind_next (suc zero) s p = p + 2 + nat_at s p * 2
row_kind_next (suc (suc zero)) s p = p + 1 + nat_at s p
row_kind_next (suc (suc (suc zero))) s p = p + 2 + nat_at s p * 3
row_kind_next (suc (suc (suc (suc k)))) s p = p + 1 + nat_at s p

abbrev pub row_next : At ℕ
row_next s p = row_kind_next (nat_at s p) s (p + 1)

counted_in : (lo : ℕ) (s : List ℤ) (p : ℕ) → Between lo most_parts s p → Counted lo s p
counted_in lo s p h = record { inside = h.inside; signless = h.signless; from = h.from; upto = h.upto }

terms_in : (v n : ℕ) (s : List ℤ) (p : ℕ) → p ≤ length s → Each (TermIn v) 2 n s p → TermsIn v s p n
terms_in v n s p l e = record { fits = e.fits l; small = λ i h. (e.each i h).0; named = λ i h. (e.each i h).1 }

variables_in : (v n : ℕ) (s : List ℤ) (p : ℕ) → p ≤ length s → Each (Names v) 1 n s p → VariablesIn v s p n
variables_in v n s p l e = record { fits = omega (arith, e.fits l); named = λ i h. let q : p + i * 1 ≡ p + i = omega arith in subst (Names v s) q (e.each i h) }

activities_in : (v n : ℕ) (s : List ℤ) (p : ℕ) → p ≤ length s → Each (ActivityIn v) 3 n s p → ActivitiesIn v s p n
activities_in v n s p l e = record { fits = e.fits l; named = λ i h. (e.each i h).0; lasting = λ i h. between_orders (e.each i h).1; uses = λ i h. between_orders (e.each i h).2 }

-- a kind of which document 01 knows nothing is refused
abbrev KindKnown : ℕ → ℕ → Known
KindKnown v k s p = k ≤ 4 → KindIn v s p k

row_kind_back : (v k : ℕ) → Back (row_of_kind v k) (row_kind_at k) (row_kind_next k) (KindKnown v k)
row_kind_back v zero = refuse_back 5 _ _ _
row_kind_back v (suc zero) =
    said_as (bind_back (count_back 4 5 1 most_parts) (λ n. bind_back (word_back 4 5 (neg 2147483648) (pos 2147483647)) (λ b. bind_back (times_back (term_back v) n) (λ ts. give_back _))))
    (λ s p h. rw (two p))
    (λ s p h. omega arith)
    (λ s p h k. linear_in (counted_in 1 s p h.0) h.1.0.0 (terms_in v (nat_at s p) s (p + 2) (omega (arith, h.1.0.0)) (rw (two p) at h.1.1.0)))
row_kind_back v (suc (suc zero)) =
    said_as (bind_back (count_back 4 5 2 most_parts) (λ n. bind_back (distinct_back v n []) (λ xs. give_back _)))
    (λ s p h. refl)
    (λ s p h. omega arith)
    (λ s p h k. all_different_in (counted_in 2 s p h.0) (variables_in v (nat_at s p) s (p + 1) (omega (arith, h.0.inside)) h.1.0))
row_kind_back v (suc (suc (suc zero))) =
    said_as (bind_back (count_back 4 5 1 most_parts) (λ n. bind_back (count_back 4 5 0 most_usage) (λ c. bind_back (times_back (activity_back v) n) (λ acts. give_back _))))
    (λ s p h. rw (two p))
    (λ s p h. omega arith)
    (λ s p h k. cumulative_in (counted_in 1 s p h.0) h.1.0.inside (between_orders h.1.0) (activities_in v (nat_at s p) s (p + 2) (omega (arith, h.1.0.inside)) (rw (two p) at h.1.1.0)))
row_kind_back v (suc (suc (suc (suc k)))) =
    said_as (bind_back (count_back 4 5 2 most_parts) (λ n. bind_back (distinct_back v n []) (λ xs. give_back _)))
    (λ s p h. refl)
    (λ s p h. omega arith)
    (λ s p h l. let q : 4 ≡ suc (suc (suc (suc k))) = omega arith in subst (KindIn v s p) q (circuit_in (counted_in 2 s p h.0) (variables_in v (nat_at s p) s (p + 1) (omega (arith, h.0.inside)) h.1.0)))

pub row_back : (v : ℕ) → Back (row v) row_at row_next (RowIn v)
row_back v = said_as (bind_back (count_back 4 5 1 4) (λ k. row_kind_back v k)) (λ s p h. refl) (λ s p h. refl) (λ s p h. record { inside = h.0.inside; signless = h.0.signless; kind = h.1 h.0.upto })
