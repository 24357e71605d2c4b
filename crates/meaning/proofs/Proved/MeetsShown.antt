-- The examples of rows and of a model: what a rule computes at a point decides whether the row is met.
use Rattle.std.specs.Prelude.{ℕ, zero, suc, ◌<◌, ◌≤◌, ◌≡◌, refl, true, false, List, [], ◌∷◌, get_or, ℤ, pos, negsuc, neg_ℤ}
use Rattle.std.proofs.Common.{arith, inl}
use mathlib.Core.List.Memᴰ.{head as here}
use mathlib.Core.List.Memᴰ.{tail as there}
use Rattle.std.proofs.Math.Option.{none}
use Rattle.std.specs.Int.Signed.{le_z}
use Rattle.words.specs.Lists.{All, empty, also}
use Rattle.words.specs.ListFacts.{clash, le_of, of_le}
use Rattle.meaning.specs.Limits.{most_coefficient, most_duration, most_usage}
use Rattle.meaning.specs.Model.{Row}
use Rattle.meaning.specs.Log.{Atom, at_most, Fact}
use Rattle.meaning.specs.Rule.{conflicts}
use Rattle.meaning.specs.Meets.{Assignment, Meets, Within, Solves}
use Rattle.meaning.specs.Ranges.{TermInRange, ActivityInRange, NoneTwice, RowInRange}
use Rattle.meaning.specs.Point.{point, Named}
use Rattle.meaning.specs.Examples.{given, Splits, sum, difference, different, works, round, small, MeetsExamples}
use Rattle.meaning.proofs.Proved.Sharp.{sharp}

-- a fact that names the three variables
abbrev naming : ℕ → Atom
naming x = record { variable = x; relation = at_most; value = pos 0 }

abbrev three : Fact
three = record { premises = naming 0 ∷ naming 1 ∷ naming 2 ∷ []; consequent = none }

splits : (row : Row) → RowInRange 3 row → Named three row → (met unmet : List ℤ) → conflicts three (point (given met)) row ≡ false → conflicts three (point (given unmet)) row ≡ true → Splits row met unmet
splits row h n met unmet e f = ((sharp (given met) three 3 row h n).0 e, λ m. clash f ((sharp (given unmet) three 3 row h n).1 m))

-- ---- the rows are in range
term_in : (c : ℤ) (x : ℕ) → le_z (neg_ℤ (pos most_coefficient)) c ≡ true → le_z c (pos most_coefficient) ≡ true → x < 3 → TermInRange 3 (record { coefficient = c; variable = x })
term_in c x p q l = record { coefficient_in = (le_of (neg_ℤ (pos most_coefficient)) c p, le_of c (pos most_coefficient) q); variable_in = l }

activity_in : (x d u : ℕ) → x < 3 → (1 ≤ d) × (d ≤ most_duration) → (0 ≤ u) × (u ≤ most_usage) → ActivityInRange 3 (record { start = x; duration = d; usage = u })
activity_in x d u l p q = record { start_in = l; duration_in = p; usage_in = q }

sum_in : RowInRange 3 sum
sum_in = (
  (omega arith, omega arith),
  (le_of (neg_ℤ (pos 2147483648)) (pos 7) refl, le_of (pos 7) (pos 2147483647) refl),
  also (term_in (pos 2) 0 refl refl (omega arith)) (also (term_in (pos 3) 1 refl refl (omega arith)) empty),
)

difference_in : RowInRange 3 difference
difference_in = (
  (omega arith, omega arith),
  (le_of (neg_ℤ (pos 2147483648)) (negsuc 0) refl, le_of (negsuc 0) (pos 2147483647) refl),
  also (term_in (pos 1) 0 refl refl (omega arith)) (also (term_in (negsuc 0) 1 refl refl (omega arith)) empty),
)

each_small : All (λ x. x < 3) (0 ∷ 1 ∷ 2 ∷ [])
each_small = also {x = 0} (omega arith) (also {x = 1} (omega arith) (also {x = 2} (omega arith) empty))

own : (i : ℕ) → i < 3 → get_or (0 ∷ 1 ∷ 2 ∷ []) i 0 ≡ i
own zero l = refl
own (suc zero) l = refl
own (suc (suc zero)) l = refl
own (suc (suc (suc i))) l = absurd (omega arith)

none_twice : NoneTwice (0 ∷ 1 ∷ 2 ∷ [])
none_twice i j l k e = let p = own i (omega arith) in let q = own j k in omega arith

different_in : RowInRange 3 different
different_in = ((omega arith, omega arith), each_small, none_twice)

round_in : RowInRange 3 round
round_in = ((omega arith, omega arith), each_small, none_twice)

works_in : RowInRange 3 works
works_in = (
  (omega arith, omega arith),
  (omega arith, omega arith),
  also (activity_in 0 2 1 (omega arith) (omega arith, omega arith) (omega arith, omega arith))
      (also (activity_in 1 2 1 (omega arith) (omega arith, omega arith) (omega arith, omega arith))
      (also (activity_in 2 1 2 (omega arith) (omega arith, omega arith) (omega arith, omega arith)) empty)),
)

all_named : Named three different
all_named = also (naming 0, inl (here refl), refl) (also (naming 1, inl (there (here refl)), refl) (also (naming 2, inl (there (there (here refl))), refl) empty))

-- ---- the model
first_met : {a : Assignment} → Solves a small → Meets a difference
first_met (w, also m ms) = m

pub meets_examples : MeetsExamples
meets_examples = record {
  at_the_bound = splits sum sum_in tt (pos 2 ∷ pos 1 ∷ []) (pos 1 ∷ pos 2 ∷ []) refl refl;
  below_zero = splits difference difference_in tt (negsuc 2 ∷ negsuc 1 ∷ []) (negsuc 1 ∷ negsuc 1 ∷ []) refl refl;
  all_apart = splits different different_in all_named (negsuc 0 ∷ pos 0 ∷ pos 1 ∷ []) (pos 1 ∷ pos 0 ∷ pos 1 ∷ []) refl refl;
  two_apart = splits different different_in all_named (pos 3 ∷ pos 2 ∷ pos 1 ∷ []) (pos 2 ∷ pos 2 ∷ pos 1 ∷ []) refl refl;
  at_capacity = splits works works_in tt (pos 0 ∷ pos 0 ∷ pos 2 ∷ []) (pos 0 ∷ pos 0 ∷ pos 1 ∷ []) refl refl;
  before_zero = splits works works_in tt (negsuc 1 ∷ pos 5 ∷ pos 0 ∷ []) (negsuc 1 ∷ pos 5 ∷ negsuc 0 ∷ []) refl refl;
  one_way = splits round round_in tt (pos 1 ∷ pos 2 ∷ pos 0 ∷ []) (pos 1 ∷ pos 0 ∷ pos 2 ∷ []) refl refl;
  other_way = splits round round_in tt (pos 2 ∷ pos 0 ∷ pos 1 ∷ []) (pos 1 ∷ pos 2 ∷ pos 3 ∷ []) refl refl;
  solved = (within, also ((sharp (given (negsuc 1 ∷ pos 5 ∷ [])) three 3 difference difference_in tt).0 refl) empty);
  row_unmet = λ s. clash refl ((sharp (given (pos 1 ∷ pos 1 ∷ [])) three 3 difference difference_in tt).1 (first_met s));
  too_low = λ s. clash (of_le (s.0 0 (omega arith)).0) refl;
  too_high = λ s. clash (of_le (s.0 1 (omega arith)).1) refl;
}
  where
    within : Within (given (negsuc 1 ∷ pos 5 ∷ [])) small.bounds
    within zero l = (le_of (negsuc 1) (negsuc 1) refl, le_of (negsuc 1) (pos 1) refl)
    within (suc zero) l = (le_of (pos 0) (pos 5) refl, le_of (pos 5) (pos 5) refl)
    within (suc (suc x)) l = absurd (omega arith)
