-- The row that stands at a position of the model table, and what is known of its words once it was read well.
use Rattle.std.specs.Prelude.{ℕ, zero, suc, ◌+◌, ◌*◌, ◌<◌, ◌≤◌, List, [], ℤ, pos, nat_abs, length, get_or, ◌≤ℤ◌}
use Rattle.meaning.specs.Limits.{most_parts, most_coefficient, most_duration, most_usage}
use Rattle.meaning.specs.Model.{Bounds, Term, Activity, Row, linear, all_different, cumulative, circuit}
use Rattle.reading.specs.At.{At, int_at, nat_at, each_at, Names}

abbrev pub bounds_at : At Bounds
bounds_at s p = record { low = int_at s p; high = int_at s (p + 1) }

abbrev pub term_at : At Term
term_at s p = record { coefficient = int_at s p; variable = nat_at s (p + 1) }

abbrev pub activity_at : At Activity
activity_at s p = record { start = nat_at s p; duration = nat_at s (p + 1); usage = nat_at s (p + 2) }

-- a row of kind k whose words after the kind begin at p: first how many, then the bound or the capacity where it has one, then the parts
abbrev pub row_kind_at : ℕ → At Row
row_kind_at zero s p = circuit []
row_kind_at (suc zero) s p = linear (int_at s (p + 1)) (each_at term_at 2 (nat_at s p) s (p + 2))
row_kind_at (suc (suc zero)) s p = all_different (each_at nat_at 1 (nat_at s p) s (p + 1))
row_kind_at (suc (suc (suc zero))) s p = cumulative (nat_at s (p + 1)) (each_at activity_at 3 (nat_at s p) s (p + 2))
row_kind_at (suc (suc (suc (suc k)))) s p = circuit (each_at nat_at 1 (nat_at s p) s (p + 1))

-- the row whose kind stands at p
abbrev pub row_at : At Row
row_at s p = row_kind_at (nat_at s p) s (p + 1)

-- ---- what is known of a row's words: v is the number of variables, n of its parts, which begin at p

pub record Counted (low : ℕ) (s : List ℤ) (p : ℕ) : Type 0 where
  pub inside : p < length s
  pub signless : pos 0 ≤ℤ get_or s p (pos 0)
  pub from : low ≤ nat_at s p
  pub upto : nat_at s p ≤ most_parts

pub record TermsIn (v : ℕ) (s : List ℤ) (p n : ℕ) : Type 0 where
  pub fits : p + n * 2 ≤ length s
  pub small : (i : ℕ) → i < n → nat_abs (get_or s (p + i * 2) (pos 0)) ≤ most_coefficient
  pub named : (i : ℕ) → i < n → Names v s (p + i * 2 + 1)

pub record VariablesIn (v : ℕ) (s : List ℤ) (p n : ℕ) : Type 0 where
  pub fits : p + n ≤ length s
  pub named : (i : ℕ) → i < n → Names v s (p + i)

pub record ActivitiesIn (v : ℕ) (s : List ℤ) (p n : ℕ) : Type 0 where
  pub fits : p + n * 3 ≤ length s
  pub named : (i : ℕ) → i < n → Names v s (p + i * 3)
  pub lasting : (i : ℕ) → i < n → (pos 1 ≤ℤ get_or s (p + i * 3 + 1) (pos 0)) × (get_or s (p + i * 3 + 1) (pos 0) ≤ℤ pos most_duration)
  pub uses : (i : ℕ) → i < n → (pos 0 ≤ℤ get_or s (p + i * 3 + 2) (pos 0)) × (get_or s (p + i * 3 + 2) (pos 0) ≤ℤ pos most_usage)

-- the words after a row's kind k, which begin at p
pub data KindIn (v : ℕ) (s : List ℤ) (p : ℕ) : ℕ → Type 0 where
  linear_in : Counted 1 s p → p + 1 < length s → TermsIn v s (p + 2) (nat_at s p) → KindIn v s p 1
  all_different_in : Counted 2 s p → VariablesIn v s (p + 1) (nat_at s p) → KindIn v s p 2
  cumulative_in : Counted 1 s p → p + 1 < length s → (pos 0 ≤ℤ get_or s (p + 1) (pos 0)) × (get_or s (p + 1) (pos 0) ≤ℤ pos most_usage) → ActivitiesIn v s (p + 2) (nat_at s p) → KindIn v s p 3
  circuit_in : Counted 2 s p → VariablesIn v s (p + 1) (nat_at s p) → KindIn v s p 4

pub record RowIn (v : ℕ) (s : List ℤ) (p : ℕ) : Type 0 where
  pub inside : p < length s
  pub signless : pos 0 ≤ℤ get_or s p (pos 0)
  pub kind : KindIn v s (p + 1) (nat_at s p)
