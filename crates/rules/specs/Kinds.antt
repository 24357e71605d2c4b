-- What is known of a row's words, by its kind.
use Rattle.std.specs.Prelude.{ℕ, ◌+◌, ◌<◌, ◌≡◌, refl, List, ℤ, pos, length, get_or, ◌≤ℤ◌}
use Rattle.meaning.specs.Limits.{most_usage}
use Rattle.reading.specs.At.{nat_at}
use Rattle.reading.specs.Kinds.{row_kind}
use Rattle.reading.specs.declared.kinds.RowKind.TheVariants as row
use Rattle.model.specs.Rows.{KindIn, linear_in, all_different_in, cumulative_in, circuit_in, Counted, TermsIn, VariablesIn, ActivitiesIn}

module _ (v : ℕ) (s : List ℤ) (p : ℕ) where
  pub linear_known : {k : ℕ} → row_kind k ≡ row.Linear → KindIn v s p k → Counted 1 s p × (p + 1 < length s) × TermsIn v s (p + 2) (nat_at s p)
  linear_known e (linear_in c b t) = (c, b, t)
  linear_known e (all_different_in c t) = absurd (cc)
  linear_known e (cumulative_in c b r t) = absurd (cc)
  linear_known e (circuit_in c t) = absurd (cc)

  pub all_different_known : {k : ℕ} → row_kind k ≡ row.AllDifferent → KindIn v s p k → Counted 2 s p × VariablesIn v s (p + 1) (nat_at s p)
  all_different_known e (linear_in c b t) = absurd (cc)
  all_different_known e (all_different_in c t) = (c, t)
  all_different_known e (cumulative_in c b r t) = absurd (cc)
  all_different_known e (circuit_in c t) = absurd (cc)

  pub cumulative_known : {k : ℕ} → row_kind k ≡ row.Cumulative → KindIn v s p k
      → Counted 1 s p × (p + 1 < length s) × ((pos 0 ≤ℤ get_or s (p + 1) (pos 0)) × (get_or s (p + 1) (pos 0) ≤ℤ pos most_usage)) × ActivitiesIn v s (p + 2) (nat_at s p)
  cumulative_known e (linear_in c b t) = absurd (cc)
  cumulative_known e (all_different_in c t) = absurd (cc)
  cumulative_known e (cumulative_in c b r t) = (c, b, r, t)
  cumulative_known e (circuit_in c t) = absurd (cc)

  pub circuit_known : {k : ℕ} → row_kind k ≡ row.Circuit → KindIn v s p k → (k ≡ 4) × Counted 2 s p × VariablesIn v s (p + 1) (nat_at s p)
  circuit_known e (linear_in c b t) = absurd (cc)
  circuit_known e (all_different_in c t) = absurd (cc)
  circuit_known e (cumulative_in c b r t) = absurd (cc)
  circuit_known e (circuit_in c t) = (refl, c, t)
