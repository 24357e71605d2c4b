-- The kinds of rows and of steps, by their numbers in document 01.
use Rattle.std.specs.Prelude.{ℕ, zero, suc, ◌≤◌, ◌≡◌, refl}
use Rattle.std.proofs.Common.{arith}
use Rattle.reading.specs.declared.kinds.RowKind.{RowKind}
use Rattle.reading.specs.declared.kinds.RowKind.TheVariants as row
use Rattle.reading.specs.declared.kinds.StepKind.{StepKind}
use Rattle.reading.specs.declared.kinds.StepKind.TheVariants as step

abbrev pub row_kind : ℕ → RowKind
row_kind zero = row.Circuit
row_kind (suc zero) = row.Linear
row_kind (suc (suc zero)) = row.AllDifferent
row_kind (suc (suc (suc zero))) = row.Cumulative
row_kind (suc (suc (suc (suc n)))) = row.Circuit

abbrev pub step_kind : ℕ → StepKind
step_kind zero = step.NeverBelow
step_kind (suc zero) = step.Inference
step_kind (suc (suc zero)) = step.Deduction
step_kind (suc (suc (suc zero))) = step.NoAssignment
step_kind (suc (suc (suc (suc n)))) = step.NeverBelow

-- ---- which number a kind has
pub is_linear : (n : ℕ) → row_kind n ≡ row.Linear → n ≡ 1
is_linear zero e = let z : ◌≡◌ {A = ℕ} 0 1 = cc in absurd (omega arith)
is_linear (suc zero) e = refl
is_linear (suc (suc zero)) e = let z : ◌≡◌ {A = ℕ} 0 1 = cc in absurd (omega arith)
is_linear (suc (suc (suc zero))) e = let z : ◌≡◌ {A = ℕ} 0 1 = cc in absurd (omega arith)
is_linear (suc (suc (suc (suc n)))) e = let z : ◌≡◌ {A = ℕ} 0 1 = cc in absurd (omega arith)

pub is_all_different : (n : ℕ) → row_kind n ≡ row.AllDifferent → n ≡ 2
is_all_different zero e = let z : ◌≡◌ {A = ℕ} 0 1 = cc in absurd (omega arith)
is_all_different (suc zero) e = let z : ◌≡◌ {A = ℕ} 0 1 = cc in absurd (omega arith)
is_all_different (suc (suc zero)) e = refl
is_all_different (suc (suc (suc zero))) e = let z : ◌≡◌ {A = ℕ} 0 1 = cc in absurd (omega arith)
is_all_different (suc (suc (suc (suc n)))) e = let z : ◌≡◌ {A = ℕ} 0 1 = cc in absurd (omega arith)

pub is_cumulative : (n : ℕ) → row_kind n ≡ row.Cumulative → n ≡ 3
is_cumulative zero e = let z : ◌≡◌ {A = ℕ} 0 1 = cc in absurd (omega arith)
is_cumulative (suc zero) e = let z : ◌≡◌ {A = ℕ} 0 1 = cc in absurd (omega arith)
is_cumulative (suc (suc zero)) e = let z : ◌≡◌ {A = ℕ} 0 1 = cc in absurd (omega arith)
is_cumulative (suc (suc (suc zero))) e = refl
is_cumulative (suc (suc (suc (suc n)))) e = let z : ◌≡◌ {A = ℕ} 0 1 = cc in absurd (omega arith)

pub is_circuit : (n : ℕ) → row_kind n ≡ row.Circuit → 1 ≤ n → 4 ≤ n
is_circuit zero e h = absurd (omega arith)
is_circuit (suc zero) e h = let z : ◌≡◌ {A = ℕ} 0 1 = cc in absurd (omega arith)
is_circuit (suc (suc zero)) e h = let z : ◌≡◌ {A = ℕ} 0 1 = cc in absurd (omega arith)
is_circuit (suc (suc (suc zero))) e h = let z : ◌≡◌ {A = ℕ} 0 1 = cc in absurd (omega arith)
is_circuit (suc (suc (suc (suc n)))) e h = omega arith

pub is_inference : (n : ℕ) → step_kind n ≡ step.Inference → n ≡ 1
is_inference zero e = let z : ◌≡◌ {A = ℕ} 0 1 = cc in absurd (omega arith)
is_inference (suc zero) e = refl
is_inference (suc (suc zero)) e = let z : ◌≡◌ {A = ℕ} 0 1 = cc in absurd (omega arith)
is_inference (suc (suc (suc zero))) e = let z : ◌≡◌ {A = ℕ} 0 1 = cc in absurd (omega arith)
is_inference (suc (suc (suc (suc n)))) e = let z : ◌≡◌ {A = ℕ} 0 1 = cc in absurd (omega arith)

pub is_deduction : (n : ℕ) → step_kind n ≡ step.Deduction → n ≡ 2
is_deduction zero e = let z : ◌≡◌ {A = ℕ} 0 1 = cc in absurd (omega arith)
is_deduction (suc zero) e = let z : ◌≡◌ {A = ℕ} 0 1 = cc in absurd (omega arith)
is_deduction (suc (suc zero)) e = refl
is_deduction (suc (suc (suc zero))) e = let z : ◌≡◌ {A = ℕ} 0 1 = cc in absurd (omega arith)
is_deduction (suc (suc (suc (suc n)))) e = let z : ◌≡◌ {A = ℕ} 0 1 = cc in absurd (omega arith)

pub is_no_assignment : (n : ℕ) → step_kind n ≡ step.NoAssignment → n ≡ 3
is_no_assignment zero e = let z : ◌≡◌ {A = ℕ} 0 1 = cc in absurd (omega arith)
is_no_assignment (suc zero) e = let z : ◌≡◌ {A = ℕ} 0 1 = cc in absurd (omega arith)
is_no_assignment (suc (suc zero)) e = let z : ◌≡◌ {A = ℕ} 0 1 = cc in absurd (omega arith)
is_no_assignment (suc (suc (suc zero))) e = refl
is_no_assignment (suc (suc (suc (suc n)))) e = let z : ◌≡◌ {A = ℕ} 0 1 = cc in absurd (omega arith)

pub is_never_below : (n : ℕ) → step_kind n ≡ step.NeverBelow → 1 ≤ n → 4 ≤ n
is_never_below zero e h = absurd (omega arith)
is_never_below (suc zero) e h = let z : ◌≡◌ {A = ℕ} 0 1 = cc in absurd (omega arith)
is_never_below (suc (suc zero)) e h = let z : ◌≡◌ {A = ℕ} 0 1 = cc in absurd (omega arith)
is_never_below (suc (suc (suc zero))) e h = let z : ◌≡◌ {A = ℕ} 0 1 = cc in absurd (omega arith)
is_never_below (suc (suc (suc (suc n)))) e h = omega arith
