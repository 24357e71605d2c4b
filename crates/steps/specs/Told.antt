-- The step whose parts stand at such places, and the places of the step that begins at a position.
use Rattle.std.specs.Prelude.{ℕ, zero, suc, ◌+◌, List, ℤ}
use Rattle.meaning.specs.Log.{inference, deduction, no_assignment, never_below}
use Rattle.meaning.specs.Log as log
use Rattle.reading.specs.At.{int_at, nat_at, each_at}
use Rattle.steps.specs.Facts.{fact_of, place_at, fact_next}
use Rattle.steps.specs.declared.Step.{Step}
use Rattle.steps.specs.declared.Step.TheVariants as step

abbrev pub step_of : List ℤ → Step → log.Step
step_of s (step.Inference r f) = inference r.0 (fact_of s f)
step_of s (step.Deduction f h) = deduction (fact_of s f) (each_at nat_at 1 h.many s h.from)
step_of s (step.NoAssignment k) = no_assignment k.0
step_of s (step.NeverBelow x a k) = never_below x.0 a k.0

-- the kind is n, and its parts begin at p: an inference's fact stands behind its row number, a deduction's at once and its hints one word behind the fact
abbrev pub placed_kind : ℕ → List ℤ → ℕ → Step
placed_kind zero s p = step.NeverBelow (record { 0 = nat_at s p }) (int_at s (p + 1)) (record { 0 = nat_at s (p + 2) })
placed_kind (suc zero) s p = step.Inference (record { 0 = nat_at s p }) (place_at s (p + 1))
placed_kind (suc (suc zero)) s p = step.Deduction (place_at s p) (record { from = fact_next s p + 1; many = nat_at s (fact_next s p) })
placed_kind (suc (suc (suc zero))) s p = step.NoAssignment (record { 0 = nat_at s p })
placed_kind (suc (suc (suc (suc n)))) s p = step.NeverBelow (record { 0 = nat_at s p }) (int_at s (p + 1)) (record { 0 = nat_at s (p + 2) })

abbrev pub placed : List ℤ → ℕ → Step
placed s p = placed_kind (nat_at s p) s (p + 1)
