-- No other answer satisfies the promises.
use Rattle.std.specs.Prelude.{ℕ, ◌≡◌, List, ℤ, Result}
use Rattle.std.proofs.Common.{sym, ◌∙◌}
use Rattle.meaning.specs.Log.{step}
use Rattle.reading.specs.Told.{Skims}
use Rattle.reading.specs.Only.{only_past}
use Rattle.reading.specs.declared.refusals.Refusal.{Refusal}
use Rattle.steps.specs.Facts.{place_at, made_place}
use Rattle.steps.specs.Told.{placed}
use Rattle.steps.specs.declared.FactPlace.{FactPlace}
use Rattle.steps.specs.declared.Step.{Step}

pub only_read : (v c k : ℕ) (s : List ℤ) (p : ℕ) (a b : Result ℕ Refusal) → Skims (step v c k) s p a → Skims (step v c k) s p b → a ≡ b
only_read v c k s p a b h e = only_past h e

module _ (s : List ℤ) (p : ℕ) where
  pub only_step : (a b : Step) → a ≡ placed s p → b ≡ placed s p → a ≡ b
  only_step a b h k = h ∙ sym k

  pub only_fact : (a b : FactPlace) → a ≡ place_at s p → b ≡ place_at s p → a ≡ b
  only_fact a b h k = h ∙ sym k

  pub only_made : (a b : FactPlace) → a ≡ made_place s p → b ≡ made_place s p → a ≡ b
  only_made a b h k = h ∙ sym k
