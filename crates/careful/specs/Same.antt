-- What is read in the same way: none or one in turn and an atom that may be missing, and every number of a kind from 4 on.
use Rattle.std.specs.Prelude.{ℕ, zero, suc, ◌≤◌, ◌≡◌, refl, List, [], ◌∷◌, ℤ, drop, Result}
use Rattle.std.proofs.Common.{sym, ◌∙◌, arith}
use Rattle.std.proofs.Math.Option.{some}
use Rattle.meaning.specs.Read.{times}
use Rattle.meaning.specs.Log.{atom, consequent_of, step_of_kind}
use Rattle.reading.specs.Reading.{skim_give}
use Rattle.reading.specs.Told.{Skims}
use Rattle.reading.specs.declared.refusals.Refusal.{Refusal}

-- none or one in turn
pub then_turns : (v q : ℕ) {s : List ℤ} {at : ℕ} {p : Result ℕ Refusal} → q ≤ 1 → Skims (times q (atom v)) s at p → Skims (consequent_of v q) s at p
then_turns v zero l h = record { told = h.told }
then_turns v (suc zero) {s} {at} l h = record { told = h.told ∙ skim_give (atom v at (drop at s)) (λ a. a ∷ []) ∙ sym (skim_give (atom v at (drop at s)) some) }
then_turns v (suc (suc q)) l h = absurd (omega arith)

-- ---- the last of the four kinds
pub last_kind : (v c k n : ℕ) {s : List ℤ} {at : ℕ} {p : Result ℕ Refusal} → 1 ≤ n → (n ≡ 1 → ⊥) → (n ≡ 2 → ⊥) → (n ≡ 3 → ⊥) → Skims (step_of_kind v 0 k 4) s at p → Skims (step_of_kind v c k n) s at p
last_kind v c k zero l p q r h = absurd (omega arith)
last_kind v c k (suc zero) l p q r h = absurd (p refl)
last_kind v c k (suc (suc zero)) l p q r h = absurd (q refl)
last_kind v c k (suc (suc (suc zero))) l p q r h = absurd (r refl)
last_kind v c k (suc (suc (suc (suc n)))) l p q r h = record { told = h.told }
