-- A reader that was refused ends the function by `?`, with the same refusal.
use Rattle.std.specs.Prelude.{ℕ, ◌≡◌, List, ℤ, Result, Err, IsErrAnd}
use Rattle.std.proofs.lemmas.Result.{err_from_is_err_and}
use Rattle.meaning.specs.Read.{Reader, ◌>>=◌}
use Rattle.reading.specs.Told.{Skims}
use Rattle.reading.specs.Over.{stops}
use Rattle.reading.specs.declared.refusals.Refusal.{Refusal}

pub exits : {A B : Type 0} {r : Reader A} (g : A → Reader B) {s : List ℤ} {at : ℕ} {e : Refusal} {p : Result ℕ Refusal} → Skims r s at (Err e) → IsErrAnd p (λ y. y ≡ e) → Skims (r >>= g) s at p
exits g {p} h k = let q = err_from_is_err_and p k in rw (q.1, q.2) (stops g h)
