-- Several calls in turn, each from where the one before it ended: what the last one says, or the first refusal.
use Rattle.std.specs.Prelude.{ℕ, zero, suc, ◌+◌, ◌-◌, ◌≤◌, ◌<◌, ◌≡◌, refl, List, ℤ, drop, Result, Ok, Err}
use Rattle.std.proofs.Common.{sym, ap, ◌∙◌, arith}
use Rattle.meaning.specs.Read.{Reader, times}
use Rattle.reading.specs.Reading.{times_more, times_stop}
use Rattle.reading.specs.Told.{told_past, Skims}
use Rattle.reading.specs.declared.refusals.Refusal.{Refusal}

abbrev pub Says : Type 1
Says = ℕ → Result ℕ Refusal → Type 0

-- after a call that said q
abbrev pub Onward : (ℕ → Type 0) → Result ℕ Refusal → Result ℕ Refusal → Type 0
Onward k p (Ok m) = k m
Onward k p (Err e) = p ≡ Err e

unfoldable pub Turns : Says → ℕ → ℕ → Result ℕ Refusal → Type 0
Turns one zero at p = p ≡ Ok at
Turns one (suc n) at p = (q : Result ℕ Refusal) × one at q × Onward (λ m. Turns one n m p) p q

suc_rest : {n i : ℕ} → i < n → n - i ≡ suc (n - (i + 1))
suc_rest l = omega arith

-- one call more, of n after i
pub turn_over : (one : Says) {n i : ℕ} (at : ℕ) {m : ℕ} (p : Result ℕ Refusal) → i < n → one at (Ok m) → Turns one (n - (i + 1)) m p → Turns one (n - i) at p
unfolding Turns
turn_over one at {m} p l h k = let e = suc_rest l in rw e (Ok m, h, k)

-- it was refused
pub turn_stops : (one : Says) {n i : ℕ} (at : ℕ) {e : Refusal} → i < n → one at (Err e) → Turns one (n - i) at (Err e)
unfolding Turns
turn_stops one at {e} l h = let q = suc_rest l in rw q (Err e, h, refl)

-- none is left
pub turns_end : (one : Says) {n i : ℕ} → n ≤ i → (at : ℕ) → Turns one (n - i) at (Ok at)
unfolding Turns
turns_end one {n} {i} l at = let e : n - i ≡ 0 = omega arith in rw e refl

-- if each call reads over what r says, all of them read n in turn
module _ {A : Type 0} (r : Reader A) (s : List ℤ) where
  one_over : (n at : ℕ) (q p : Result ℕ Refusal) (T : ℕ → Type 0) → ((m : ℕ) → T m → Skims (times n r) s m p) → Skims r s at q → Onward T p q → Skims (times (suc n) r) s at p
  one_over n at (Ok m) p T f h k = record { told = (f m k).told ∙ sym (times_more r n at (drop at s) (sym h.told)) }
  one_over n at (Err e) p T f h k = record { told = ap (told_past s) k ∙ sym (times_stop r n at (drop at s) (sym h.told)) }

  pub turns_skim : {one : Says} → ((at : ℕ) (q : Result ℕ Refusal) → one at q → Skims r s at q) → (n at : ℕ) (p : Result ℕ Refusal) → Turns one n at p → Skims (times n r) s at p
  unfolding Turns
  turns_skim f zero at p t = record { told = ap (told_past s) t }
  turns_skim {one} f (suc n) at p (q, h, k) = one_over n at q p (λ m. Turns one n m p) (λ m t. turns_skim f n m p t) (f at q h) k
