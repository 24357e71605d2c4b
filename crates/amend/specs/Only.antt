-- No other answer satisfies the promise of the comparison, and what the answer tells a caller.
use Rattle.std.specs.Prelude.{ℕ, ◌≡◌, refl, true, false, Option, get_or}
use Rattle.std.proofs.Common.{sym, ap, ◌∙◌, arith}
use Rattle.std.proofs.lemmas.Bool.{not-true, not-false}
use Rattle.std.specs.Int.Count.{ones}
use Rattle.meaning.specs.Model.{Model}
use Rattle.meaning.specs.Check.{Good, good, bad, fits_old, changes}
use Rattle.meaning.specs.Check as says
use Rattle.row_set.specs.Bits.{bit_at, packed, ones_packed, bit_packed}
use Rattle.row_set.specs.Whole.{whole_in, set_in, only_set}
use Rattle.amend.specs.Changed.{Answered, changed_if}

pub only_amended : (g : Good) (n : Model) (a b : Option ℕ) → Answered g n (whole_in a) (set_in a) → Answered g n (whole_in b) (set_in b) → a ≡ b
only_amended g n a b p q = only_set a b (p.0 ∙ sym q.0) (p.1 ∙ sym q.1)

-- the old model is bad, or it does not fit the new one
pub data Otherwise (n : Model) : Good → Type 0 where
  refused : Otherwise n bad
  unfit : {o : Model} → fits_old o n ≡ false → Otherwise n (good o)

pub whole_told : {g : Good} {n : Model} {k : ℕ} → Answered g n true k → Otherwise n g
whole_told {g = bad} e = refused
whole_told {g = good o} {n = n} e = unfit (not-true (fits_old o n) (sym e.0))

-- the old model is good and fits the new one: the set has a bit for each row that changed
pub record Partly (g : Good) (n : Model) (set : ℕ) : Type 0 where
  pub old : Model
  pub is : g ≡ good old
  pub fits : fits_old old n ≡ true
  pub bits : (r : ℕ) → bit_at set r ≡ get_or (changes old.rows n.rows) r false
  pub size : ones set ≡ says.ones (changes old.rows n.rows)

pub partly_told : {g : Good} {n : Model} {k : ℕ} → Answered g n false k → Partly g n k
partly_told {g = bad} e = let z : ◌≡◌ {A = ℕ} 0 1 = cc in absurd (omega arith)
partly_told {g = good o} {n = n} {k = k} e =
    let f = not-false (fits_old o n) (sym e.0) in
    let q : k ≡ packed (changes o.rows n.rows) = e.1 ∙ ap (λ b. packed (changed_if b o n)) f in
    let ch = changes o.rows n.rows in
    record { old = o; is = refl; fits = f; bits = λ r. ap (λ s. bit_at s r) q ∙ bit_packed ch r; size = ap ones q ∙ ones_packed ch }
