-- Nothing but what a function of this crate returns meets what it ensures: two answers that both do are equal.
use Rattle.std.specs.Prelude.{ℕ, ◌≡◌, ℤ, pos, nat_abs}
use Rattle.std.proofs.Common.{sym, ap, ◌∙◌}

-- where the contract is an equation of the answer, or of the table afterwards: every function but `index`
pub only_equal : {A : Type 0} {told r s : A} → r ≡ told → s ≡ told → r ≡ s
only_equal e f = e ∙ sym f

pub only_index : (x : ℤ) (r s : ℕ) → pos r ≡ x → pos s ≡ x → r ≡ s
only_index x r s e f = ap nat_abs (e ∙ sym f)
