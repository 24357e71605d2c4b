-- A law of ℤ's order by name. What `omega` is told of integers is in Int.
use Rattle.std.proofs.Common.{arith}
use Rattle.std.specs.Prelude.{ℤ, ◌≤ℤ◌, ◌<ℤ◌}
use Rattle.words.specs.Int.{zz, nle_read}

pub not_≤ : (a b : ℤ) → (a ≤ℤ b → ⊥) → b <ℤ a
not_≤ a b h = omega (arith, zz, nle_read h)
