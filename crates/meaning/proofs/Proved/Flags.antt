-- A list of flags: how many are set.
use Rattle.std.specs.Prelude.{◌≤◌, Bool, true, false, List, [], ◌∷◌, length}
use Rattle.std.proofs.Common.{arith}
use Rattle.meaning.specs.Check.{ones}

pub ones_length : (s : List Bool) → ones s ≤ length s
ones_length [] = omega arith
ones_length (true ∷ s) = omega (arith, ones_length s)
ones_length (false ∷ s) = omega (arith, ones_length s)
