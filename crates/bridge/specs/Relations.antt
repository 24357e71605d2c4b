-- A relation by its number, as a log writes it and as `domain` takes it.
use Rattle.std.specs.Prelude.{ℕ, ℤ, pos, nat_abs}
use Rattle.meaning.specs.Log.{Relation, at_most, at_least, equal, not_equal, relation_of, Atom}

abbrev pub number : Relation → ℤ
number at_most = pos 1
number at_least = pos 2
number equal = pos 3
number not_equal = pos 4

-- the atom that three words give
abbrev pub atom_of : ℕ → ℤ → ℤ → Atom
atom_of x r a = record { variable = x; relation = relation_of (nat_abs r); value = a }
