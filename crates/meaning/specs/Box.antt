-- The box of a fact: the values that its premises and its negated consequent leave to each variable within the declared bounds. A box is the list of its atoms.
use Rattle.std.specs.Prelude.{ℕ, zero, suc, Bool, false, not, ◌||◌, List, [], ◌∷◌, eqb, ℤ, pos, nat_abs, ◌+ℤ◌, ◌-ℤ◌}
use Rattle.std.proofs.Math.Option.{Option, none, some}
use Rattle.std.specs.Int.Signed.{le_z}
use Rattle.words.specs.Int.{eq_z}
use Rattle.words.specs.Lists.{all, keep, span, is_empty}
use Rattle.meaning.specs.Model.{Bounds}
use Rattle.meaning.specs.Log.{Relation, at_most, at_least, equal, not_equal, Atom, Fact}

abbrev pub meets : Relation → ℤ → ℤ → Bool
meets at_most v a = le_z v a
meets at_least v a = le_z a v
meets equal v a = eq_z v a
meets not_equal v a = not (eq_z v a)

-- not "at most a" is "at least a + 1", and so on
abbrev pub opposite : Relation → Relation
opposite at_most = at_least
opposite at_least = at_most
opposite equal = not_equal
opposite not_equal = equal

abbrev pub shifted : Relation → ℤ → ℤ
shifted at_most a = a +ℤ pos 1
shifted at_least a = a -ℤ pos 1
shifted equal a = a
shifted not_equal a = a

abbrev pub negated : Atom → Atom
negated c = record { variable = c.variable; relation = opposite c.relation; value = shifted c.relation c.value }

-- "false" adds nothing
abbrev pub add_negated : Option Atom → List Atom → List Atom
add_negated none atoms = atoms
add_negated (some c) atoms = negated c ∷ atoms

abbrev pub box_of : Fact → List Atom
box_of f = add_negated f.consequent f.premises

-- the value v of x meets the atom, or the atom speaks of another variable. An atom's value may lie outside the declared bounds
abbrev pub met_by : ℕ → ℤ → Atom → Bool
met_by x v c = not (eqb x c.variable) || meets c.relation v c.value

-- the values from low to high, in a good model at least one
abbrev pub declared : Bounds → List ℤ
declared b = span b.low (suc (nat_abs (b.high -ℤ b.low)))

abbrev pub declared_at : List Bounds → ℕ → List ℤ
declared_at [] x = []
declared_at (b ∷ bs) zero = declared b
declared_at (b ∷ bs) (suc x) = declared_at bs x

-- the values left to x, rising. They are one by one, so a hole is a hole wherever it lies, and one at an end moves the end
abbrev pub left : List Bounds → List Atom → ℕ → List ℤ
left bs atoms x = keep (λ v. all (met_by x v) atoms) (declared_at bs x)

-- of the first n variables, some has no value left: asked of all variables of the model, whether or not a row or an atom names them
abbrev pub any_empty : List Bounds → List Atom → ℕ → Bool
any_empty bs atoms zero = false
any_empty bs atoms (suc n) = is_empty (left bs atoms n) || any_empty bs atoms n
