-- What an atom does to a box: its variable keeps the values that meet it, every other variable keeps all, and the table stays a box.
use Rattle.std.specs.Prelude.{Bool, true, ◌&&◌, ℕ, ◌+◌, ◌≤◌, ◌<◌, ◌+ℤ◌, ◌-ℤ◌, set}
use Rattle.std.proofs.Math.Bool.{false}
use Rattle.std.specs.Prelude.{Option, None, Some}
use mathlib.Core.List.{List}
use Rattle.std.proofs.Math.IntN.{ℤ, pos}
use Rattle.std.proofs.Math.ListN.{length}
use Rattle.std.specs.Int.Signed.{le_z, lt_z}
use Rattle.words.specs.Lists.{keep}
use Rattle.domain.specs.Sets.{first_of, last_of, first_from, last_to, but}
use Rattle.domain.specs.Box.{variables, holes, low_place, high_place, hole_place, low_of, high_of, values, by_relation, stands}

-- ---- a relation's negation
-- an atom's negation: not "at most a" is "at least a + 1", and so on
abbrev pub opposite : ℤ → ℤ
opposite r = by_relation r (pos 2) (pos 1) (pos 4) (pos 3)

abbrev pub shifted : ℤ → ℤ → ℤ
shifted r a = by_relation r (a +ℤ pos 1) (a -ℤ pos 1) a a

-- ---- the box after an atom: x stands to a in the relation r. The ends move to values that are left, and a value between them becomes a hole
abbrev pub put : List ℤ → ℕ → ℤ → ℤ → List ℤ
put cells x a b = set (set cells (low_place x) a) (high_place x) b

abbrev pub bounded : List ℤ → ℕ → Option ℤ → Option ℤ → List ℤ
bounded cells x None g = put cells x (pos 1) (pos 0)
bounded cells x (Some a) None = put cells x (pos 1) (pos 0)
bounded cells x (Some a) (Some b) = put cells x a b

unfoldable pub holed : List ℤ → ℕ → ℤ → List ℤ
holed cells x a = set (set (set cells (hole_place (variables cells) (holes cells)) (pos x)) (hole_place (variables cells) (holes cells) + 1) a) 1 (pos (holes cells + 1))

abbrev pub between : List ℤ → ℕ → ℤ → Bool
between cells x a = lt_z (low_of cells x) a && lt_z a (high_of cells x)

abbrev pub marked : List ℤ → ℕ → ℤ → Bool → List ℤ
marked cells x a true = holed cells x a
marked cells x a false = cells

-- the box without the value a of x
abbrev pub excluded : List ℤ → ℕ → ℤ → List ℤ
excluded cells x a = bounded (marked cells x a (between cells x a)) x (first_of (but a (values cells x))) (last_of (but a (values cells x)))

-- the box once the values of x before a, seen in a direction, are gone
abbrev pub squeezed : List ℤ → ℕ → Bool → ℤ → List ℤ
squeezed cells x true a = bounded cells x (first_from a (values cells x)) (last_of (keep (le_z a) (values cells x)))
squeezed cells x false a = bounded cells x (first_of (keep (λ v. le_z v a) (values cells x))) (last_to a (values cells x))

abbrev pub inside : List ℤ → ℕ → ℤ → ℤ → Bool
inside cells x r a = by_relation r false false false (between cells x a)

-- what is left of x
abbrev pub standing : List ℤ → ℕ → ℤ → ℤ → List ℤ
standing cells x r a = keep (stands r a) (values cells x)

unfoldable pub narrowed : List ℤ → ℕ → ℤ → ℤ → List ℤ
narrowed cells x r a = bounded (marked cells x a (inside cells x r a)) x (first_of (standing cells x r a)) (last_of (standing cells x r a))

-- there is a place for k more holes, and their number is a word
pub record Room (cells : List ℤ) (k : ℕ) : Type 0 where
  pub fits : hole_place (variables cells) (holes cells + k) ≤ length cells
  pub counted : holes cells + k < 2147483648
