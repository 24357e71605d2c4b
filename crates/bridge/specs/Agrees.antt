-- A table leaves to every variable what the meaning says is left: from loading the declared bounds on, through every atom.
use Rattle.std.specs.Prelude.{◌≡◌, List, [], ◌∷◌, ℤ, length}
use Rattle.domain.specs.Box.{variables, Formed, values}
use Rattle.narrowing.specs.Narrow.{narrowed}
use Rattle.meaning.specs.Model.{Bounds}
use Rattle.meaning.specs.Log.{Atom}
use Rattle.meaning.specs.Box.{left}
use Rattle.bridge.specs.Relations.{number}

pub record Agrees (cells : List ℤ) (bs : List Bounds) (atoms : List Atom) : Type 0 where
  pub formed : Formed cells
  pub counted : variables cells ≡ length bs
  pub same : values cells ≡ left bs atoms

-- ---- one atom more
abbrev pub narrowed_by : List ℤ → Atom → List ℤ
narrowed_by cells c = narrowed cells c.variable (number c.relation) c.value

-- ---- a list of atoms, from the first to the last
abbrev pub narrowed_all : List ℤ → List Atom → List ℤ
narrowed_all cells [] = cells
narrowed_all cells (c ∷ atoms) = narrowed_all (narrowed_by cells c) atoms
