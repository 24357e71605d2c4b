-- What is known of a box that a row is held against.
use Rattle.std.specs.Prelude.{ℕ, ◌≤◌, ◌<◌, ◌≡◌, false, ℤ, nat_abs}
use mathlib.Core.List.{List, [], ◌∷◌, Memᴰ as In}
use Rattle.std.proofs.Common.{arith}
use Rattle.std.proofs.Props.{props}
use Rattle.meaning.specs.Limits.{most_value}
use Rattle.words.specs.Lists.{is_empty, least, largest}
use Rattle.words.specs.ListFacts.{least_in, largest_in}
use Rattle.domain.specs.Box.{Formed, formed_prop, variables, values}

-- a box that is judged: no set is empty, and its values are those of declared bounds
pub record Ready (cells : List ℤ) : Type 0 where
  pub formed : Formed cells
  pub some_left : (x : ℕ) → x < variables cells → is_empty (values cells x) ≡ false
  pub small : (x : ℕ) (v : ℤ) → In v (values cells x) → nat_abs v ≤ most_value

-- that has one proof at most, so it can be a fact of a struct
pub ready_prop : (cells : List ℤ) → IsProp (Ready cells)
ready_prop cells = Prim.hlevel (props, formed_prop)

-- where every value is small, so are the least and the largest
pub least_small : (k : ℕ) (vs : List ℤ) → ((v : ℤ) → In v vs → nat_abs v ≤ k) → nat_abs (least vs) ≤ k
least_small k [] h = omega arith
least_small k (v ∷ vs) h = h v (least_in v vs)

pub largest_small : (k : ℕ) (vs : List ℤ) → ((v : ℤ) → In v vs → nat_abs v ≤ k) → nat_abs (largest vs) ≤ k
largest_small k [] h = omega arith
largest_small k (v ∷ vs) h = h (largest (v ∷ vs)) (largest_in v vs)
