-- The box of a fact as the words of the tables make it: loaded, narrowed atom by atom, and whether a set of it is empty.
use Prim.Native.Nat.{ℕ, zero, suc, ◌+◌, ◌*◌, ◌≤◌, ◌<◌}
use Rattle.std.specs.Prelude.{◌≡◌, refl, Bool, false, ◌||◌, List, ℤ, length}
use Rattle.std.proofs.Common.{◌∙◌}
use native.Mathlib.Omega.{arith}
use Rattle.words.specs.Lists.{is_empty}
use Rattle.meaning.specs.Limits.{most_premises, most_hints}
use Rattle.domain.specs.Box.{hole_place, variables, Formed, values}
use Rattle.narrowing.specs.Narrow.{Room, opposite, shifted, narrowed}
use Rattle.narrowing.proofs.NarrowFacts.{narrowed_variables, narrowed_formed, narrowed_room, room_one}
use Rattle.narrowing.specs.Load.{loaded, loaded_formed, loaded_variables, loaded_room}
use Rattle.reading.specs.At.{nat_at, int_at}
use Rattle.steps.specs.Facts.{AtomIn}
use Rattle.steps.specs.declared.FactPlace.{FactPlace}
use Rattle.boxes.specs.InTurn.{in_turn, from_all}

-- the cells that the box of a fact needs: for the bounds of v variables, for its premises and its consequent, and for as many hints as a deduction may have
abbrev pub box_room : ℕ → ℕ
box_room v = hole_place v (most_premises + 1 + most_hints)

-- n atoms from p on
abbrev pub AtomsIn : ℕ → List ℤ → ℕ → ℕ → Type 0
AtomsIn v log p n = (i : ℕ) → i < n → AtomIn v log (p + i * 3)

-- the atom at p, and its negation
abbrev pub narrowed_at : List ℤ → ℕ → List ℤ → List ℤ
narrowed_at log p cells = narrowed cells (nat_at log p) (int_at log (p + 1)) (int_at log (p + 2))

abbrev pub narrowed_not : List ℤ → ℕ → List ℤ → List ℤ
narrowed_not log p cells = narrowed cells (nat_at log p) (opposite (int_at log (p + 1))) (shifted (int_at log (p + 1)) (int_at log (p + 2)))

-- n atoms in order
abbrev pub narrowed_each : List ℤ → ℕ → ℕ → List ℤ → List ℤ
narrowed_each log = in_turn (narrowed_at log)

-- q consequents, none or one
abbrev pub narrowed_then : List ℤ → ℕ → ℕ → List ℤ → List ℤ
narrowed_then log zero p cells = cells
narrowed_then log (suc q) p cells = narrowed_not log p cells

abbrev pub filled : List ℤ → ℕ → List ℤ → FactPlace → List ℤ → List ℤ
filled model v log f cells = narrowed_then log f.consequent.many f.consequent.from (narrowed_each log f.premises.many f.premises.from (loaded model 1 v cells))

-- ---- a set is empty
abbrev pub empty_at : List ℤ → ℕ → List ℤ → Bool
empty_at log p cells = is_empty (values cells (nat_at log p))

abbrev pub or_empty : List ℤ → List ℤ → ℕ → Bool → Bool
or_empty log cells p b = empty_at log p cells || b

abbrev pub empty_each : List ℤ → ℕ → ℕ → List ℤ → Bool
empty_each log n p cells = from_all (or_empty log cells) false n p

abbrev pub empty_then : List ℤ → ℕ → ℕ → List ℤ → Bool
empty_then log zero p cells = false
empty_then log (suc q) p cells = empty_at log p cells

abbrev pub box_empty : List ℤ → FactPlace → List ℤ → Bool
box_empty log f cells = empty_each log f.premises.many f.premises.from cells || empty_then log f.consequent.many f.consequent.from cells

-- ---- a box stays one
pub record Boxed (v k : ℕ) (cells : List ℤ) : Type 0 where
  pub formed : Formed cells
  pub counted : variables cells ≡ v
  pub room : Room cells k

module _ (cells : List ℤ) (x : ℕ) (r a : ℤ) {v k : ℕ} where
  pub boxed_narrowed : Boxed v (suc k) cells → x < v → Boxed v k (narrowed cells x r a)
  boxed_narrowed b h =
      let o = room_one cells k b.room in
      record {
        formed = narrowed_formed cells x r a o b.formed (omega (arith, b.counted));
        counted = narrowed_variables cells x r a o ∙ b.counted;
        room = narrowed_room cells x r a o k b.room;
      }

pub boxed_less : {v k : ℕ} {cells : List ℤ} (j : ℕ) → j ≤ k → Boxed v k cells → Boxed v j cells
boxed_less j h b = record { formed = b.formed; counted = b.counted; room = record { fits = omega (arith, b.room.fits); counted = omega (arith, b.room.counted) } }

-- n atoms take n places
module _ (log : List ℤ) where
  pub boxed_each : (n p : ℕ) {v : ℕ} (k : ℕ) (cells : List ℤ) → AtomsIn v log p n → Boxed v (n + k) cells → Boxed v k (narrowed_each log n p cells)
  unfolding in_turn
  boxed_each zero p k cells a b = boxed_less k (omega arith) b
  boxed_each (suc n) p k cells a b =
      let q : p + 0 * 3 ≡ p = omega arith in
      boxed_each n (p + 3) k (narrowed_at log p cells) (λ i h. let e : p + suc i * 3 ≡ (p + 3) + i * 3 = omega arith in rw e at (a (suc i) (omega arith)))
      (boxed_narrowed cells (nat_at log p) _ _ (let e : suc n + k ≡ suc (n + k) = omega arith in rw e at b) (rw q at (a 0 (omega arith))).named.known)

-- the declared bounds, with a place for k holes
pub boxed_loaded : (ws : List ℤ) (p v k : ℕ) (cells : List ℤ) → hole_place v k ≤ length cells → k < 2147483648 → Boxed v k (loaded ws p v cells)
boxed_loaded ws p v k cells h l =
    let f : 2 * v + 2 ≤ length cells = omega arith in
    record { formed = loaded_formed ws p v cells f; counted = loaded_variables ws p v cells f; room = loaded_room ws p v cells f k h l }

-- with no consequent nothing is added
pub then_none : (log : List ℤ) (q p : ℕ) (cells : List ℤ) → q ≤ 1 → (q ≡ 1 → ⊥) → (narrowed_then log q p cells ≡ cells) × (empty_then log q p cells ≡ false)
then_none log zero p cells l n = (refl, refl)
then_none log (suc zero) p cells l n = absurd (n refl)
then_none log (suc (suc q)) p cells l n = absurd (omega arith)
