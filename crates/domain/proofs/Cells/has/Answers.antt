-- A value is left exactly where it lies between the ends and is no hole.
use Rattle.std.proofs.Common.{◌≡◌, sym, ◌∙◌, not, ◌&&◌, Bool, List, ℕ, ℤ, ◌<◌, SFits, w32, to_z, of_z, to_z-of_z}
use Rattle.words.specs.Int.{eq_z, fit}
use Rattle.words.specs.Words.{in_z}
use Rattle.words.specs.Lists.{member}
use Rattle.domain.specs.Box.{variables, low_of, high_of, is_hole, values}
use Rattle.domain.specs.Box.Answers.{member_values}
use Rattle.domain.proofs.Cells.has.Goals as goal

-- by what the calls gave
split : (cells : List ℤ) (x : ℕ) (v a b : ℤ) (t : Bool) → SFits w32 v → SFits w32 a → SFits w32 b → x < variables cells → a ≡ low_of cells x → b ≡ high_of cells x → t ≡ in_z (to_z w32 (of_z w32 a)) (to_z w32 (of_z w32 b)) (to_z w32 (of_z w32 v)) → member eq_z v (values cells x) ≡ (t && not (is_hole cells x v))
split cells x v a b t f g h k p q e = member_values cells x k v ∙ rw (← p, ← q, simp to_z-of_z at e)

pub returns-then-in_range : goal.returns-then-in_range
returns-then-in_range c =
    let f = c.ranges.value in
    let g = fit w32 c.low_end.result c.low_end.type_inv in
    let h = fit w32 c.high_end.result c.high_end.type_inv in
    sym
    (split c.args.self.words.now c.args.x.0 c.args.value c.low_end.result c.high_end.result c.in_range.result f g h c.requires c.low_end.ensures c.high_end.ensures c.in_range.ensures
    ∙ rw (c.if-in_range.true, simp to_z-of_z at c.is_hole.ensures))

pub returns-else-in_range : goal.returns-else-in_range
returns-else-in_range c =
    let f = c.ranges.value in
    let g = fit w32 c.low_end.result c.low_end.type_inv in
    let h = fit w32 c.high_end.result c.high_end.type_inv in
    sym
    (split c.args.self.words.now c.args.x.0 c.args.value c.low_end.result c.high_end.result c.in_range.result f g h c.requires c.low_end.ensures c.high_end.ensures c.in_range.ensures
    ∙ rw c.if-in_range.false)
