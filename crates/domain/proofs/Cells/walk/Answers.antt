-- The walk passes over holes alone.
use Rattle.std.proofs.Common.{sym, ◌∙◌, ◌≡◌, Bool, true, false, List, ℕ, ℤ, pos, ◌≤ℤ◌, w32, SFits, to_z, of_z, to_z-of_z}
use Rattle.words.specs.Int.{fit}
use Rattle.domain.specs.Sides.{onward, precedes, does_precede, not_precedes}
use Rattle.domain.specs.Box.{low_of, high_of, edge}
use Rattle.domain.specs.Box.Answers.{step_between, up_to_edge, walk_hole, walk_found, walk_end}
use Rattle.domain.proofs.Cells.walk.Goals as goal

-- the test is whether the value that is looked at comes before the end
module _ (up : Bool) (cells : List ℤ) (x : ℕ) (v end : ℤ) (t : Bool) (f : SFits w32 end) (e : end ≡ edge up cells x) (p : t ≡ precedes up v (to_z w32 (of_z w32 end))) (a : low_of cells x ≤ℤ v) (b : v ≤ℤ high_of cells x) where
  asked : t ≡ precedes up v (edge up cells x)
  asked = simp to_z-of_z at p ∙ rw e

  -- a value that is not at the end: the next one lies between the ends
  next : t ≡ true → (low_of cells x ≤ℤ onward up v (pos 1)) × (onward up v (pos 1) ≤ℤ high_of cells x)
  next q = step_between cells x up v a b (does_precede up v (edge up cells x) (sym asked ∙ q))

  at_end : t ≡ false → v ≡ edge up cells x
  at_end q = up_to_edge cells x up v a b (not_precedes up v (edge up cells x) (sym asked ∙ q))

pub loop-self-preserved : goal.loop-self-preserved
loop-self-preserved c =
    let k = fit w32 c.onward-v.result c.onward-v.type_inv in
    let i = c.loop-self.invariant in
    let n = next c.args.up c.args.self.words.now c.args.x.0 (to_z w32 c.loop-self.v-bits) c.edge-end.result c.precedes.result (fit w32 c.edge-end.result c.edge-end.type_inv) c.edge-end.ensures c.precedes.ensures i.1 i.2 c.loop-self-test.true in
    simp to_z-of_z (rw c.onward-v.ensures (walk_hole c.args.up _ _ _ i.0 (sym c.is_hole.ensures ∙ c.if-is_hole.true), n.0, n.1))

pub returns-else-is_hole : goal.returns-else-is_hole
returns-else-is_hole c =
    let f = c.ranges.from in
    let i = c.loop-self.invariant in
    simp to_z-of_z at (walk_found c.args.up _ _ _ c.requires.0 i.0 i.1 i.2 (sym c.is_hole.ensures ∙ c.if-is_hole.false))

pub returns-after-loop-self : goal.returns-after-loop-self
returns-after-loop-self c =
    let f = c.ranges.from in
    let i = c.loop-self.invariant in
    let q = at_end c.args.up c.args.self.words.now c.args.x.0 (to_z w32 c.loop-self.v-bits) c.edge-end.result c.precedes.result (fit w32 c.edge-end.result c.edge-end.type_inv) c.edge-end.ensures c.precedes.ensures i.1 i.2 c.loop-self-test.false in
    simp to_z-of_z at (walk_end c.args.up _ _ _ c.args.self.formed c.requires.0 i.0 i.1 i.2 q)
