-- The sum is that of the parts before, and with one more it is a word.
use Rattle.std.proofs.Common.{ℕ, ◌+◌, ◌≡◌, ◌≤◌, List, ℤ, length, ◌+ℤ◌, arith, sym, SFits, to_z}
use Rattle.std.specs.Int.{w32}
use Rattle.std.proofs.lemmas.Int.{to_z-of_z}
use Rattle.words.specs.Int.{zz, fit}
use Rattle.sure_parts.specs.declared.Part.{Part}
use Rattle.sure_parts.specs.Table.{used_at, load, Sized}
use Rattle.sure_parts.specs.Sizes.{load_none, load_more, load_small}
use Rattle.sure_parts.proofs.sure_at.Goals as goal

-- the load with one activity more, and that it is a word
one_more : (ps : List Part) (t z u : ℤ) (k : ℕ) → Sized ps → k + 1 ≤ length ps → z ≡ load ps t k → u ≡ used_at ps t k → (z +ℤ u ≡ load ps t (k + 1)) × SFits w32 (z +ℤ u)
one_more ps t z u k sized h i q =
    let e : z +ℤ u ≡ load ps t (k + 1) = rw (i, q) (sym (load_more _ _ _)) in
    let few = sized.few in
    let b = load_small ps sized t (k + 1) h in
    (e, rw e (omega (arith, zz)))

pub loop-part-init : goal.loop-part-init
loop-part-init c = sym (load_none _ _ 0)

turn : (c : goal.After-used_at-sum) → (to_z w32 c.loop-part.sum-bits +ℤ c.used_at-sum.result ≡ load c.args.parts.now c.args.t (c.loop-part.part-index + 1)) × SFits w32 (to_z w32 c.loop-part.sum-bits +ℤ c.used_at-sum.result)
turn c =
    let f = c.ranges.t in
    let h : c.loop-part.part-index + 1 ≤ length c.args.parts.now = omega arith in
    one_more _ _ _ _ _ c.requires h (simp to_z-of_z at c.loop-part.invariant) (simp to_z-of_z at c.used_at-sum.ensures)

pub overflow_add-sum : goal.overflow_add-sum
overflow_add-sum c = let m = fit w32 c.used_at-sum.result c.used_at-sum.type_inv in simp to_z-of_z (turn c).1

pub loop-part-preserved : goal.loop-part-preserved
loop-part-preserved c =
    let f = c.ranges.t in
    let m = fit w32 c.used_at-sum.result c.used_at-sum.type_inv in
    let t = (turn c).1 in
    simp to_z-of_z (turn c).0
