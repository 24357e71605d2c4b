-- The walk begins at the near end or at `from`, whichever is ahead.
use Rattle.std.proofs.Common.{◌≡◌, sym, subst, ◌∙◌, Bool, not, ℤ, ◌≤ℤ◌, w32, to_z-of_z}
use Rattle.std.specs.Prelude.{refl, true, false, Some}
use Rattle.words.specs.Int.{fit}
use Rattle.domain.specs.Sides.{from_on, further, precedes, does_precede, not_precedes, past_both}
use Rattle.domain.specs.Box.{low_of, high_of, edge, values}
use Rattle.domain.specs.Box.Answers.{between_ends, walk_start, walk_found, start_none, start_same}
use Rattle.domain.proofs.Cells.nearest.Goals.{After-further-start, After-precedes, Else-precedes}
use Rattle.domain.proofs.Cells.nearest.Goals as goal

-- where the walk begins
begins : (c : After-further-start) → c.further-start.result ≡ further c.args.up (edge (not c.args.up) c.args.self.words.now c.args.x.0) c.args.from
begins c =
    let f = fit w32 c.edge-near.result c.edge-near.type_inv in
    let g = c.ranges.from in
    simp to_z-of_z at c.further-start.ensures ∙ rw c.edge-near.ensures

-- and whether that is past the far end
asked : (c : After-precedes) → c.precedes.result ≡ precedes c.args.up (edge c.args.up c.args.self.words.now c.args.x.0) c.further-start.result
asked c =
    let f = fit w32 c.edge-far.result c.edge-far.type_inv in
    let g = fit w32 c.further-start.result c.further-start.type_inv in
    simp to_z-of_z at c.precedes.ensures ∙ rw c.edge-far.ensures

-- else it is between the ends
between : (c : Else-precedes) → (low_of c.args.self.words.now c.args.x.0 ≤ℤ c.further-start.result) × (c.further-start.result ≤ℤ high_of c.args.self.words.now c.args.x.0)
between c =
    let a = begins (goal.at.Else-precedes c).After-further-start in
    let b = asked (goal.at.Else-precedes c).After-precedes in
    between_ends c.args.self.words.now c.args.x.0 c.args.up c.further-start.result (rw a (past_both c.args.up (edge (not c.args.up) c.args.self.words.now c.args.x.0) c.args.from).0)
    (not_precedes c.args.up (edge c.args.up c.args.self.words.now c.args.x.0) c.further-start.result (sym b ∙ c.if-precedes.false))

-- what is found from there on, in the direction asked for, is what is asked
found : (c : After-further-start) (up : Bool) (r : ℤ) → c.args.up ≡ up → Some r ≡ from_on up c.further-start.result (values c.args.self.words.now c.args.x.0) → Some r ≡ from_on c.args.up c.args.from (values c.args.self.words.now c.args.x.0)
found c up r e f =
    subst (λ d. Some r ≡ from_on d c.further-start.result (values c.args.self.words.now c.args.x.0)) (sym e) f
    ∙ rw (begins c) (start_same c.args.self.words.now c.args.x.0 c.args.from c.args.up)

pub returns-then-precedes : goal.returns-then-precedes
returns-then-precedes c =
    let a = begins (goal.at.returns-then-precedes c).After-further-start in
    let b = asked (goal.at.returns-then-precedes c).After-precedes in
    start_none c.args.self.words.now c.args.x.0 c.args.from c.args.up (rw a at (does_precede c.args.up (edge c.args.up c.args.self.words.now c.args.x.0) c.further-start.result (sym b ∙ c.if-precedes.true)))

pub on_hole-requires : goal.on_hole-requires
on_hole-requires c =
    let k = fit w32 c.further-start.result c.further-start.type_inv in
    let n = between (goal.at.on_hole-requires c).Else-precedes in
    simp to_z-of_z (c.requires, n.0, n.1)

pub settle-requires : goal.settle-requires
settle-requires c =
    let k = fit w32 c.further-start.result c.further-start.type_inv in
    let n = between (goal.at.settle-requires c).Else-precedes in
    simp to_z-of_z (c.requires, n.0, n.1)

pub returns-then-up : goal.returns-then-up
returns-then-up c =
    let k = fit w32 c.further-start.result c.further-start.type_inv in
    let m = fit w32 c.settle.result c.settle.type_inv in
    simp to_z-of_z (found (goal.at.returns-then-up c).After-further-start true c.settle.result c.if-up.true (simp to_z-of_z at c.settle.ensures))

pub returns-then-on_hole : goal.returns-then-on_hole
returns-then-on_hole c =
    let k = fit w32 c.further-start.result c.further-start.type_inv in
    let m = fit w32 c.settle-then-on_hole.result c.settle-then-on_hole.type_inv in
    simp to_z-of_z (found (goal.at.returns-then-on_hole c).After-further-start false c.settle-then-on_hole.result c.if-up.false (simp to_z-of_z at c.settle-then-on_hole.ensures))

pub returns : goal.returns
returns c =
    let k = fit w32 c.further-start.result c.further-start.type_inv in
    let n = between (goal.at.returns c).Else-precedes in
    let h = simp to_z-of_z at c.on_hole.ensures in
    let r = walk_found c.args.up c.args.self.words.now c.args.x.0 c.further-start.result c.requires (walk_start c.args.up c.args.self.words.now c.args.x.0 c.further-start.result) n.0 n.1 (sym h ∙ c.if-on_hole.false) in
    simp to_z-of_z (found (goal.at.returns c).After-further-start c.args.up c.further-start.result refl r)
