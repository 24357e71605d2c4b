-- The end that moves is at the value that was found, the other one stays.
use Rattle.std.proofs.Common.{sym, ◌∙◌, rules, w32, SFits, to_z-of_z}
use Rattle.words.specs.Int.{fit}
use Rattle.narrowing.proofs.NarrowFacts.{squeezed_up, squeezed_down}
use Rattle.narrowing.proofs.squeeze.Goals as goal

pub returns-then-up : goal.returns-then-up
returns-then-up c =
    let f = c.ranges.from in
    let g = fit w32 c.high_end-high.result c.high_end-high.type_inv in
    let v : SFits w32 c.in-Some.v = search rules in
    simp to_z-of_z at c.put-then-up.ensures
    ∙ rw (c.high_end-high.ensures, c.if-up.true) (squeezed_up c.args.cells.now c.args.x.0 c.args.from c.requires.0 c.requires.1 (sym c.in-Some.is ∙ rw c.if-up.true at (simp to_z-of_z at c.nearest.ensures)))

pub returns-else-up : goal.returns-else-up
returns-else-up c =
    let f = c.ranges.from in
    let g = fit w32 c.low_end-low.result c.low_end-low.type_inv in
    let v : SFits w32 c.in-Some.v = search rules in
    simp to_z-of_z at c.put-else-up.ensures
    ∙ rw (c.low_end-low.ensures, c.if-up.false) (squeezed_down c.args.cells.now c.args.x.0 c.args.from c.requires.0 c.requires.1 (sym c.in-Some.is ∙ rw c.if-up.false at (simp to_z-of_z at c.nearest.ensures)))
