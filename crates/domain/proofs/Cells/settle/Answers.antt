-- The value that the window names is the one that is asked for.
use Rattle.std.proofs.Common.{w32, to_z-of_z}
use Rattle.words.specs.Int.{fit}
use Rattle.domain.specs.Box.Answers.{window_end}
use Rattle.domain.proofs.Cells.settle.Goals as goal

pub returns-then-m-gt0 : goal.returns-then-m-gt0
returns-then-m-gt0 c =
    let f = c.ranges.from in
    let g = fit w32 c.window_at.result c.window_at.type_inv in
    let z = fit w32 c.zeros.result c.zeros.type_inv in
    let k = fit w32 c.onward.result c.onward.type_inv in
    let w = rw (simp to_z-of_z at c.window_at.ensures) at (simp to_z-of_z at c.mask-m.ensures) in
    simp to_z-of_z (rw (simp to_z-of_z at c.onward.ensures) (rw c.zeros.ensures (window_end c.args.self.words.now c.args.x.0 c.args.up c.args.from w c.if-m-gt0.true)))
