-- The two words of the new hole and the number of holes are written.
use Rattle.std.proofs.Common.{sym, ◌+◌, arith, to_z-of_z}
use Rattle.windows.specs.Window.{small_word}
use Rattle.narrowing.proofs.NarrowFacts.{holed_is}
use Rattle.narrowing.proofs.add_hole.Goals as goal

pub returns : goal.returns
returns c =
    let f = c.ranges.value in
    let n = c.variables-n.ensures in
    let k = c.holes-k.ensures in
    let t = small_word c.args.x.0 (omega arith) in
    let u = small_word (c.holes-k.result + 1) (omega arith) in
    simp (to_z-of_z, t, u) (rw (n.0, k.0) (sym (holed_is c.args.cells.now c.args.x.0 c.args.value)))
