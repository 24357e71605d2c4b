-- Where there is no hole, a value is none.
use Rattle.std.proofs.Common.{sym, arith, ◌∙◌, le-ltb}
use Rattle.domain.specs.Box.Walk.{no_holes}
use Rattle.domain.proofs.Cells.is_hole.Goals as goal

pub returns-else-holes-gt0 : goal.returns-else-holes-gt0
returns-else-holes-gt0 c =
    let e = c.holes.ensures.0 in
    le-ltb 0 c.holes.result c.if-holes-gt0.false ∙ sym (no_holes c.args.self.words.now c.args.x.0 c.args.value (let z = c.if-holes-gt0.false in omega arith))
