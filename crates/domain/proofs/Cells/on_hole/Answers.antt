-- Where there is no hole, a value is none.
use Rattle.std.proofs.Common.{sym, arith}
use Rattle.domain.specs.Box.Walk.{no_holes}
use Rattle.domain.proofs.Cells.on_hole.Goals as goal

pub returns-then-holes-eq0 : goal.returns-then-holes-eq0
returns-then-holes-eq0 c =
    let e = c.holes.ensures.0 in
    sym (no_holes c.args.self.words.now c.args.x.0 c.args.value (omega arith))
