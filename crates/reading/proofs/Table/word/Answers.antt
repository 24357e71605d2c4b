use Rattle.std.proofs.lemmas.Int.{to_z-of_z}
use Rattle.reading.specs.Numbered.{skims_word}
use Rattle.reading.proofs.Table.word.Goals as goal

pub returns : goal.returns
returns c =
    let l = c.ranges.lo in
    let h = c.ranges.hi in
    skims_word _ _ c.args.lo c.args.hi c.at.ensures c.at-2.ensures (simp to_z-of_z at c.word.ensures)
