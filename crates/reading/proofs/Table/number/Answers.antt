use Rattle.reading.specs.Numbered.{skims_count}
use Rattle.reading.proofs.Table.number.Goals as goal

pub returns : goal.returns
returns c = skims_count _ _ c.args.lo c.args.hi c.at.ensures c.at-2.ensures c.number.ensures
