use Rattle.reading.specs.Numbered.{skims_below}
use Rattle.reading.proofs.Table.below.Goals as goal

pub returns : goal.returns
returns c = skims_below _ _ c.args.n c.at.ensures c.at-2.ensures c.below.ensures
