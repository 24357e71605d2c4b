use Rattle.std.specs.Prelude.{pos}
use Rattle.meaning.specs.Read.{neg}
use Rattle.reading.specs.Numbered.{skims_word}
use Rattle.reading.proofs.Table.within.Goals as goal

pub returns : goal.returns
returns c = skims_word _ _ (neg c.args.most) (pos c.args.most) c.at.ensures c.at-2.ensures c.within.ensures
