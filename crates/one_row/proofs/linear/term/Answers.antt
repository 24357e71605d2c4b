use Rattle.std.proofs.Common.{pos}
use Rattle.meaning.specs.Limits.{most_coefficient}
use Rattle.meaning.specs.Read.{neg}
use Rattle.reading.specs.Back.{word_back}
use Rattle.reading.specs.Over.{goes, gives}
use Rattle.one_row.proofs.linear.term.Goals as goal

pub returns : goal.returns
returns c = goes c.in_ok-n.ensures (word_back 4 5 (neg most_coefficient) (pos most_coefficient)) _ (gives _ c.below.ensures)
