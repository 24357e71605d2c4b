use Rattle.std.proofs.Common.{pos}
use Rattle.meaning.specs.Limits.{most_parts}
use Rattle.meaning.specs.Read.{neg}
use Rattle.reading.specs.Back.{word_back}
use Rattle.reading.specs.Over.{goes, gives, counts}
use Rattle.one_row.proofs.linear.row.Goals as goal

pub returns : goal.returns
returns c = counts 4 5 1 most_parts c.in_ok-next.ensures c.number_at-n.ensures _ (goes c.in_ok-from.ensures (word_back 4 5 (neg 2147483648) (pos 2147483647)) _ (gives _ c.terms.ensures))
