use Rattle.meaning.specs.Limits.{most_parts}
use Rattle.reading.specs.Over.{gives, counts}
use Rattle.one_row.proofs.distinct.row.Goals as goal

pub returns : goal.returns
returns c = counts 4 5 2 most_parts c.in_ok-next.ensures c.number_at-n.ensures _ (gives _ c.variables.ensures)
