use Rattle.meaning.specs.Limits.{most_parts, most_usage}
use Rattle.reading.specs.Back.{count_back}
use Rattle.reading.specs.Over.{goes, gives, counts}
use Rattle.one_row.proofs.cumulative.row.Goals as goal

pub returns : goal.returns
returns c = counts 4 5 1 most_parts c.in_ok-next.ensures c.number_at-n.ensures _ (goes c.in_ok-from.ensures (count_back 4 5 0 most_usage) _ (gives _ c.activities.ensures))
