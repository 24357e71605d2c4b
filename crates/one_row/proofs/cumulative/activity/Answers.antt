use Rattle.meaning.specs.Limits.{most_duration}
use Rattle.reading.specs.Back.{below_back, count_back}
use Rattle.reading.specs.Over.{goes, gives}
use Rattle.one_row.proofs.cumulative.activity.Goals as goal

pub returns : goal.returns
returns c = goes c.in_ok-n.ensures (below_back 4 5 c.args.v.n) _ (goes c.in_ok-m.ensures (count_back 4 5 1 most_duration) _ (gives _ c.number-2.ensures))
