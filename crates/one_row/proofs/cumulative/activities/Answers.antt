use Rattle.std.proofs.Common.{rules}
use Rattle.meaning.specs.Model.{activity}
use Rattle.reading.specs.Turns.{turns_skim}
use Rattle.one_row.proofs.cumulative.activities.Goals as goal

pub returns : goal.returns
returns c = turns_skim (activity c.args.v.n) c.args.s.now (λ at q h. search rules) _ _ _ c.times.ensures
