use Rattle.std.proofs.Common.{rules}
use Rattle.meaning.specs.Model.{bounds_pair}
use Rattle.reading.specs.Turns.{turns_skim}
use Rattle.model.proofs.bounds.pairs.Goals as goal

pub returns : goal.returns
returns c = turns_skim bounds_pair c.args.s.now (λ at q h. search rules) _ _ _ c.times.ensures
