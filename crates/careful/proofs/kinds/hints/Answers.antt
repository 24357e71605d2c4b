use Rattle.std.proofs.Common.{rules}
use Rattle.meaning.specs.Log.{number_below}
use Rattle.reading.specs.Turns.{turns_skim}
use Rattle.careful.proofs.kinds.hints.Goals as goal

pub returns : goal.returns
returns c = turns_skim (number_below c.args.k.n) c.args.s.now (λ at q h. search rules) _ _ _ c.times.ensures
