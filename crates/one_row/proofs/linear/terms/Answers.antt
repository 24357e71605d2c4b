use Rattle.std.proofs.Common.{rules}
use Rattle.meaning.specs.Model.{term}
use Rattle.reading.specs.Turns.{turns_skim}
use Rattle.one_row.proofs.linear.terms.Goals as goal

pub returns : goal.returns
returns c = turns_skim (term c.args.v.n) c.args.s.now (λ at q h. search rules) _ _ _ c.times.ensures
