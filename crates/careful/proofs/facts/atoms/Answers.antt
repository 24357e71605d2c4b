use Rattle.std.proofs.Common.{rules}
use Rattle.meaning.specs.Log.{atom}
use Rattle.reading.specs.Turns.{turns_skim}
use Rattle.careful.proofs.facts.atoms.Goals as goal

pub returns : goal.returns
returns c = turns_skim (atom c.args.v.n) c.args.s.now (λ at q h. search rules) _ _ _ c.times.ensures
