use Rattle.std.proofs.Common.{rules}
use Rattle.narrowing.specs.Load.{loaded_formed}
use Rattle.domain_cases.proofs.case.Goals as goal

pub atoms-requires : goal.atoms-requires
atoms-requires g c = rw c.load.ensures (loaded_formed _ _ _ _ (search rules))
