use Rattle.checker.specs.Entry.{sizes_fit, read_so}
use Rattle.checker.proofs.entry.enter.Goals as goal

-- the sizes are right, so it is as the reading of the model leaves it
pub returns : goal.returns
returns c =
    let a = c.args in
    read_so a.model.now a.log.now a.places (sizes_fit a.model.now a.log.now a.places c.in_ok-sizes.ensures) c.read.result c.read.ensures.read
