use Rattle.std.proofs.Common.{length}
use Rattle.checker.specs.Checks.{checks_open}
use Rattle.checker.proofs.check.Goals as goal

-- the walk began
pub returns-in-Ok : goal.returns-in-Ok
returns-in-Ok c =
    let a = c.args in
    checks_open a.model.now a.log.now (length a.places.now) c.in-Ok.plan c.walk.result a.places.now c.walk.new.places c.in-Ok.ensures c.walk.ensures
